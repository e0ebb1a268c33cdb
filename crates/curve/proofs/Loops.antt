-- What the loops keep, and their steps.
use Rattle.std.proofs.Common.{◌≡◌, ℕ, zero, suc, ◌+◌, ◌<◌, ◌≤◌, append-nil, eqb, List, [], ◌∷◌, ◌++◌, map, length, get_or, set, sym, refl, ap, ◌∙◌, ap₂, inl, inr, add-one, arith, get_or-set_other, get_or-set_same}
use lib.ListN.{length-map}
use Rattle.std.proofs.Math.Seq.{append_snoc}
use Rattle.std.proofs.lemmas.Bool.{cases_eq, cond-true, cond-false, eq-eqb, ne_eqb}
use Rattle.algebra.specs.Poly.{val, sum_below, product_below, part, factor, lagrange}
use Rattle.algebra.specs.Ring.{CommRing, ops, sub}
use Rattle.curve.specs.Curve.{listed}

-- an element that was read, through a map
pub read_map : {A B : Type 0} (f : A → B) (xs : List A) (i : ℕ) (r : A) (d : B) → i < length xs → r ≡ get_or xs i r → get_or (map f xs) i d ≡ f r
read_map f [] i r d h e = let z : ⊥ = omega arith in absurd z
read_map f (x ∷ xs) zero r d h e = ap f (sym e)
read_map f (x ∷ xs) (suc i) r d h e = let k : i < length xs = omega arith in read_map f xs i r d k e

-- v is the value at x of the coefficients behind those that are left
pub record Horner {R E : Type 0} (K : CommRing E) (e : R → E) (all left : List R) (x v : E) : Type 0 where
  pub done : List R
  pub parts : left ++ done ≡ all
  pub is : v ≡ val (ops K) (map e done) x

-- v is the product of the first j parts of a factor
pub record Factor {E : Type 0} (K : CommRing E) (p : ℕ → E) (u : ℕ → ℕ → E) (x : E) (i j : ℕ) (v : E) : Type 0 where
  pub is : v ≡ product_below K j (part K p u x i)

-- v is the sum of the first i terms of Lagrange's sum
pub record Partial {E : Type 0} (K : CommRing E) (m : ℕ) (p : ℕ → E) (u : ℕ → ℕ → E) (w : ℕ → E) (x : E) (i : ℕ) (v : E) : Type 0 where
  pub is : v ≡ sum_below K i (λ k. K.◌⊗◌ (w k) (factor K m p u x k))

-- the first i places of the row have the values f
pub record Filled {E : Type 0} (row : List E) (f : ℕ → E) (d : E) (i : ℕ) : Type 0 where
  pub at : (k : ℕ) → k < i → get_or row k d ≡ f k

module _ {E : Type 0} {K : CommRing E} where
  module _ {R : Type 0} {e : R → E} {all : List R} {x : E} where
    pub horner_none : {left : List R} (v : E) → left ≡ all → v ≡ K.𝟎 → Horner K e all left x v
    horner_none v whole zero_is = record { done = []; parts = append-nil _ ∙ whole; is = zero_is }

    pub horner_more : {left rest : List R} {v : E} → Horner K e all left x v → (c : R) → left ≡ rest ++ c ∷ [] → (m w : E) → m ≡ K.◌⊗◌ x v → w ≡ K.◌⊕◌ (e c) m → Horner K e all rest x w
    horner_more {left} {rest} h c last m w em ew = record {
      done = c ∷ h.done;
      parts = sym (append_snoc rest c h.done) ∙ ap (λ l. l ++ h.done) (sym last) ∙ h.parts;
      is = ew ∙ ap (K.◌⊕◌ (e c)) (em ∙ ap (K.◌⊗◌ x) h.is);
    }

    pub horner_all : {left : List R} {v : E} → Horner K e all left x v → length left ≡ 0 → v ≡ val (ops K) (map e all) x
    horner_all {left = []} h none = h.is ∙ ap (λ l. val (ops K) (map e l) x) h.parts
    horner_all {left = c ∷ left} h none = let z : ⊥ = omega arith in absurd z

  module _ {p : ℕ → E} {u : ℕ → ℕ → E} {x : E} where
    pub factor_none : (i : ℕ) (v : E) → v ≡ K.𝟏 → Factor K p u x i 0 v
    factor_none i v e = record { is = e }

    -- the seat itself has no part
    pub factor_skip : {i j : ℕ} {v : E} → Factor K p u x i j v → j ≡ i → (w : E) → w ≡ v → Factor K p u x i (j + 1) w
    factor_skip {i} {j} {v} h e w same = record {
      is =
          same
          ∙ h.is
          ∙ sym (K.mul_one (product_below K j (part K p u x i)))
          ∙ ap (K.◌⊗◌ (product_below K j (part K p u x i))) (sym (cond-true (eqb j i) K.𝟏 (K.◌⊗◌ (sub K x (p j)) (u i j)) (eq-eqb j i e)))
          ∙ ap (λ k. product_below K k (part K p u x i)) (sym (add-one j));
    }

    pub factor_more : {i j : ℕ} {v : E} → Factor K p u x i j v → (j ≡ i → ⊥) → (b w : E) → b ≡ K.◌⊗◌ (sub K x (p j)) (u i j) → w ≡ K.◌⊗◌ v b → Factor K p u x i (j + 1) w
    factor_more {i} {j} {v} h other b w eb ew = record {
      is =
          ew
          ∙ ap₂ K.◌⊗◌ h.is (eb ∙ sym (cond-false (eqb j i) K.𝟏 (K.◌⊗◌ (sub K x (p j)) (u i j)) (ne_eqb j i other)))
          ∙ ap (λ k. product_below K k (part K p u x i)) (sym (add-one j));
    }

    pub factor_all : {i j : ℕ} {v : E} (m : ℕ) → Factor K p u x i j v → j ≤ m → m ≤ j → v ≡ factor K m p u x i
    factor_all {i} {j} {v} m h le ge = let same : j ≡ m = omega arith in h.is ∙ ap (λ k. product_below K k (part K p u x i)) same

    module _ {m : ℕ} {f : ℕ → E} where
      pub partial_none : (v : E) → v ≡ K.𝟎 → Partial K m p u f x 0 v
      partial_none v e = record { is = e }

      pub partial_more : {i : ℕ} {v : E} → Partial K m p u f x i v → (a b w : E) → a ≡ factor K m p u x i → b ≡ K.◌⊗◌ (f i) a → w ≡ K.◌⊕◌ v b → Partial K m p u f x (i + 1) w
      partial_more {i} {v} h a b w ea eb ew = record {
        is =
            ew
            ∙ ap₂ K.◌⊕◌ h.is (eb ∙ ap (K.◌⊗◌ (f i)) ea)
            ∙ ap (λ k. sum_below K k (λ k. K.◌⊗◌ (f k) (factor K m p u x k))) (sym (add-one i));
      }

      pub partial_all : {i : ℕ} {v : E} → Partial K m p u f x i v → i ≤ m → m ≤ i → v ≡ lagrange K m p u f x
      partial_all {i} {v} h le ge = let same : i ≡ m = omega arith in h.is ∙ ap (λ k. sum_below K k (λ k. K.◌⊗◌ (f k) (factor K m p u x k))) same

module _ {A E : Type 0} (e : A → E) where
  pub map_set : (xs : List A) (i : ℕ) (v : A) → map e (set xs i v) ≡ set (map e xs) i (e v)
  map_set [] i v = refl
  map_set (x ∷ xs) zero v = refl
  map_set (x ∷ xs) (suc i) v = ap (λ l. e x ∷ l) (map_set xs i v)

  pub filled_none : (xs : List A) (f : ℕ → E) (d : E) → Filled (map e xs) f d 0
  filled_none xs f d = record { at = λ k h. let z : ⊥ = omega arith in absurd z }

  pub filled_more : (xs : List A) {f : ℕ → E} {d : E} {i : ℕ} → Filled (map e xs) f d i → i < length xs → (v : A) → e v ≡ f i → Filled (map e (set xs i v)) f d (i + 1)
  filled_more xs {f} {d} {i} h inside v is = record {
    at = λ k below.
        ap (λ l. get_or l k d) (map_set xs i v)
        ∙ elim (cases_eq k i) [
          | inl same ↦
              let here : i < length (map e xs) = omega (arith, length-map xs e) in
              ap (λ j. get_or (set (map e xs) i (e v)) j d) same ∙ get_or-set_same (map e xs) i (e v) d here ∙ is ∙ ap f (sym same)
          | inr other ↦ let under : k < i = omega arith in get_or-set_other (map e xs) i k (e v) d other ∙ h.at k under
        ];
  }

  pub filled_all : (xs : List A) {f : ℕ → E} {d : E} {i : ℕ} (n : ℕ) → Filled (map e xs) f d i → length xs ≡ n → n ≤ i → map e xs ≡ listed n f
  filled_all xs {f} {d} {i} n h long all = go n (map e xs) f (length-map xs e ∙ long) (λ k below. let under : k < i = omega arith in h.at k under)
    where
      go : (n : ℕ) (l : List E) (f : ℕ → E) → length l ≡ n → ((k : ℕ) → k < n → get_or l k d ≡ f k) → l ≡ listed n f
      go zero [] f e a = refl
      go zero (x ∷ l) f e a = let z : ⊥ = omega arith in absurd z
      go (suc n) [] f e a = let z : ⊥ = omega arith in absurd z
      go (suc n) (x ∷ l) f e a =
          let rest : length l ≡ n = omega arith in
          ap₂ (λ y m. y ∷ m) (a 0 (omega arith)) (go n l (λ k. f (suc k)) rest (λ k below. let up : suc k < suc n = omega arith in a (suc k) up))
