-- Arithmetic of shares, and that shares of many seats are shares of one value.
use Rattle.std.proofs.Common.{◌≡◌, ℕ, zero, suc, ◌+◌, ◌<◌, ◌≤◌, Bool, true, false, cond, ◌||◌, eqb, ltb, ◌⊎◌, List, [], ◌∷◌, length, sym, refl, ◌∙◌, subst, ap₂, inl, inr, arith}
use Rattle.std.proofs.lemmas.Bool.{cases_Bool, cases_lt, cases_order, cond-true, cond-false, lt-ltb, le-ltb, or_cases}
use Rattle.algebra.specs.Poly.{val, Apart, poly_sum, poly_product}
use Rattle.algebra.specs.Ring.{ops, sub}
use Rattle.algebra.specs.Solver.{◌:=◌, nil, ◌:+◌, ◌:*◌}
use Rattle.algebra.proofs.Interpolation.{one_through, poly_difference, difference_value, difference_short}
use Rattle.algebra.proofs.Poly.{sum_value, product_value, same_value, sum_length, product_length}
use Rattle.algebra.proofs.Solver.{ring2}
use Rattle.protocol.specs.Shares.{Table, count, Laws, Seat, everyone, Shared, Opens, SharesCompute, OpeningsOnce, OpeningsSound}

module _ {E : Type 0} {T : Table E} {set : ℕ → Bool} where
  -- words that are equal at the seats of the set
  pub same : {d : ℕ} {w : ℕ → E} {v : E} (x : ℕ → E) → ((s : ℕ) → Seat T.seats set s → w s ≡ x s) → Shared T set d w v → Shared T set d x v
  same x e f = record { poly = f.poly; small = f.small; through = λ s h. f.through s h ∙ e s h; at_zero = f.at_zero }

  pub wider : {d : ℕ} {w : ℕ → E} {v : E} (k : ℕ) → d ≤ k → Shared T set d w v → Shared T set k w v
  wider k le f = record { poly = f.poly; small = omega arith; through = f.through; at_zero = f.at_zero }

  pub constant : (d : ℕ) (c : E) → Shared T set d (λ s. c) c
  constant d c = record { poly = c ∷ []; small = omega arith; through = λ s h. alone (T.point s); at_zero = alone T.ring.𝟎 }
    where
      alone : (x : E) → val (ops T.ring) (c ∷ []) x ≡ c
      alone x = ring2 T.ring (λ c x. c :+ x :* nil := c) c x refl

  pub sum : {d : ℕ} {w x : ℕ → E} {v y : E} → Shared T set d w v → Shared T set d x y → Shared T set d (λ s. T.ring.◌⊕◌ (w s) (x s)) (T.ring.◌⊕◌ v y)
  sum f g = record {
    poly = poly_sum (ops T.ring) f.poly g.poly;
    small = omega (arith, sum_length T.ring f.poly g.poly);
    through = λ s h. sum_value T.ring f.poly g.poly (T.point s) ∙ ap₂ T.ring.◌⊕◌ (f.through s h) (g.through s h);
    at_zero = sum_value T.ring f.poly g.poly T.ring.𝟎 ∙ ap₂ T.ring.◌⊕◌ f.at_zero g.at_zero;
  }

  pub difference : {d : ℕ} {w x : ℕ → E} {v y : E} → Shared T set d w v → Shared T set d x y → Shared T set d (λ s. sub T.ring (w s) (x s)) (sub T.ring v y)
  difference {d} f g = record {
    poly = poly_difference T.ring f.poly g.poly;
    small = difference_short T.ring (suc d) f.poly g.poly f.small g.small;
    through = λ s h. difference_value T.ring f.poly g.poly (T.point s) ∙ ap₂ (sub T.ring) (f.through s h) (g.through s h);
    at_zero = difference_value T.ring f.poly g.poly T.ring.𝟎 ∙ ap₂ (sub T.ring) f.at_zero g.at_zero;
  }

  pub product : {d e : ℕ} {w x : ℕ → E} {v y : E} → Shared T set d w v → Shared T set e x y → Shared T set (d + e) (λ s. T.ring.◌⊗◌ (w s) (x s)) (T.ring.◌⊗◌ v y)
  product {d} {e} f g = record {
    poly = poly_product (ops T.ring) f.poly g.poly;
    small = product_length T.ring f.poly g.poly d e f.small g.small;
    through = λ s h. product_value T.ring f.poly g.poly (T.point s) ∙ ap₂ T.ring.◌⊗◌ (f.through s h) (g.through s h);
    at_zero = product_value T.ring f.poly g.poly T.ring.𝟎 ∙ ap₂ T.ring.◌⊗◌ f.at_zero g.at_zero;
  }

  -- a multiple is a product by a constant
  pub scaled : {d : ℕ} {w : ℕ → E} {v : E} (k : E) → Shared T set d w v → Shared T set d (λ s. T.ring.◌⊗◌ (w s) k) (T.ring.◌⊗◌ v k)
  scaled {d} k f = wider d (omega arith) (product f (constant 0 k))

pub shares_compute : {E : Type 0} → SharesCompute E
shares_compute T set = record {
  values = λ d f h. record { poly = f; small = h; through = λ s p. refl; at_zero = refl };
  constant = constant;
  wider = λ d k w v le f. wider k le f;
  sum = λ d w x v y f g. sum f g;
  difference = λ d w x v y f g. difference f g;
  scaled = λ d w v k f. scaled k f;
  product = λ d e w x v y f g. product f g;
}

-- the members of a set among the seats 1 to n, in order
abbrev nth : (ℕ → Bool) → ℕ → ℕ → ℕ
nth set zero i = 0
nth set (suc n) i = cond (ltb i (count set n)) (nth set n i) (suc n)

nth_before : (set : ℕ → Bool) (n i : ℕ) → i < count set n → nth set (suc n) i ≡ nth set n i
nth_before set n i h = cond-true (ltb i (count set n)) (nth set n i) (suc n) (lt-ltb i (count set n) h)

nth_last : (set : ℕ → Bool) (n i : ℕ) → count set n ≤ i → nth set (suc n) i ≡ suc n
nth_last set n i h = cond-false (ltb i (count set n)) (nth set n i) (suc n) (le-ltb i (count set n) h)

counted : (b : Bool) (c i : ℕ) → c ≤ i → i < c + cond b 1 0 → b ≡ true
counted true c i low high = refl
counted false c i low high = let z : ⊥ = omega arith in absurd z

at_most_one : (b : Bool) → cond b 1 0 ≤ 1
at_most_one true = omega arith
at_most_one false = omega arith

nth_seat : (set : ℕ → Bool) (n i : ℕ) → i < count set n → Seat n set (nth set n i)
nth_seat set zero i h = let z : ⊥ = omega arith in absurd z
nth_seat set (suc n) i h =
    elim (cases_lt i (count set n)) [
      | inl below ↦
          let a = nth_seat set n i below in
          subst (Seat (suc n) set) (sym (nth_before set n i below)) (record { from = a.from; to = omega arith; member = a.member })
      | inr above ↦
          subst (Seat (suc n) set) (sym (nth_last set n i above))
          (record { from = omega arith; to = omega arith; member = counted (set (suc n)) (count set n) i above h })
    ]

nth_rises : (set : ℕ → Bool) (n i j : ℕ) → i < j → j < count set n → nth set n i < nth set n j
nth_rises set zero i j less h = let z : ⊥ = omega arith in absurd z
nth_rises set (suc n) i j less h =
    let front : i < count set n = omega (arith, at_most_one (set (suc n))) in
    let a = nth_seat set n i front in
    elim (cases_lt j (count set n)) [
      | inl below ↦ omega (arith, nth_rises set n i j less below, nth_before set n i front, nth_before set n j below)
      | inr above ↦ omega (arith, nth_before set n i front, nth_last set n j above)
    ]

nth_differ : (set : ℕ → Bool) (n i j : ℕ) → i < count set n → j < count set n → (i ≡ j → ⊥) → nth set n i ≡ nth set n j → ⊥
nth_differ set n i j hi hj other e =
    elim (cases_order i j) [
      | inl same ↦ other same
      | inr apart ↦ elim apart [ inl less ↦ omega (arith, nth_rises set n i j less hj) | inr more ↦ omega (arith, nth_rises set n j i more hi) ]
    ]

-- two polynomials of degree at most d that agree at more than d seats are one
module _ {E : Type 0} (T : Table E) (laws : Laws T) (set : ℕ → Bool) (d : ℕ) (many : d < count set T.seats) where
  abbrev at : ℕ → ℕ
  at i = nth set T.seats i

  seat : (i : ℕ) → i < suc d → Seat T.seats set (at i)
  seat i h = nth_seat set T.seats i (omega arith)

  apart : Apart T.ring (suc d) (λ i. T.point (at i)) (λ i j. laws.inverse (at i) (at j))
  apart i j hi hj other =
      laws.apart (at i) (at j) (omega (arith, (seat i hi).to)) (omega (arith, (seat j hj).to))
      (nth_differ set T.seats i j (omega arith) (omega arith) other)

  pub one_polynomial : (f g : List E) → length f ≤ suc d → length g ≤ suc d
      → ((s : ℕ) → Seat T.seats set s → val (ops T.ring) f (T.point s) ≡ val (ops T.ring) g (T.point s)) → (x : E) → val (ops T.ring) f x ≡ val (ops T.ring) g x
  one_polynomial f g hf hg agree =
      same_value T.ring f g
      (one_through T.ring (suc d) (λ i. T.point (at i)) (λ i j. laws.inverse (at i) (at j)) apart (λ i. val (ops T.ring) g (T.point (at i))) f g hf hg
      (λ i h. agree (at i) (seat i h))
      (λ i h. refl))

-- so words of more than d seats are shares of one value at most
pub shares_once : {E : Type 0} (T : Table E) → Laws T → (set : ℕ → Bool) (d : ℕ) → d < count set T.seats → (w : ℕ → E) (v u : E) → Shared T set d w v → Shared T set d w u → v ≡ u
shares_once T laws set d many w v u f g =
    sym f.at_zero
    ∙ one_polynomial T laws set d many f.poly g.poly f.small g.small (λ s h. f.through s h ∙ sym (g.through s h)) T.ring.𝟎
    ∙ g.at_zero

pub count_everyone : (n : ℕ) → count everyone n ≡ n
count_everyone zero = refl
count_everyone (suc n) = omega (arith, count_everyone n)

pub openings_once : {E : Type 0} → OpeningsOnce E
openings_once T laws d below row v u f g = shares_once T laws everyone d (omega (arith, count_everyone T.seats)) row v u f g

-- more inside seats than any degree that is opened
pub inside_many : {E : Type 0} (T : Table E) → Laws T → (d : ℕ) → d ≤ T.threshold + T.threshold → d < count T.inside T.seats
inside_many T laws d low = omega arith

-- fewer seats
pub fewer : {E : Type 0} {T : Table E} {d : ℕ} {w : ℕ → E} {v : E} (set : ℕ → Bool) → Opens T d w v → Shared T set d w v
fewer set f = record { poly = f.poly; small = f.small; through = λ s h. f.through s (record { from = h.from; to = h.to; member = refl }); at_zero = f.at_zero }

pub openings_sound : {E : Type 0} → OpeningsSound E
openings_sound T laws d low w v f row e u g =
    shares_once T laws T.inside d (inside_many T laws d low) w u v (same w e (fewer T.inside g)) f

-- a seat of the set with s added is s, or in the set
pub joined : {n : ℕ} (set : ℕ → Bool) (i s : ℕ) → Seat n (λ k. set k || eqb k s) i → (eqb i s ≡ true) ⊎ ((eqb i s ≡ false) × Seat n set i)
joined set i s h =
    elim (cases_Bool (eqb i s)) [
      | inl here ↦ inl here
      | inr other ↦ elim (or_cases (set i) (eqb i s) h.member) [
        | inl inside ↦ inr (other, record { from = h.from; to = h.to; member = inside })
        | inr here ↦ inl here
      ]
    ]
