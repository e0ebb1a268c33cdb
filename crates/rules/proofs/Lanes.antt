-- What sums, multiples, moves and products of values do to their lanes.
use Rattle.std.proofs.Common.{◌≡◌, ℕ, suc, pred, ◌+◌, ◌-◌, ◌*◌, ◌%◌, ◌<◌, ◌≤◌, List, [], ◌∷◌, map, length, get_or, set, replicate, sym, refl, ap, ◌∙◌, ap₂, inl, inr, mod-eq_of_lt, mul-zero, zero-mul, mul-one, arith, length-set, get_or-set_other, get_or-set_same}
use native.Mathlib.Nat.{mod-mod, mod_self, add-mod, zero-mod, sub-zero}
use lib.ListN.{length-replicate, length-map, get_or-eq_default}
use Rattle.std.proofs.lemmas.Bool.{cases_eq, cases_lt}
use Rattle.std.proofs.lemmas.Grind.{same_number_lists}
use Rattle.std.proofs.lemmas.List.{get_or_default}
use Rattle.algebra.specs.Quotient.{Shape, Element, modulo, add, negate, scale, zeros}
use Rattle.algebra.proofs.Modulo.{mod_mul_mod, mul_mod_mod}
use Rattle.algebra.proofs.Quotient.{same_element, no_zero}
use Rattle.ring.specs.Model.{ring}
use Rattle.encoding.specs.Encodings.{Enc, Sound, laid}
use Rattle.encoding.specs.Layouts.{positions, read_at}
use Rattle.encoding.specs.declared.layout.Layout.{Layout}
use Rattle.encoding.specs.declared.layout.Layout.TheVariants.{Plain}
use Rattle.encoding.specs.Positions.{sought}
use Rattle.encoding.specs.Product.{terms, Room, zeros_at, length_add, add_at, at_below, minus_at, scale_at, plain_at}
use Rattle.encoding.specs.Sound.{pos, long, here, off, placed, position_low, total_one}
use Rattle.rules.specs.Elements.{value, number_at, picked}

-- every entry is below q
abbrev pub Low : ℕ → List ℕ → Type 0
Low q xs = (k : ℕ) → get_or xs k 0 < q

module _ (s : Shape) where
  abbrev d : ℕ
  d = length s.h

  abbrev q : ℕ
  q = s.q

  pub low_element : (x : Element s) → Low s.q x.0
  low_element x k = at_below s.q (pos s) x.0 k x.1.1

  past_end : (x : Element s) (t : ℕ) → length s.h ≤ t → get_or x.0 t 0 ≡ 0
  past_end x t h = let far : length x.0 ≤ t = omega (arith, x.1.0) in get_or-eq_default x.0 0 far

  none : 0 % s.q ≡ 0
  none = zero-mod s.q

  -- coordinate by coordinate
  pub sum_at : (x y : Element s) (t : ℕ) → get_or ((ring s).◌⊕◌ x y).0 t 0 ≡ (get_or x.0 t 0 + get_or y.0 t 0) % s.q
  unfolding ring
  sum_at x y t = elim (cases_lt t (length s.h)) [
    | inl inside ↦
        let even : length x.0 ≡ length y.0 = x.1.0 ∙ sym y.1.0 in
        let k : t < length x.0 = omega (arith, x.1.0) in
        add_at s.q (pos s) x.0 y.0 t even k
    | inr past ↦ past_end ((ring s).◌⊕◌ x y) t past ∙ sym (ap₂ (λ a b. (a + b) % s.q) (past_end x t past) (past_end y t past) ∙ none)
  ]

  pub negative_at : (x : Element s) (t : ℕ) → get_or ((ring s).neg x).0 t 0 ≡ (s.q - get_or x.0 t 0) % s.q
  unfolding ring
  negative_at x t = elim (cases_lt t (length s.h)) [
    | inl inside ↦ let k : t < length x.0 = omega (arith, x.1.0) in minus_at s.q (pos s) x.0 t k
    | inr past ↦ past_end ((ring s).neg x) t past ∙ sym (ap (λ a. (s.q - a) % s.q) (past_end x t past) ∙ ap (λ a. a % s.q) (sub-zero s.q) ∙ mod_self s.q)
  ]

  -- a plain value times any element: every coordinate is multiplied
  pub multiple_at : (v : ℕ) (y : Element s) (t : ℕ) → get_or ((ring s).◌⊗◌ (value s Plain (v ∷ [])) y).0 t 0 ≡ (v * get_or y.0 t 0) % s.q
  unfolding ring
  multiple_at v y t = elim (cases_lt t (length s.h)) [
    | inl inside ↦
        let n = pred (length s.h) in
        let whole : length s.h ≡ suc n = no_zero (length s.h) s.some in
        let u = laid s Plain (v ∷ []) in
        let front : get_or u 0 0 ≡ v % s.q = here s Plain (v ∷ []) refl 0 (omega arith) in
        let rest : (i : ℕ) → (i ≡ 0 → ⊥) → get_or u i 0 ≡ 0 = λ i other. off s Plain (v ∷ []) i (λ l h e. let first : l ≡ 0 = omega arith in other (sym e ∙ ap (λ j. get_or (0 ∷ []) j 0) first)) in
        let room : Room (suc n) u y.0 = λ i k reach. elim (cases_eq i 0) [
          | inl first ↦ let far : length s.h ≤ k = omega arith in ap (λ z. get_or u i 0 * z) (past_end y k far) ∙ mul-zero (get_or u i 0)
          | inr other ↦ ap (λ z. z * get_or y.0 k 0) (rest i other) ∙ zero-mul (get_or y.0 k 0)
        ] in
        let below : t < suc n = omega arith in
        plain_at s.q (pos s) s.h u y.0 n whole y.1.0 room t below
        ∙ ap (λ z. z % s.q)
        (total_one (suc t) (terms u y.0 t) 0 (omega arith) (λ i less other. ap (λ z. z * get_or y.0 (t - i) 0) (rest i other) ∙ zero-mul (get_or y.0 (t - i) 0))
        ∙ ap₂ ◌*◌ front (ap (λ j. get_or y.0 j 0) (sub-zero t)))
        ∙ mod_mul_mod v (get_or y.0 t 0) s.q
    | inr past ↦ past_end ((ring s).◌⊗◌ (value s Plain (v ∷ [])) y) t past ∙ sym (ap (λ a. (v * a) % s.q) (past_end y t past) ∙ ap (λ a. a % s.q) (mul-zero v) ∙ none)
  ]

  module _ (layout : Layout) where
    abbrev ps : List ℕ
    ps = positions layout (length s.h)

    -- an element with these lanes at its positions, and zero elsewhere
    pub value_at : (x : Element s) (lanes : List ℕ) → length lanes ≡ length (positions layout (length s.h))
        → ((l : ℕ) → l < length (positions layout (length s.h)) → get_or x.0 (get_or (positions layout (length s.h)) l 0) 0 ≡ get_or lanes l 0 % s.q)
        → ((t : ℕ) → ((l : ℕ) → l < length (positions layout (length s.h)) → get_or (positions layout (length s.h)) l 0 ≡ t → ⊥) → get_or x.0 t 0 ≡ 0)
        → x ≡ value s layout lanes
    value_at x lanes count at-lane elsewhere =
        same_element s x (value s layout lanes)
        (same_number_lists x.0 (laid s layout lanes) (x.1.0 ∙ sym (long s layout lanes))
        (λ k h. elim (sought (positions layout (length s.h)) k) [
          | inl found ↦
              ap (λ j. get_or x.0 j 0) (sym found.2)
              ∙ at-lane found.0 found.1
              ∙ sym (here s layout lanes count found.0 found.1)
              ∙ ap (λ j. get_or (laid s layout lanes) j 0) found.2
          | inr nowhere ↦ elsewhere k nowhere ∙ sym (off s layout lanes k nowhere)
        ]))

    module _ (a : List ℕ) (ca : length a ≡ length (positions layout (length s.h))) where
      pub sums : (b : List ℕ) → length b ≡ length (positions layout (length s.h)) → (ring s).◌⊕◌ (value s layout a) (value s layout b) ≡ value s layout (add (modulo s.q) a b)
      sums b cb =
          let even : length a ≡ length b = ca ∙ sym cb in
          value_at ((ring s).◌⊕◌ (value s layout a) (value s layout b)) (add (modulo s.q) a b) (length_add s.q (pos s) a b even ∙ ca)
          (λ l h.
          let k : l < length a = omega arith in
          sum_at (value s layout a) (value s layout b) (get_or (positions layout (length s.h)) l 0)
          ∙ ap₂ (λ x y. (x + y) % s.q) (here s layout a ca l h) (here s layout b cb l h)
          ∙ sym (add-mod (get_or a l 0) (get_or b l 0) s.q)
          ∙ sym (mod-mod (get_or a l 0 + get_or b l 0) s.q)
          ∙ ap (λ z. z % s.q) (sym (add_at s.q (pos s) a b l even k)))
          (λ t nowhere. sum_at (value s layout a) (value s layout b) t ∙ ap₂ (λ x y. (x + y) % s.q) (off s layout a t nowhere) (off s layout b t nowhere) ∙ none)

      pub negatives : Low s.q a → (ring s).neg (value s layout a) ≡ value s layout (negate (modulo s.q) a)
      negatives low =
          value_at ((ring s).neg (value s layout a)) (negate (modulo s.q) a) (length-map a (λ x. (s.q - x) % s.q) ∙ ca)
          (λ l h.
          let k : l < length a = omega arith in
          negative_at (value s layout a) (get_or (positions layout (length s.h)) l 0)
          ∙ ap (λ x. (s.q - x) % s.q) (here s layout a ca l h ∙ mod-eq_of_lt (low l))
          ∙ sym (mod-mod (s.q - get_or a l 0) s.q)
          ∙ ap (λ z. z % s.q) (sym (minus_at s.q (pos s) a l k)))
          (λ t nowhere. negative_at (value s layout a) t ∙ ap (λ x. (s.q - x) % s.q) (off s layout a t nowhere) ∙ ap (λ x. x % s.q) (sub-zero s.q) ∙ mod_self s.q)

      pub multiples : (c : ℕ) → (ring s).◌⊗◌ (value s layout a) (number_at s c 0) ≡ value s layout (scale (modulo s.q) c a)
      multiples c =
          (ring s).mul_comm (value s layout a) (number_at s c 0)
          ∙ ap (λ x. (ring s).◌⊗◌ x (value s layout a)) (same_element s (number_at s c 0) (value s Plain (c ∷ [])) refl)
          ∙ value_at ((ring s).◌⊗◌ (value s Plain (c ∷ [])) (value s layout a)) (scale (modulo s.q) c a) (length-map a (λ x. (c * x) % s.q) ∙ ca)
          (λ l h.
          let k : l < length a = omega arith in
          multiple_at c (value s layout a) (get_or (positions layout (length s.h)) l 0)
          ∙ ap (λ x. (c * x) % s.q) (here s layout a ca l h)
          ∙ mul_mod_mod c (get_or a l 0) s.q
          ∙ sym (mod-mod (c * get_or a l 0) s.q)
          ∙ ap (λ z. z % s.q) (sym (scale_at s.q (pos s) c a l k)))
          (λ t nowhere. multiple_at c (value s layout a) t ∙ ap (λ x. (c * x) % s.q) (off s layout a t nowhere) ∙ ap (λ x. x % s.q) (mul-zero c) ∙ none)

      pub offsets : (c : ℕ) → (ring s).◌⊕◌ (value s layout a) (value s layout (replicate (length (positions layout (length s.h))) c)) ≡ value s layout (map (λ x. (x + c) % s.q) a)
      offsets c =
          sums (replicate (length (positions layout (length s.h))) c) (length-replicate (length (positions layout (length s.h))) c)
          ∙ ap (value s layout) (ap (λ n. add (modulo s.q) a (replicate n c)) (sym ca) ∙ all_more a)
        where
          all_more : (a : List ℕ) → add (modulo s.q) a (replicate (length a) c) ≡ map (λ x. (x + c) % s.q) a
          all_more [] = refl
          all_more (x ∷ a) = ap (λ l. (x + c) % s.q ∷ l) (all_more a)

    -- a plain value moved to a lane
    pub moves : (v k : ℕ) → k < length (positions layout (length s.h))
        → (ring s).◌⊗◌ (value s Plain (v ∷ [])) (number_at s 1 (get_or (positions layout (length s.h)) k (length s.h))) ≡ value s layout (set (zeros (modulo s.q) (positions layout (length s.h))) k v)
    moves v k inside =
        let ps = positions layout (length s.h) in
        let p = get_or ps k (length s.h) in
        let same-p : p ≡ get_or ps k 0 = get_or_default ps k (length s.h) 0 inside in
        let base = zeros (modulo s.q) s.h in
        let wide : length base ≡ length s.h = length-map s.h (λ x. 0) in
        let room : p < length base = omega (arith, position_low layout (length s.h) s.some k inside) in
        let lanes = set (zeros (modulo s.q) ps) k v in
        let blank = zeros (modulo s.q) ps in
        let many : length blank ≡ length ps = length-map ps (λ x. 0) in
        let one : 1 % s.q ≡ 1 = mod-eq_of_lt s.two in
        value_at ((ring s).◌⊗◌ (value s Plain (v ∷ [])) (number_at s 1 p)) lanes (length-set blank k v ∙ many)
        (λ l h. multiple_at v (number_at s 1 p) (get_or ps l 0)
        ∙ elim (cases_eq l k) [
          | inl same ↦
              let k-in : k < length blank = omega arith in
              ap (λ j. (v * get_or (set base p (1 % s.q)) j 0) % s.q) (ap (λ j. get_or ps j 0) same ∙ sym same-p)
              ∙ ap (λ x. (v * x) % s.q) (get_or-set_same base p (1 % s.q) 0 room ∙ one)
              ∙ ap (λ x. x % s.q) (mul-one v ∙ sym (get_or-set_same blank k v 0 k-in) ∙ ap (λ j. get_or lanes j 0) (sym same))
          | inr other ↦
              ap (λ x. (v * x) % s.q)
              (get_or-set_other base p (get_or ps l 0) (1 % s.q) 0 (λ met. other ((placed layout (length s.h) s.some).apart l k h inside (met ∙ same-p)))
              ∙ zeros_at s.q s.h (get_or ps l 0))
              ∙ ap (λ x. x % s.q) (mul-zero v ∙ sym (get_or-set_other blank k l v 0 other ∙ zeros_at s.q ps l))
        ])
        (λ t nowhere. multiple_at v (number_at s 1 p) t
        ∙ ap (λ x. (v * x) % s.q) (get_or-set_other base p t (1 % s.q) 0 (λ met. nowhere k inside (sym same-p ∙ sym met)) ∙ zeros_at s.q s.h t)
        ∙ ap (λ x. x % s.q) (mul-zero v)
        ∙ none)

  -- what an encoding reads from a product of values is its subcircuit, and so is what it keeps
  module _ (E : Enc) (sound : Sound E) (a b : List ℕ) (ca : length a ≡ length (positions E.left (length s.h))) (cb : length b ≡ length (positions E.right (length s.h))) where
    pub products_read : read_at (E.read (length s.h)) ((ring s).◌⊗◌ (value s E.left a) (value s E.right b)).0 ≡ E.sub s.q a b
    unfolding ring
    products_read = sound.law s a b ca cb

    pub products_kept : picked s E ((ring s).◌⊗◌ (value s E.left a) (value s E.right b)) ≡ value s E.out (E.sub s.q a b)
    products_kept = ap (value s E.out) products_read

  -- reading adds, and so does what an encoding keeps
  reads_add : (ps : List ℕ) (x y : Element s) → read_at ps ((ring s).◌⊕◌ x y).0 ≡ add (modulo s.q) (read_at ps x.0) (read_at ps y.0)
  reads_add [] x y = refl
  reads_add (p ∷ ps) x y = ap₂ (λ v l. v ∷ l) (sum_at x y p) (reads_add ps x y)

  pub kept_adds : (E : Enc) → Sound E → (x y : Element s) → picked s E ((ring s).◌⊕◌ x y) ≡ (ring s).◌⊕◌ (picked s E x) (picked s E y)
  kept_adds E sound x y =
      let ps = E.read (length s.h) in
      let many : (z : Element s) → length (read_at ps z.0) ≡ length (positions E.out (length s.h)) = λ z. length-map ps (λ p. get_or z.0 p 0) ∙ sound.one_each (length s.h) s.some in
      ap (value s E.out) (reads_add ps x y) ∙ sym (sums E.out (read_at ps x.0) (many x) (read_at ps y.0) (many y))
