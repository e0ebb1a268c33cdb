-- The ring of four 64-bit coordinates: its sums, differences and products as the code makes them, and its points.
use Rattle.std.specs.Prelude.{◌≡◌, ℕ, zero, suc, ◌+◌, ◌-◌, ◌/◌, ◌%◌, ◌^◌, ◌<◌, Bool, T, List, [], ◌∷◌, map, ◌==◌, slice_index, slice_index_or, refl}
use Rattle.std.proofs.Common.{sym, ap, ap₂, ◌∙◌, div-one, mod-lt, mod-eq_of_lt, arith, lit≤, lit<}
use Rattle.std.proofs.Math.Nat.{mod-mod, add-mod, add-mod-mod}
use Rattle.std.proofs.lemmas.Nat.{field_of}
use Rattle.algebra.specs.Poly.{poly_product}
use Rattle.algebra.specs.Quotient.{modulo, product, unit}
use Rattle.algebra.specs.Ring.{CommRing, ops, sub}
use Rattle.algebra.specs.Solver.{Ex, var, nil, one, ◌:+◌, ◌:-◌, ◌:*◌, value}
use Rattle.algebra.proofs.Expressions.{expressions, value_keeps, keeps_then, CheckAll, solve_all}
use Rattle.algebra.proofs.Keeps.{Keeps, keeps_poly_product, keeps_product}
use Rattle.algebra.proofs.Modulo.{Below, numbers, number_keeps}
use Rattle.algebra.proofs.Quotient.{same_element, reduced_product}
use Rattle.ring.specs.Model.{ring, PointLaws}
use Rattle.ring.specs.Entries.{bit_wraps, either, either_right, other_eqb, same_list, same_list_is, every, every_at}
use Rattle.ring.specs.W4.{w4, four, w4_element, w4_point, w4_entry, w4_points, seven}

abbrev Q : ℕ
Q = 2 ^ 64

abbrev Z : CommRing (Below Q)
Z = numbers Q (lit≤ tt)

sum_mod : (x y : ℕ) → (x + y) % Q % Q ≡ (x % Q + y % Q) % Q
sum_mod x y = mod-mod (x + y) Q ∙ add-mod x y Q

pub sum_is : (x y : List ℕ) → w4_element ((slice_index x 0 + slice_index y 0) % Q ∷ (slice_index x 1 + slice_index y 1) % Q ∷ (slice_index x 2 + slice_index y 2) % Q ∷ (slice_index x 3 + slice_index y 3) % Q ∷ []) ≡ (ring w4).◌⊕◌ (w4_element x) (w4_element y)
unfolding ring
sum_is x y = same_element w4 _ _ (λ i. sum_mod (slice_index x 0) (slice_index y 0) i ∷ sum_mod (slice_index x 1) (slice_index y 1) i ∷ sum_mod (slice_index x 2) (slice_index y 2) i ∷ sum_mod (slice_index x 3) (slice_index y 3) i ∷ [])

-- the wrapping difference
abbrev less : ℕ → ℕ → ℕ
less x y = (x + (Q - y)) % Q

less_mod : (x y : ℕ) → y < Q → less x y % Q ≡ (x % Q + (Q - y % Q) % Q) % Q
less_mod x y h =
    mod-mod (x + (Q - y)) Q ∙ add-mod x (Q - y) Q ∙ ap (λ z. (x % Q + (Q - z) % Q) % Q) (sym (mod-eq_of_lt h))

pub difference_is : (x y : List ℕ) → slice_index y 0 < Q → slice_index y 1 < Q → slice_index y 2 < Q → slice_index y 3 < Q
    → w4_element (less (slice_index x 0) (slice_index y 0) ∷ less (slice_index x 1) (slice_index y 1) ∷ less (slice_index x 2) (slice_index y 2) ∷ less (slice_index x 3) (slice_index y 3) ∷ []) ≡ sub (ring w4) (w4_element x) (w4_element y)
unfolding ring
difference_is x y h0 h1 h2 h3 =
    same_element w4 _ _ (λ i. less_mod (slice_index x 0) (slice_index y 0) h0 i ∷ less_mod (slice_index x 1) (slice_index y 1) h1 i ∷ less_mod (slice_index x 2) (slice_index y 2) h2 i ∷ less_mod (slice_index x 3) (slice_index y 3) h3 i ∷ [])

-- expressions over numbers below 2^64, as numbers
module _ (xs : List (Below Q)) where
  abbrev num : Ex → ℕ
  num e = (value Z (λ i. slice_index_or xs i Z.𝟎) e).0

  num_keeps : Keeps expressions (modulo Q) num
  num_keeps = keeps_then expressions (ops Z) (modulo Q) (value Z (λ i. slice_index_or xs i Z.𝟎)) (λ a. a.0) (value_keeps Z (λ i. slice_index_or xs i Z.𝟎)) (number_keeps Q (lit≤ tt))

  agree : (l r : List Ex) → CheckAll l r → map num l ≡ map num r
  agree l r c = num_of l ∙ ap (map (λ a. a.0)) (solve_all Z (λ i. slice_index_or xs i Z.𝟎) l r c) ∙ sym (num_of r)
    where
      num_of : (l : List Ex) → map num l ≡ map (λ a. a.0) (map (value Z (λ i. slice_index_or xs i Z.𝟎)) l)
      num_of [] = refl
      num_of (e ∷ l) = ap (λ k. num e ∷ k) (num_of l)

abbrev vars : List Ex
vars = var 0 ∷ var 1 ∷ var 2 ∷ var 3 ∷ []

abbrev more_vars : List Ex
more_vars = var 4 ∷ var 5 ∷ var 6 ∷ var 7 ∷ []

-- the sums of products, as the code makes them
abbrev sum_code : List Ex
sum_code =
    var 0 :* var 4
    ∷ (var 0 :* var 5 :+ var 1 :* var 4)
    ∷ (var 0 :* var 6 :+ var 1 :* var 5 :+ var 2 :* var 4)
    ∷ (var 0 :* var 7 :+ var 1 :* var 6 :+ var 2 :* var 5 :+ var 3 :* var 4)
    ∷ (var 1 :* var 7 :+ var 2 :* var 6 :+ var 3 :* var 5)
    ∷ (var 2 :* var 7 :+ var 3 :* var 6)
    ∷ var 3 :* var 7
    ∷ []

sums_check : CheckAll sum_code (poly_product expressions vars more_vars)
sums_check = (refl, (refl, (refl, (refl, (refl, (refl, (refl, tt)))))))

-- the four numbers of an array fit
abbrev Fit4 : List ℕ → Type 0
Fit4 x = (slice_index x 0 < Q) × (slice_index x 1 < Q) × (slice_index x 2 < Q) × (slice_index x 3 < Q)

whole4 : (x : List ℕ) → Fit4 x → slice_index x 0 ∷ slice_index x 1 ∷ slice_index x 2 ∷ slice_index x 3 ∷ [] ≡ (w4_element x).0
whole4 x f = λ i. sym (mod-eq_of_lt f.0) i ∷ sym (mod-eq_of_lt f.1) i ∷ sym (mod-eq_of_lt f.2) i ∷ sym (mod-eq_of_lt f.3) i ∷ []

abbrev wide4 : (x : List ℕ) → Fit4 x → List (Below Q) → List (Below Q)
wide4 x f rest = (slice_index x 0, f.0) ∷ (slice_index x 1, f.1) ∷ (slice_index x 2, f.2) ∷ (slice_index x 3, f.3) ∷ rest

pub sums_are : (x y : List ℕ) (f : Fit4 x) (g : Fit4 y) → map (num (wide4 x f (wide4 y g []))) sum_code ≡ poly_product (modulo Q) (w4_element x).0 (w4_element y).0
sums_are x y f g =
    let xs = wide4 x f (wide4 y g []) in
    agree xs sum_code (poly_product expressions vars more_vars) sums_check
    ∙ keeps_poly_product expressions (modulo Q) (num xs) (num_keeps xs) vars more_vars
    ∙ ap₂ (poly_product (modulo Q)) (whole4 x f) (whole4 y g)

-- the seven sums reduced, as the code does it
abbrev fold_code : List Ex
fold_code = (var 0 :- var 4) ∷ (var 1 :- var 4 :- var 5) ∷ (var 2 :- var 5 :- var 6) ∷ (var 3 :- var 6) ∷ []

abbrev seven_vars : List Ex
seven_vars = var 0 ∷ var 1 ∷ var 2 ∷ var 3 ∷ var 4 ∷ var 5 ∷ var 6 ∷ []

abbrev monic_low : List Ex
monic_low = one ∷ one ∷ nil ∷ nil ∷ []

fold_check : CheckAll fold_code (product expressions monic_low seven_vars (unit expressions monic_low))
fold_check = (refl, (refl, (refl, (refl, tt))))

abbrev Fit7 : List ℕ → Type 0
Fit7 x = (slice_index x 0 < Q) × (slice_index x 1 < Q) × (slice_index x 2 < Q) × (slice_index x 3 < Q) × (slice_index x 4 < Q) × (slice_index x 5 < Q) × (slice_index x 6 < Q)

less_plain : (x y : ℕ) → less x y ≡ (x + (Q - y) % Q) % Q
less_plain x y = sym (add-mod-mod x (Q - y) Q)

less_twice : (x y z : ℕ) → less (less x y) z ≡ ((x + (Q - y) % Q) % Q + (Q - z) % Q) % Q
less_twice x y z = less_plain (less x y) z ∙ ap (λ w. (w + (Q - z) % Q) % Q) (less_plain x y)

abbrev reduced_list : List ℕ → List ℕ
reduced_list s =
    less (slice_index s 0) (slice_index s 4)
    ∷ less (less (slice_index s 1) (slice_index s 4)) (slice_index s 5)
    ∷ less (less (slice_index s 2) (slice_index s 5)) (slice_index s 6)
    ∷ less (slice_index s 3) (slice_index s 6)
    ∷ []

pub reduced_is : (s : List ℕ) → Fit7 s → (w4_element (reduced_list s)).0 ≡ product (modulo Q) w4.h (seven s) (unit (modulo Q) w4.h)
reduced_is s f =
    let xs : List (Below Q) = (slice_index s 0, f.0) ∷ (slice_index s 1, f.1) ∷ (slice_index s 2, f.2) ∷ (slice_index s 3, f.3) ∷ (slice_index s 4, f.4) ∷ (slice_index s 5, f.5) ∷ (slice_index s 6, f.6) ∷ [] in
    (λ i.
    (mod-mod (slice_index s 0 + (Q - slice_index s 4)) Q ∙ less_plain (slice_index s 0) (slice_index s 4)) i
    ∷ (mod-mod (less (slice_index s 1) (slice_index s 4) + (Q - slice_index s 5)) Q ∙ less_twice (slice_index s 1) (slice_index s 4) (slice_index s 5)) i
    ∷ (mod-mod (less (slice_index s 2) (slice_index s 5) + (Q - slice_index s 6)) Q ∙ less_twice (slice_index s 2) (slice_index s 5) (slice_index s 6)) i
    ∷ (mod-mod (slice_index s 3 + (Q - slice_index s 6)) Q ∙ less_plain (slice_index s 3) (slice_index s 6)) i
    ∷ [])
    ∙ agree xs fold_code (product expressions monic_low seven_vars (unit expressions monic_low)) fold_check
    ∙ keeps_product expressions (modulo Q) (num xs) (num_keeps xs) monic_low seven_vars (unit expressions monic_low)

pub product_is : (x y s r : List ℕ) → s ≡ poly_product (modulo Q) (w4_element x).0 (w4_element y).0 → (w4_element r).0 ≡ product (modulo Q) w4.h (seven s) (unit (modulo Q) w4.h)
    → w4_element r ≡ (ring w4).◌⊗◌ (w4_element x) (w4_element y)
unfolding ring
product_is x y s r sums fold =
    same_element w4 _ _ (fold ∙ ap (λ l. product (modulo Q) w4.h (seven l) (unit (modulo Q) w4.h)) sums ∙ reduced_product w4 (w4_element x).0 (w4_element y).0 (w4_element x).1 (w4_element y).1)

pub point_is : (i : ℕ) → w4_element (i % 16 % 2 ∷ i % 16 / 2 % 2 ∷ i % 16 / 4 % 2 ∷ i % 16 / 8 ∷ []) ≡ w4_point i
point_is i =
    let lowest : i % 16 % 2 ≡ i / 1 % 2 = ap (λ z. z % 2) (sym (div-one (i % 16))) ∙ bit_wraps i 3 0 in
    λ k. four (lowest k) (bit_wraps i 2 1 k) (bit_wraps i 1 2 k) (field_of i 1 3 k)

-- two arrays of numbers below 2^64 with the same element are the same, place by place
pub same_words : (x y : List ℕ) → w4_element x ≡ w4_element y → (c : ℕ) → c < 4 → slice_index x c < Q → slice_index y c < Q → slice_index x c ≡ slice_index y c
same_words x y e c h f g = sym (mod-eq_of_lt f) ∙ place c h ∙ mod-eq_of_lt g
  where
    place : (c : ℕ) → c < 4 → slice_index x c % Q ≡ slice_index y c % Q
    place zero h = ap (λ z. slice_index z.0 0) e
    place (suc zero) h = ap (λ z. slice_index z.0 1) e
    place (suc (suc zero)) h = ap (λ z. slice_index z.0 2) e
    place (suc (suc (suc zero))) h = ap (λ z. slice_index z.0 3) e
    place (suc (suc (suc (suc c)))) h = let z : ⊥ = omega arith in absurd z

pub same_element_words : (x y : List ℕ) → ((k : ℕ) → k < 4 → slice_index x k ≡ slice_index y k) → w4_element x ≡ w4_element y
same_element_words x y e = λ i. four (e 0 (lit< tt) i) (e 1 (lit< tt) i) (e 2 (lit< tt) i) (e 3 (lit< tt) i)

-- the table, entry by entry
right : ℕ → ℕ → Bool
right i j = either (i == j) (same_list ((ring w4).◌⊗◌ (sub (ring w4) (w4_point i) (w4_point j)) (w4_entry i j)).0 (1 ∷ 0 ∷ 0 ∷ 0 ∷ []))

blank : ℕ → Bool
blank i = same_list (w4_entry i i).0 (0 ∷ 0 ∷ 0 ∷ 0 ∷ [])

all_right : T (every 16 (λ i. every 16 (right i)))
unfolding right ring
all_right = tt

all_blank : T (every 16 blank)
unfolding blank
all_blank = tt

pub w4_laws : PointLaws w4 w4_points
unfolding right blank ring
w4_laws = record {
  many = lit≤ tt;
  start = same_element w4 _ _ refl;
  wraps = λ i. (λ k. four (bit_wraps i 3 0 k) (bit_wraps i 2 1 k) (bit_wraps i 1 2 k) (bit_wraps i 0 3 k));
  inv_wraps = λ i j. ap₂ w4_entry (mod-mod i 16) (mod-mod j 16);
  inverse = λ i j hi hj other.
      ap (λ m. (ring w4).◌⊗◌ (sub (ring w4) (w4_point i) (w4_point j)) m) (ap₂ w4_entry (mod-eq_of_lt hi) (mod-eq_of_lt hj))
      ∙ same_element w4 _ _ (same_list_is _ _ (either_right _ _ (other_eqb i j other) (every_at 16 (right i) (every_at 16 (λ i. every 16 (right i)) all_right i hi) j hj)));
  none = λ i. same_element w4 _ _ (same_list_is _ _ (every_at 16 blank all_blank (i % 16) (mod-lt i (lit< tt))));
}
