-- Lists of d numbers below q are a commutative ring, and its product is the remainder of the plain one.
use Rattle.std.proofs.Common.{◌≡◌, ℕ, zero, suc, pred, ◌≤◌, List, [], ◌∷◌, ◌++◌, map, length, sym, refl, ap, ◌∙◌, subst, ap₂, subst₂, mod-eq_of_lt, arith}
use mathlib.Core.HLevel.{Σ_prop_path, ×_prop}
use native.Mathlib.Bridge.{le_prop}
use native.Mathlib.Nat.{ℕ_set}
use lib.ListN.{length-map, get_or-map}
use Rattle.algebra.specs.Poly.{Same, poly_sum, poly_product}
use Rattle.algebra.specs.Quotient.{modulo, add, negate, scale, zeros, unit, push, top, shift, product, AllBelow, Shape, Is, Element, QuotientIsRing, monic, Remainder, ProductIsRemainder}
use Rattle.algebra.specs.Ring.{CommRing, Ops, ops}
use Rattle.algebra.proofs.Keeps.{Keeps, onto_ring, keeps_add, keeps_negate, keeps_zeros, keeps_unit, keeps_product, keeps_poly_sum, keeps_poly_product}
use Rattle.algebra.proofs.Modulo.{Below, below_same, reduce, numbers, number_keeps}
use Rattle.algebra.proofs.Vector.{V, list, list_length, add_v, neg_v, scale_v, zero_v, unit_v, push_v, top_v, shift_v, act, fit, monic_v, mul_v, ring_v, product_whole, product_divides, product_only}

-- tuples as lists
module _ {A : Type 0} (R : CommRing A) where
  list_add : (n : ℕ) (u v : V A n) → list n (add_v R n u v) ≡ add (ops R) (list n u) (list n v)
  list_add zero u v = refl
  list_add (suc n) u v = ap (λ l. R.◌⊕◌ u.0 v.0 ∷ l) (list_add n u.1 v.1)

  list_negate : (n : ℕ) (v : V A n) → list n (neg_v R n v) ≡ negate (ops R) (list n v)
  list_negate zero v = refl
  list_negate (suc n) v = ap (λ l. R.neg v.0 ∷ l) (list_negate n v.1)

  list_scale : (n : ℕ) (k : A) (v : V A n) → list n (scale_v R n k v) ≡ scale (ops R) k (list n v)
  list_scale zero k v = refl
  list_scale (suc n) k v = ap (λ l. R.◌⊗◌ k v.0 ∷ l) (list_scale n k v.1)

  list_zeros : (n : ℕ) (h : V A n) → list n (zero_v R n) ≡ zeros (ops R) (list n h)
  list_zeros zero h = refl
  list_zeros (suc n) h = ap (λ l. R.𝟎 ∷ l) (list_zeros n h.1)

  list_unit : (n : ℕ) (h : V A n) → list n (unit_v R n) ≡ unit (ops R) (list n h)
  list_unit zero h = refl
  list_unit (suc n) h = ap (λ l. R.𝟏 ∷ l) (list_zeros n h.1)

  list_push : (n : ℕ) (c : A) (v : V A n) → list n (push_v R n c v) ≡ push c (list n v)
  list_push zero c v = refl
  list_push (suc n) c v = ap (λ l. c ∷ l) (list_push n v.0 v.1)

  list_top : (n : ℕ) (c : A) (v : V A n) → top_v R n c v ≡ top c (list n v)
  list_top zero c v = refl
  list_top (suc n) c v = list_top n v.0 v.1

  list_shift : (n : ℕ) (h v : V A n) → list n (shift_v R n h v) ≡ shift (ops R) (list n h) (list n v)
  list_shift n h v =
      let t = top_v R n R.𝟎 v in
      list_add n (push_v R n R.𝟎 v) (neg_v R n (scale_v R n t h))
      ∙ ap₂ (add (ops R)) (list_push n R.𝟎 v)
      (list_negate n (scale_v R n t h) ∙ ap (negate (ops R)) (list_scale n t h ∙ ap (λ k. scale (ops R) k (list n h)) (list_top n R.𝟎 v)))

  list_act : (n : ℕ) (h : V A n) (p : List A) (v : V A n) → list n (act R n h p v) ≡ product (ops R) (list n h) p (list n v)
  list_act n h [] v = list_zeros n h
  list_act n h (a ∷ p) v =
      list_add n (scale_v R n a v) (shift_v R n h (act R n h p v))
      ∙ ap₂ (add (ops R)) (list_scale n a v) (list_shift n h (act R n h p v) ∙ ap (shift (ops R) (list n h)) (list_act n h p v))

  list_fit : (n : ℕ) (p : List A) → length p ≡ n → list n (fit R n p) ≡ p
  list_fit zero [] e = refl
  list_fit zero (a ∷ p) e = let z : ⊥ = omega arith in absurd z
  list_fit (suc n) [] e = let z : ⊥ = omega arith in absurd z
  list_fit (suc n) (a ∷ p) e = let k : length p ≡ n = omega arith in ap (λ l. a ∷ l) (list_fit n p k)

pub no_zero : (m : ℕ) → 1 ≤ m → m ≡ suc (pred m)
no_zero m le = omega arith

pub below_prop : (q : ℕ) (l : List ℕ) → IsProp (AllBelow q l)
below_prop q [] = λ x y. refl
below_prop q (x ∷ l) = ×_prop le_prop (below_prop q l)

pub is_prop : (s : Shape) (l : List ℕ) → IsProp (Is s l)
is_prop s l = ×_prop (ℕ_set _ _) (below_prop s.q l)

-- two elements with the same list are one
pub same_element : (s : Shape) (a b : Element s) → a.0 ≡ b.0 → a ≡ b
same_element s a b e = Σ_prop_path (is_prop s) {u = a} {v = b} e

module _ (s : Shape) where
  abbrev Z : CommRing (Below s.q)
  Z = numbers s.q s.two

  -- the degree, which is no zero
  abbrev n : ℕ
  n = pred (length s.h)

  abbrev d : ℕ
  d = suc n

  degree_is : length s.h ≡ d
  degree_is = no_zero (length s.h) s.some

  abbrev plain : Below s.q → ℕ
  plain a = a.0

  abbrev nums : V (Below s.q) d → List ℕ
  nums v = map plain (list d v)

  abbrev vec : List ℕ → V (Below s.q) d
  vec l = fit Z d (map (reduce s.q s.two) l)

  plain_reduce : (l : List ℕ) → AllBelow s.q l → map plain (map (reduce s.q s.two) l) ≡ l
  plain_reduce [] low = refl
  plain_reduce (x ∷ l) low = ap₂ (λ y k. y ∷ k) (mod-eq_of_lt low.0) (plain_reduce l low.1)

  list_vec : (l : List ℕ) → length l ≡ length s.h → list d (vec l) ≡ map (reduce s.q s.two) l
  list_vec l e = list_fit Z d (map (reduce s.q s.two) l) (length-map l (reduce s.q s.two) ∙ e ∙ degree_is)

  nums_vec : (l : List ℕ) → Is s l → nums (vec l) ≡ l
  nums_vec l ok = ap (map plain) (list_vec l ok.0) ∙ plain_reduce l ok.1

  all_plain : (l : List (Below s.q)) → AllBelow s.q (map plain l)
  all_plain [] = tt
  all_plain (a ∷ l) = (a.1, all_plain l)

  pub is_nums : (v : V (Below s.q) d) → Is s (nums v)
  is_nums v = (length-map (list d v) plain ∙ list_length Z d v ∙ sym degree_is, all_plain (list d v))

  abbrev h_v : V (Below s.q) d
  h_v = vec s.h

  nums_h : nums h_v ≡ s.h
  nums_h = nums_vec s.h (refl, s.low)

  nums_add : (u v : V (Below s.q) d) → nums (add_v Z d u v) ≡ add (modulo s.q) (nums u) (nums v)
  nums_add u v = ap (map plain) (list_add Z d u v) ∙ keeps_add (ops Z) (modulo s.q) plain (number_keeps s.q s.two) (list d u) (list d v)

  nums_negate : (v : V (Below s.q) d) → nums (neg_v Z d v) ≡ negate (modulo s.q) (nums v)
  nums_negate v = ap (map plain) (list_negate Z d v) ∙ keeps_negate (ops Z) (modulo s.q) plain (number_keeps s.q s.two) (list d v)

  nums_zeros : nums (zero_v Z d) ≡ zeros (modulo s.q) s.h
  nums_zeros = ap (map plain) (list_zeros Z d h_v) ∙ keeps_zeros (ops Z) (modulo s.q) plain (number_keeps s.q s.two) (list d h_v) ∙ ap (zeros (modulo s.q)) nums_h

  nums_unit : nums (unit_v Z d) ≡ unit (modulo s.q) s.h
  nums_unit = ap (map plain) (list_unit Z d h_v) ∙ keeps_unit (ops Z) (modulo s.q) plain (number_keeps s.q s.two) (list d h_v) ∙ ap (unit (modulo s.q)) nums_h

  nums_product : (u v : V (Below s.q) d) → nums (mul_v Z n h_v u v) ≡ product (modulo s.q) s.h (nums u) (nums v)
  nums_product u v =
      ap (map plain) (list_act Z d h_v (list d u) v)
      ∙ keeps_product (ops Z) (modulo s.q) plain (number_keeps s.q s.two) (list d h_v) (list d u) (list d v)
      ∙ ap (λ h. product (modulo s.q) h (nums u) (nums v)) nums_h

  -- The operations lead from lists of d numbers below q to such lists.
  pub is_zeros : Is s (zeros (modulo s.q) s.h)
  is_zeros = subst (Is s) nums_zeros (is_nums (zero_v Z d))

  pub is_unit : Is s (unit (modulo s.q) s.h)
  is_unit = subst (Is s) nums_unit (is_nums (unit_v Z d))

  pub is_add : (a b : Element s) → Is s (add (modulo s.q) a.0 b.0)
  is_add a b = subst (Is s) (nums_add (vec a.0) (vec b.0) ∙ ap₂ (add (modulo s.q)) (nums_vec a.0 a.1) (nums_vec b.0 b.1)) (is_nums (add_v Z d (vec a.0) (vec b.0)))

  pub is_negate : (a : Element s) → Is s (negate (modulo s.q) a.0)
  is_negate a = subst (Is s) (nums_negate (vec a.0) ∙ ap (negate (modulo s.q)) (nums_vec a.0 a.1)) (is_nums (neg_v Z d (vec a.0)))

  pub is_product : (a b : Element s) → Is s (product (modulo s.q) s.h a.0 b.0)
  is_product a b = subst (Is s) (nums_product (vec a.0) (vec b.0) ∙ ap₂ (product (modulo s.q) s.h) (nums_vec a.0 a.1) (nums_vec b.0 b.1)) (is_nums (mul_v Z n h_v (vec a.0) (vec b.0)))

  abbrev pub element_ops : Ops (Element s)
  element_ops = record {
    zero = (zeros (modulo s.q) s.h, is_zeros);
    one = (unit (modulo s.q) s.h, is_unit);
    plus = λ a b. (add (modulo s.q) a.0 b.0, is_add a b);
    times = λ a b. (product (modulo s.q) s.h a.0 b.0, is_product a b);
    minus = λ a. (negate (modulo s.q) a.0, is_negate a);
  }

  abbrev pub element_of : V (Below s.q) d → Element s
  element_of v = (nums v, is_nums v)

  pub element_keeps : Keeps (ops (ring_v Z n h_v)) element_ops element_of
  unfolding ring_v
  element_keeps = record {
    zero = same_element s _ _ nums_zeros;
    one = same_element s _ _ nums_unit;
    plus = λ u v. same_element s _ _ (nums_add u v);
    times = λ u v. same_element s _ _ (nums_product u v);
    minus = λ v. same_element s _ _ (nums_negate v);
  }

  pub element_onto : (x : Element s) → element_of (vec x.0) ≡ x
  element_onto x = same_element s _ _ (nums_vec x.0 x.1)

-- the ring of a shape
abbrev pub ring : (s : Shape) → CommRing (Element s)
ring s = onto_ring (ring_v (Z s) (n s) (h_v s)) (element_ops s) (element_of s) (element_keeps s) (λ x. vec s x.0) (element_onto s)

abbrev pub quotient_is_ring : QuotientIsRing
quotient_is_ring s = record {
  ring = ring s;
  zero_is = refl;
  one_is = refl;
  sum_is = λ a b. refl;
  minus_is = λ a. refl;
  product_is = λ a b. refl;
}

-- the same polynomial, whether its coefficients are numbers below q or such numbers with their proofs
module _ (s : Shape) where
  same_plain : (f g : List (Below s.q)) → Same (ops (Z s)) f g → Same (modulo s.q) (map (plain s) f) (map (plain s) g)
  same_plain f g same k = get_or-map (plain s) f k (Z s).𝟎 ∙ ap (plain s) (same k) ∙ sym (get_or-map (plain s) g k (Z s).𝟎)

  same_below : (f g : List (Below s.q)) → Same (modulo s.q) (map (plain s) f) (map (plain s) g) → Same (ops (Z s)) f g
  same_below f g same k = below_same _ _ (sym (get_or-map (plain s) f k (Z s).𝟎) ∙ same k ∙ get_or-map (plain s) g k (Z s).𝟎)

  plain_append : (f g : List (Below s.q)) → map (plain s) (f ++ g) ≡ map (plain s) f ++ map (plain s) g
  plain_append [] g = refl
  plain_append (a ∷ f) g = ap (λ l. plain s a ∷ l) (plain_append f g)

  plain_monic : map (plain s) (monic_v (Z s) (n s) (h_v s)) ≡ monic s
  plain_monic = plain_append (list (d s) (h_v s)) ((Z s).𝟏 ∷ []) ∙ ap (λ l. l ++ (1 ∷ [])) (nums_h s)

  plain_product : (a b : List (Below s.q)) → map (plain s) (poly_product (ops (Z s)) a b) ≡ poly_product (modulo s.q) (map (plain s) a) (map (plain s) b)
  plain_product = keeps_poly_product (ops (Z s)) (modulo s.q) (plain s) (number_keeps s.q s.two)

  plain_side : (w r : List (Below s.q)) → map (plain s) (poly_sum (ops (Z s)) (poly_product (ops (Z s)) w (monic_v (Z s) (n s) (h_v s))) r)
      ≡ poly_sum (modulo s.q) (poly_product (modulo s.q) (map (plain s) w) (monic s)) (map (plain s) r)
  plain_side w r =
      keeps_poly_sum (ops (Z s)) (modulo s.q) (plain s) (number_keeps s.q s.two) (poly_product (ops (Z s)) w (monic_v (Z s) (n s) (h_v s))) r
      ∙ ap (λ f. poly_sum (modulo s.q) f (map (plain s) r)) (plain_product w (monic_v (Z s) (n s) (h_v s)) ∙ ap (poly_product (modulo s.q) (map (plain s) w)) plain_monic)

  module _ (a b : List ℕ) (ia : Is s a) (ib : Is s b) where
    sides : map (plain s) (poly_product (ops (Z s)) (list (d s) (vec s a)) (list (d s) (vec s b))) ≡ poly_product (modulo s.q) a b
    sides = plain_product (list (d s) (vec s a)) (list (d s) (vec s b)) ∙ ap₂ (poly_product (modulo s.q)) (nums_vec s a ia) (nums_vec s b ib)

    whole : nums s (mul_v (Z s) (n s) (h_v s) (vec s a) (vec s b)) ≡ product (modulo s.q) s.h a b
    whole = nums_product s (vec s a) (vec s b) ∙ ap₂ (product (modulo s.q) s.h) (nums_vec s a ia) (nums_vec s b ib)

    -- the plain product, reduced by the monic polynomial
    pub reduced_product : product (modulo s.q) s.h (poly_product (modulo s.q) a b) (unit (modulo s.q) s.h) ≡ product (modulo s.q) s.h a b
    reduced_product =
        let p = poly_product (ops (Z s)) (list (d s) (vec s a)) (list (d s) (vec s b)) in
        sym (ap (map (plain s)) (list_act (Z s) (d s) (h_v s) p (unit_v (Z s) (d s)))
        ∙ keeps_product (ops (Z s)) (modulo s.q) (plain s) (number_keeps s.q s.two) (list (d s) (h_v s)) p (list (d s) (unit_v (Z s) (d s)))
        ∙ ap₂ (λ h f. product (modulo s.q) h f (nums s (unit_v (Z s) (d s)))) (nums_h s) sides
        ∙ ap (product (modulo s.q) s.h (poly_product (modulo s.q) a b)) (nums_unit s))
        ∙ ap (nums s) (product_whole (Z s) (n s) (h_v s) (vec s a) (vec s b))
        ∙ whole

    remainder_is : Remainder s (poly_product (modulo s.q) a b) (product (modulo s.q) s.h a b)
    remainder_is =
        let found = product_divides (Z s) (n s) (h_v s) (vec s a) (vec s b) in
        let r = list (d s) (mul_v (Z s) (n s) (h_v s) (vec s a) (vec s b)) in
        let same = same_plain (poly_product (ops (Z s)) (list (d s) (vec s a)) (list (d s) (vec s b))) (poly_sum (ops (Z s)) (poly_product (ops (Z s)) found.0 (monic_v (Z s) (n s) (h_v s))) r) found.1 in (
          map (plain s) found.0,
          all_plain s found.0,
          subst₂ (Same (modulo s.q)) sides (plain_side found.0 r ∙ ap (poly_sum (modulo s.q) (poly_product (modulo s.q) (map (plain s) found.0) (monic s))) whole) same,
        )

    remainder_only : (r : List ℕ) → Is s r → Remainder s (poly_product (modulo s.q) a b) r → r ≡ product (modulo s.q) s.h a b
    remainder_only r ir m =
        let w = map (reduce s.q s.two) m.0 in
        let target = poly_sum (ops (Z s)) (poly_product (ops (Z s)) w (monic_v (Z s) (n s) (h_v s))) (list (d s) (vec s r)) in
        let side : poly_sum (modulo s.q) (poly_product (modulo s.q) m.0 (monic s)) r ≡ map (plain s) target
        = sym (plain_side w (list (d s) (vec s r)) ∙ ap₂ (λ f g. poly_sum (modulo s.q) (poly_product (modulo s.q) f (monic s)) g) (plain_reduce s m.0 m.1) (nums_vec s r ir)) in
        sym (nums_vec s r ir)
        ∙ ap (nums s) (product_only (Z s) (n s) (h_v s) (vec s a) (vec s b) w (vec s r) (same_below (poly_product (ops (Z s)) (list (d s) (vec s a)) (list (d s) (vec s b))) target (subst₂ (Same (modulo s.q)) (sym sides) side m.2)))
        ∙ whole

pub product_is_remainder : ProductIsRemainder
product_is_remainder s a b ia ib = (remainder_is s a b ia ib, remainder_only s a b ia ib)
