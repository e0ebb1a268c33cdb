-- Polynomials through given values: few roots, one through m values, Lagrange's sum.
use Rattle.std.proofs.Common.{◌≡◌, ℕ, zero, suc, ◌+◌, ◌<◌, ◌≤◌, true, false, cond, eqb, List, [], ◌∷◌, length, replicate, sym, refl, ap, ◌∙◌, ap₂, inl, inr, arith}
use lib.ListN.{length-replicate}
use Rattle.std.proofs.lemmas.Bool.{cases_eq, cond-true, cond-false, eq-eqb, ne_eqb}
use Rattle.algebra.specs.Ring.{CommRing, Ops, ops, sub}
use Rattle.algebra.specs.Solver.{◌:=◌, nil, one, ◌:+◌, ◌:-◌, ◌:*◌}
use Rattle.algebra.specs.Poly.{val, coefficient, poly_sum, poly_scaled, poly_product, Same, Apart, sum_below, product_below, part, factor, lagrange, FewRoots, SomeThrough, OneThrough, LagrangeValue}
use Rattle.algebra.proofs.Solver.{zero_add, mul_zero, zero_mul, ring2, ring4, ring5, using2, using3}
use Rattle.algebra.proofs.Poly.{sum_value, scaled_value, product_value, same_value, sum_length, scaled_length, product_length, sum_coefficient, scaled_coefficient, zeros_value}

module _ {A : Type 0} (R : CommRing A) where
  open R use {𝟎, 𝟏, ◌⊕◌, ◌⊗◌, add_assoc}

  infixl 65 ◌⊕◌
  infixl 70 ◌⊗◌
  abbrev O : Ops A
  O = ops R

  -- synthetic division of X f by X - a: the values at a of f and its tails
  abbrev pub tails : A → List A → List A
  tails a [] = []
  tails a (c ∷ f) = val O (c ∷ f) a ∷ tails a f

  pub tails_length : (a : A) (f : List A) → length (tails a f) ≡ length f
  tails_length a [] = refl
  tails_length a (c ∷ f) = ap suc (tails_length a f)

  pub divide : (a x : A) (f : List A) → x ⊗ val O f x ≡ a ⊗ val O f a ⊕ sub R x a ⊗ val O (tails a f) x
  divide a x [] = ring2 R (λ a x. x :* nil := a :* nil :+ (x :- a) :* nil) a x refl
  divide a x (c ∷ f) =
      ap (λ z. x ⊗ (c ⊕ z)) (divide a x f)
      ∙ ring5 R (λ a x c y t. x :* (c :+ (a :* y :+ (x :- a) :* t)) := a :* (c :+ a :* y) :+ (x :- a) :* (c :+ a :* y :+ x :* t)) a x c (val O f a) (val O (tails a f) x) refl

  -- a root and no further coefficient: the constant is zero
  head_zero : (a c : A) (f : List A) → val O (c ∷ f) a ≡ 𝟎 → Same O f [] → c ≡ 𝟎
  head_zero a c f root same = ring2 R (λ a c. c := c :+ a :* nil) a c refl ∙ ap (λ z. c ⊕ a ⊗ z) (sym (same_value R f [] same a)) ∙ root

  -- so f is zero where its quotient is
  tails_zero : (a : A) (f : List A) → Same O (tails a f) [] → Same O f []
  tails_zero a [] same k = refl
  tails_zero a (c ∷ f) same zero = head_zero a c f (same zero) (tails_zero a f (λ k. same (suc k)))
  tails_zero a (c ∷ f) same (suc k) = tails_zero a f (λ k. same (suc k)) k

  -- a factor with an inverse is no divisor of zero
  pub no_divisor : (b w q : A) → b ⊗ w ≡ 𝟏 → b ⊗ q ≡ 𝟎 → q ≡ 𝟎
  no_divisor b w q inverse root =
      using3 R (λ b w q. b :* w := one) (λ b w q. nil :- q) (λ b w q. q := w :* (b :* q)) b w q refl inverse
      ∙ ap (λ z. w ⊗ z) root
      ∙ mul_zero R w

  -- a second root of d + X f is a root of the quotient
  next_root : (a x w d : A) (f : List A) → sub R x a ⊗ w ≡ 𝟏 → val O (d ∷ f) a ≡ 𝟎 → val O (d ∷ f) x ≡ 𝟎 → val O (tails a f) x ≡ 𝟎
  next_root a x w d f inverse first second =
      let rest = sub R x a ⊗ val O (tails a f) x in
      no_divisor (sub R x a) w (val O (tails a f) x) inverse
      (sym (zero_add R rest)
      ∙ ap (λ z. z ⊕ rest) (sym first)
      ∙ add_assoc d (a ⊗ val O f a) rest
      ∙ ap (λ z. d ⊕ z) (sym (divide a x f))
      ∙ second)

  -- f - g
  abbrev pub poly_difference : List A → List A → List A
  poly_difference f g = poly_sum O f (poly_scaled O (sub R 𝟎 𝟏) g)

  minus_one : (a b : A) → a ⊕ sub R 𝟎 𝟏 ⊗ b ≡ sub R a b
  minus_one a b = ring2 R (λ a b. a :+ (nil :- one) :* b := a :- b) a b refl

  pub difference_value : (f g : List A) (x : A) → val O (poly_difference f g) x ≡ sub R (val O f x) (val O g x)
  difference_value f g x = sum_value R f (poly_scaled O (sub R 𝟎 𝟏) g) x ∙ ap (λ z. val O f x ⊕ z) (scaled_value R (sub R 𝟎 𝟏) g x) ∙ minus_one (val O f x) (val O g x)

  pub difference_coefficient : (f g : List A) (k : ℕ) → coefficient O (poly_difference f g) k ≡ sub R (coefficient O f k) (coefficient O g k)
  difference_coefficient f g k =
      sum_coefficient R f (poly_scaled O (sub R 𝟎 𝟏) g) k
      ∙ ap (λ z. coefficient O f k ⊕ z) (scaled_coefficient R (sub R 𝟎 𝟏) g k)
      ∙ minus_one (coefficient O f k) (coefficient O g k)

  pub difference_short : (m : ℕ) (f g : List A) → length f ≤ m → length g ≤ m → length (poly_difference f g) ≤ m
  difference_short m f g hf hg = omega (arith, sum_length R f (poly_scaled O (sub R 𝟎 𝟏) g), scaled_length R (sub R 𝟎 𝟏) g)

  pub same_from_difference : (a b : A) → sub R a b ≡ 𝟎 → a ≡ b
  same_from_difference a b e = using2 R (λ a b. a :- b := nil) (λ a b. one) (λ a b. a := b) a b refl e

-- the last point's root is divided out; the quotient is one shorter and has the other roots
pub few_roots : {A : Type 0} → FewRoots A
few_roots R zero p u apart [] short roots = λ k. refl
few_roots R zero p u apart (d ∷ f) short roots = let z : ⊥ = omega arith in absurd z
few_roots R (suc m) p u apart [] short roots = λ k. refl
few_roots R (suc m) p u apart (d ∷ f) short roots =
    let quotient = few_roots R m p u (λ i j hi hj. apart i j (omega arith) (omega arith)) (tails R (p m) f) (omega (arith, tails_length R (p m) f)) others in
    let all : Same (ops R) (tails R (p m) (d ∷ f)) [] = elim [ zero ↦ last | suc k ↦ quotient k ] in
    tails_zero R (p m) (d ∷ f) all
  where
    last : val (ops R) (d ∷ f) (p m) ≡ R.𝟎
    last = roots m (omega arith)

    others : (i : ℕ) → i < m → val (ops R) (tails R (p m) f) (p i) ≡ R.𝟎
    others i hi = next_root R (p m) (p i) (u i m) d f (apart i m (omega arith) (omega arith) (omega arith)) last (roots i (omega arith))

-- the difference has a root at each point
pub one_through : {A : Type 0} → OneThrough A
one_through R m p u apart v f g hf hg tf tg k =
    same_from_difference R (coefficient (ops R) f k) (coefficient (ops R) g k)
    (sym (difference_coefficient R f g k) ∙ few_roots R m p u apart (poly_difference R f g) (difference_short R m f g hf hg) roots k)
  where
    roots : (i : ℕ) → i < m → val (ops R) (poly_difference R f g) (p i) ≡ R.𝟎
    roots i hi = difference_value R f g (p i) ∙ ap₂ (sub R) (tf i hi) (tg i hi) ∙ R.add_neg (v i)

-- the function φ is the value of a polynomial with at most n coefficients
pub record Polynomial {A : Type 0} (R : CommRing A) (n : ℕ) (φ : A → A) : Type 0 where
  pub list : List A
  pub short : length list ≤ n
  pub values : (x : A) → val (ops R) list x ≡ φ x

module _ {A : Type 0} (R : CommRing A) where
  open R use {𝟎, 𝟏, ◌⊕◌, ◌⊗◌, add_zero, mul_one}

  infixl 65 ◌⊕◌
  infixl 70 ◌⊗◌
  pub polynomial_zero : (n : ℕ) → Polynomial R n (λ x. 𝟎)
  polynomial_zero n = record { list = []; short = omega arith; values = λ x. refl }

  pub polynomial_constant : (c : A) → Polynomial R 1 (λ x. c)
  polynomial_constant c = record { list = c ∷ []; short = omega arith; values = λ x. ring2 R (λ c x. c :+ x :* nil := c) c x refl }

  pub polynomial_weaker : {m : ℕ} {φ : A → A} (n : ℕ) → m ≤ n → Polynomial R m φ → Polynomial R n φ
  polynomial_weaker n le f = record { list = f.list; short = omega arith; values = f.values }

  pub polynomial_same : {n : ℕ} {φ : A → A} (ψ : A → A) → ((x : A) → φ x ≡ ψ x) → Polynomial R n φ → Polynomial R n ψ
  polynomial_same ψ same f = record { list = f.list; short = f.short; values = λ x. f.values x ∙ same x }

  pub polynomial_sum : {n : ℕ} {φ ψ : A → A} → Polynomial R n φ → Polynomial R n ψ → Polynomial R n (λ x. φ x ⊕ ψ x)
  polynomial_sum f g =
      record {
        list = poly_sum (ops R) f.list g.list;
        short = omega (arith, sum_length R f.list g.list);
        values = λ x. sum_value R f.list g.list x ∙ ap₂ ◌⊕◌ (f.values x) (g.values x);
      }

  pub polynomial_scaled : {n : ℕ} {φ : A → A} (k : A) → Polynomial R n φ → Polynomial R n (λ x. k ⊗ φ x)
  polynomial_scaled k f =
      record {
        list = poly_scaled (ops R) k f.list;
        short = omega (arith, scaled_length R k f.list);
        values = λ x. scaled_value R k f.list x ∙ ap (λ z. k ⊗ z) (f.values x);
      }

  pub polynomial_product : {m n : ℕ} {φ ψ : A → A} → Polynomial R (suc m) φ → Polynomial R (suc n) ψ → Polynomial R (suc (m + n)) (λ x. φ x ⊗ ψ x)
  polynomial_product {m} {n} f g =
      record {
        list = poly_product (ops R) f.list g.list;
        short = product_length R f.list g.list m n f.short g.short;
        values = λ x. product_value R f.list g.list x ∙ ap₂ ◌⊗◌ (f.values x) (g.values x);
      }

  pub polynomial_times_x : {n : ℕ} {φ : A → A} → Polynomial R n φ → Polynomial R (suc n) (λ x. x ⊗ φ x)
  polynomial_times_x f = record { list = 𝟎 ∷ f.list; short = omega arith; values = λ x. zero_add R (x ⊗ val (ops R) f.list x) ∙ ap (λ z. x ⊗ z) (f.values x) }

  -- φ (X - a) k is k (X φ) - (a k) φ
  pub polynomial_times_linear : {n : ℕ} {φ : A → A} (a k : A) → Polynomial R n φ → Polynomial R (suc n) (λ x. φ x ⊗ (sub R x a ⊗ k))
  polynomial_times_linear {n} {φ} a k f =
      polynomial_same (λ x. φ x ⊗ (sub R x a ⊗ k)) (λ x. ring4 R (λ a k x y. k :* (x :* y) :+ (nil :- a :* k) :* y := y :* ((x :- a) :* k)) a k x (φ x) refl)
      (polynomial_sum (polynomial_scaled k (polynomial_times_x f)) (polynomial_weaker (suc n) (omega arith) (polynomial_scaled (sub R 𝟎 (a ⊗ k)) f)))

  -- sums and products of few terms that count
  pub sum_none : (n : ℕ) (f : ℕ → A) → ((i : ℕ) → i < n → f i ≡ 𝟎) → sum_below R n f ≡ 𝟎
  sum_none zero f none = refl
  sum_none (suc n) f none = ap₂ ◌⊕◌ (sum_none n f (λ i hi. none i (omega arith))) (none n (omega arith)) ∙ add_zero 𝟎

  pub sum_one : (n : ℕ) (f : ℕ → A) (k : ℕ) → k < n → ((i : ℕ) → i < n → (i ≡ k → ⊥) → f i ≡ 𝟎) → sum_below R n f ≡ f k
  sum_one zero f k hk none = let z : ⊥ = omega arith in absurd z
  sum_one (suc n) f k hk none =
      elim (cases_eq n k) [
        | inl e ↦ ap (λ z. z ⊕ f n) (sum_none n f (λ i hi. none i (omega arith) (omega arith))) ∙ zero_add R (f n) ∙ ap f e
        | inr d ↦ ap₂ ◌⊕◌ (sum_one n f k (omega arith) (λ i hi. none i (omega arith))) (none n (omega arith) d) ∙ add_zero (f k)
      ]

  pub product_ones : (n : ℕ) (f : ℕ → A) → ((j : ℕ) → j < n → f j ≡ 𝟏) → product_below R n f ≡ 𝟏
  product_ones zero f ones = refl
  product_ones (suc n) f ones = ap₂ ◌⊗◌ (product_ones n f (λ j hj. ones j (omega arith))) (ones n (omega arith)) ∙ mul_one 𝟏

  pub product_zero : (n : ℕ) (f : ℕ → A) (k : ℕ) → k < n → f k ≡ 𝟎 → product_below R n f ≡ 𝟎
  product_zero zero f k hk e = let z : ⊥ = omega arith in absurd z
  product_zero (suc n) f k hk e =
      elim (cases_eq k n) [
        | inl s ↦ ap (λ z. product_below R n f ⊗ z) (ap f (sym s) ∙ e) ∙ mul_zero R (product_below R n f)
        | inr d ↦ ap (λ z. z ⊗ f n) (product_zero n f k (omega arith) e) ∙ zero_mul R (f n)
      ]

  module _ (p : ℕ → A) (u : ℕ → ℕ → A) where
    -- one more place makes one more coefficient
    next_part : {n : ℕ} {φ : A → A} (i j : ℕ) → Polynomial R n φ → Polynomial R (suc n) (λ x. φ x ⊗ part R p u x i j)
    next_part {n} {φ} i j f =
        elim (eqb j i) as (λ b. Polynomial R (suc n) (λ x. φ x ⊗ cond b 𝟏 (sub R x (p j) ⊗ u i j))) [
          | true ↦ polynomial_same (λ x. φ x ⊗ 𝟏) (λ x. sym (mul_one (φ x))) (polynomial_weaker (suc n) (omega arith) f)
          | false ↦ polynomial_times_linear (p j) (u i j) f
        ]

    -- the own place's part is one and makes none
    own_part : {n : ℕ} {φ : A → A} (i j : ℕ) → j ≡ i → Polynomial R n φ → Polynomial R n (λ x. φ x ⊗ part R p u x i j)
    own_part {n} {φ} i j e f =
        polynomial_same (λ x. φ x ⊗ part R p u x i j)
        (λ x. sym (ap (λ z. φ x ⊗ z) (cond-true (eqb j i) 𝟏 (sub R x (p j) ⊗ u i j) (eq-eqb j i e)) ∙ mul_one (φ x))) f

    parts_polynomial : (n i : ℕ) → Polynomial R (suc n) (λ x. factor R n p u x i)
    parts_polynomial zero i = polynomial_constant 𝟏
    parts_polynomial (suc n) i = next_part i n (parts_polynomial n i)

    -- the own place is among the n, so the factor has n coefficients and not n + 1
    pub factor_polynomial : (n i : ℕ) → i < n → Polynomial R n (λ x. factor R n p u x i)
    factor_polynomial zero i hi = let z : ⊥ = omega arith in absurd z
    factor_polynomial (suc n) i hi =
        elim (cases_eq n i) [
          | inl e ↦ own_part i n e (parts_polynomial n i)
          | inr d ↦ next_part i n (factor_polynomial n i (omega arith))
        ]

    pub lagrange_polynomial : (m : ℕ) (v : ℕ → A) → Polynomial R m (lagrange R m p u v)
    lagrange_polynomial m v = upto m (omega arith)
      where
        upto : (k : ℕ) → k ≤ m → Polynomial R m (λ x. sum_below R k (λ i. v i ⊗ factor R m p u x i))
        upto zero le = polynomial_zero m
        upto (suc k) le = polynomial_sum (upto k (omega arith)) (polynomial_scaled (v k) (factor_polynomial m k le))

    module _ (m : ℕ) (apart : Apart R m p u) where
      -- Lagrange's factor is one at its own point and zero at the others
      pub factor_here : (i : ℕ) → i < m → factor R m p u (p i) i ≡ 𝟏
      factor_here i hi = product_ones m (part R p u (p i) i) one_each
        where
          one_each : (j : ℕ) → j < m → part R p u (p i) i j ≡ 𝟏
          one_each j hj =
              elim (cases_eq j i) [
                | inl e ↦ cond-true (eqb j i) 𝟏 (sub R (p i) (p j) ⊗ u i j) (eq-eqb j i e)
                | inr d ↦ cond-false (eqb j i) 𝟏 (sub R (p i) (p j) ⊗ u i j) (ne_eqb j i d) ∙ apart i j hi hj (omega arith)
              ]

      pub factor_there : (i k : ℕ) → k < m → (i ≡ k → ⊥) → factor R m p u (p k) i ≡ 𝟎
      factor_there i k hk d =
          product_zero m (part R p u (p k) i) k hk
          (cond-false (eqb k i) 𝟏 (sub R (p k) (p k) ⊗ u i k) (ne_eqb k i (omega arith)) ∙ ring2 R (λ a w. (a :- a) :* w := nil) (p k) (u i k) refl)

      pub lagrange_through : (v : ℕ → A) (k : ℕ) → k < m → lagrange R m p u v (p k) ≡ v k
      lagrange_through v k hk =
          sum_one m (λ i. v i ⊗ factor R m p u (p k) i) k hk (λ i hi d. ap (λ z. v i ⊗ z) (factor_there i k hk d) ∙ mul_zero R (v i))
          ∙ ap (λ z. v k ⊗ z) (factor_here k hk)
          ∙ mul_one (v k)

-- Lagrange's polynomial, with zeros up to the length m
pub some_through : {A : Type 0} → SomeThrough A
some_through R m p u apart v =
    let f = lagrange_polynomial R p u m v in
    let zeros = replicate m R.𝟎 in (
      poly_sum (ops R) f.list zeros,
      omega (arith, sum_length R f.list zeros, length-replicate m R.𝟎, f.short),
      λ i hi.
          sum_value R f.list zeros (p i)
          ∙ ap₂ R.◌⊕◌ (f.values (p i)) (zeros_value R m (p i))
          ∙ R.add_zero (lagrange R m p u v (p i))
          ∙ lagrange_through R p u m apart v i hi,
    )

-- Lagrange's polynomial runs through f's values, and only one does
pub lagrange_value : {A : Type 0} → LagrangeValue A
lagrange_value R m p u apart f short x =
    let v = λ (i : ℕ). val (ops R) f (p i) in
    let g = lagrange_polynomial R p u m v in
    same_value R f g.list
    (one_through R m p u apart v f g.list short g.short (λ i hi. refl) (λ i hi. g.values (p i) ∙ lagrange_through R p u m apart v i hi)) x
    ∙ g.values x
