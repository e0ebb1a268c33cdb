-- Polynomials: values and lengths of sums, scalings and products.
use Rattle.std.proofs.Common.{◌≡◌, ℕ, zero, suc, ◌+◌, ◌≤◌, max, List, [], ◌∷◌, length, replicate, sym, refl, ap, ◌∙◌, ap₂, arith}
use lib.ListN.{length-map}
use Rattle.algebra.specs.Ring.{CommRing, Ops, ops}
use Rattle.algebra.specs.Solver.{◌:=◌, nil, ◌:+◌, ◌:*◌}
use Rattle.algebra.specs.Poly.{val, coefficient, poly_sum, poly_scaled, poly_product, Same, PolyArithmetic}
use Rattle.algebra.proofs.Solver.{zero_add, mul_zero, zero_mul, ring4, ring5}

module _ {A : Type 0} (R : CommRing A) where
  open R use {𝟎, ◌⊕◌, ◌⊗◌, add_zero}

  infixl 65 ◌⊕◌
  infixl 70 ◌⊗◌
  abbrev O : Ops A
  O = ops R

  pub sum_value : (f g : List A) (x : A) → val O (poly_sum O f g) x ≡ val O f x ⊕ val O g x
  sum_value [] g x = sym (zero_add R (val O g x))
  sum_value (a ∷ f) [] x = sym (add_zero (val O (a ∷ f) x))
  sum_value (a ∷ f) (b ∷ g) x =
      ap (λ z. a ⊕ b ⊕ x ⊗ z) (sum_value f g x)
      ∙ ring5 R (λ a b x y z. a :+ b :+ x :* (y :+ z) := (a :+ x :* y) :+ (b :+ x :* z)) a b x (val O f x) (val O g x) refl

  pub scaled_value : (k : A) (f : List A) (x : A) → val O (poly_scaled O k f) x ≡ k ⊗ val O f x
  scaled_value k [] x = sym (mul_zero R k)
  scaled_value k (a ∷ f) x =
      ap (λ z. k ⊗ a ⊕ x ⊗ z) (scaled_value k f x)
      ∙ ring4 R (λ k a x y. k :* a :+ x :* (k :* y) := k :* (a :+ x :* y)) k a x (val O f x) refl

  pub product_value : (f g : List A) (x : A) → val O (poly_product O f g) x ≡ val O f x ⊗ val O g x
  product_value [] g x = sym (zero_mul R (val O g x))
  product_value (a ∷ f) g x =
      sum_value (poly_scaled O a g) (𝟎 ∷ poly_product O f g) x
      ∙ ap₂ (λ y z. y ⊕ (𝟎 ⊕ x ⊗ z)) (scaled_value a g x) (product_value f g x)
      ∙ ring4 R (λ a x y z. a :* z :+ (nil :+ x :* (y :* z)) := (a :+ x :* y) :* z) a x (val O f x) (val O g x) refl

  -- zeros at the end add nothing
  zero_value : (x : A) → 𝟎 ⊕ x ⊗ 𝟎 ≡ 𝟎
  zero_value x = zero_add R (x ⊗ 𝟎) ∙ mul_zero R x

  pub same_value : (f g : List A) → Same O f g → (x : A) → val O f x ≡ val O g x
  same_value [] [] h x = refl
  same_value [] (b ∷ g) h x = sym (zero_value x) ∙ ap₂ (λ y z. y ⊕ x ⊗ z) (h zero) (same_value [] g (λ k. h (suc k)) x)
  same_value (a ∷ f) [] h x = ap₂ (λ y z. y ⊕ x ⊗ z) (h zero) (same_value f [] (λ k. h (suc k)) x) ∙ zero_value x
  same_value (a ∷ f) (b ∷ g) h x = ap₂ (λ y z. y ⊕ x ⊗ z) (h zero) (same_value f g (λ k. h (suc k)) x)

  pub sum_length : (f g : List A) → length (poly_sum O f g) ≡ max (length f) (length g)
  sum_length [] g = omega arith
  sum_length (a ∷ f) [] = omega arith
  sum_length (a ∷ f) (b ∷ g) = let h = sum_length f g in omega arith

  pub scaled_length : (k : A) (f : List A) → length (poly_scaled O k f) ≡ length f
  scaled_length k f = length-map f (λ a. k ⊗ a)

  -- a product's first row is as long as g, and each next coefficient of f makes it longer by one
  pub product_length : (f g : List A) (m n : ℕ) → length f ≤ suc m → length g ≤ suc n → length (poly_product O f g) ≤ suc (m + n)
  product_length [] g m n hf hg = omega arith
  product_length (a ∷ []) g m n hf hg = omega (arith, sum_length (poly_scaled O a g) (𝟎 ∷ []), scaled_length a g)
  product_length (a ∷ b ∷ f) g zero n hf hg = let z : ⊥ = omega arith in absurd z
  product_length (a ∷ b ∷ f) g (suc m) n hf hg =
      let rest : length (b ∷ f) ≤ suc m = omega arith in
      omega (arith, product_length (b ∷ f) g m n rest hg, sum_length (poly_scaled O a g) (𝟎 ∷ poly_product O (b ∷ f) g), scaled_length a g)

  -- the coefficients of a sum and of a scaling
  pub sum_coefficient : (f g : List A) (k : ℕ) → coefficient O (poly_sum O f g) k ≡ coefficient O f k ⊕ coefficient O g k
  sum_coefficient [] g k = sym (zero_add R (coefficient O g k))
  sum_coefficient (a ∷ f) [] k = sym (add_zero (coefficient O (a ∷ f) k))
  sum_coefficient (a ∷ f) (b ∷ g) zero = refl
  sum_coefficient (a ∷ f) (b ∷ g) (suc k) = sum_coefficient f g k

  pub scaled_coefficient : (c : A) (f : List A) (k : ℕ) → coefficient O (poly_scaled O c f) k ≡ c ⊗ coefficient O f k
  scaled_coefficient c [] k = sym (mul_zero R c)
  scaled_coefficient c (a ∷ f) zero = refl
  scaled_coefficient c (a ∷ f) (suc k) = scaled_coefficient c f k

  -- zeros alone have the value zero
  pub zeros_value : (n : ℕ) (x : A) → val O (replicate n 𝟎) x ≡ 𝟎
  zeros_value zero x = refl
  zeros_value (suc n) x = ap (λ z. 𝟎 ⊕ x ⊗ z) (zeros_value n x) ∙ zero_value x

pub poly_arithmetic : {A : Type 0} → PolyArithmetic A
poly_arithmetic R =
    record {
      sum_value = sum_value R;
      scaled_value = scaled_value R;
      product_value = product_value R;
      same_value = same_value R;
      sum_length = sum_length R;
      scaled_length = scaled_length R;
      product_length = product_length R;
    }
