-- Polynomials as lists of coefficients, the constant one first; their values, and what interpolation says of them.
use Rattle.std.specs.Prelude.{◌≡◌, ℕ, zero, suc, ◌+◌, ◌<◌, ◌≤◌, max, cond, List, [], ◌∷◌, map, length, ◌==◌, ◌≢◌, slice_index_or}
use Rattle.algebra.specs.Ring.{CommRing, Ops, ops, sub}

-- the value at x, by Horner's rule
abbrev pub val : {A : Type 0} → Ops A → List A → A → A
val O [] x = O.zero
val O (c ∷ f) x = O.plus c (O.times x (val O f x))

-- the coefficient of X^k
abbrev pub coefficient : {A : Type 0} → Ops A → List A → ℕ → A
coefficient O f k = slice_index_or f k O.zero

abbrev pub poly_sum : {A : Type 0} → Ops A → List A → List A → List A
poly_sum O [] g = g
poly_sum O (a ∷ f) [] = a ∷ f
poly_sum O (a ∷ f) (b ∷ g) = O.plus a b ∷ poly_sum O f g

abbrev pub poly_scaled : {A : Type 0} → Ops A → A → List A → List A
poly_scaled O k f = map (O.times k) f

abbrev pub poly_product : {A : Type 0} → Ops A → List A → List A → List A
poly_product O [] g = []
poly_product O (a ∷ f) g = poly_sum O (poly_scaled O a g) (O.zero ∷ poly_product O f g)

-- the same polynomial, whatever zeros stand at the end of the lists
abbrev pub Same : {A : Type 0} → Ops A → List A → List A → Type 0
Same O f g = (k : ℕ) → coefficient O f k ≡ coefficient O g k

-- values and lengths of sums, scalings and products; a degree of at most m is a length of at most m + 1
pub record Arithmetic (A : Type 0) (R : CommRing A) : Type 0 where
  pub sum_value : (f g : List A) (x : A) → val (ops R) (poly_sum (ops R) f g) x ≡ R.◌⊕◌ (val (ops R) f x) (val (ops R) g x)
  pub scaled_value : (k : A) (f : List A) (x : A) → val (ops R) (poly_scaled (ops R) k f) x ≡ R.◌⊗◌ k (val (ops R) f x)
  pub product_value : (f g : List A) (x : A) → val (ops R) (poly_product (ops R) f g) x ≡ R.◌⊗◌ (val (ops R) f x) (val (ops R) g x)
  pub same_value : (f g : List A) → Same (ops R) f g → (x : A) → val (ops R) f x ≡ val (ops R) g x
  pub sum_length : (f g : List A) → length (poly_sum (ops R) f g) ≡ max (length f) (length g)
  pub scaled_length : (k : A) (f : List A) → length (poly_scaled (ops R) k f) ≡ length f
  pub product_length : (f g : List A) (m n : ℕ) → length f ≤ suc m → length g ≤ suc n → length (poly_product (ops R) f g) ≤ suc (m + n)

abbrev pub PolyArithmetic : Type 0 → Type 0
PolyArithmetic A = (R : CommRing A) → Arithmetic A R

-- u i j is the inverse of the difference of the points p i and p j, for different i and j below m
abbrev pub Apart : {A : Type 0} → CommRing A → ℕ → (ℕ → A) → (ℕ → ℕ → A) → Type 0
Apart R m p u = (i j : ℕ) → i < m → j < m → (i ≢ j) → R.◌⊗◌ (sub R (p i) (p j)) (u i j) ≡ R.𝟏

-- at most m coefficients and m roots: zero
abbrev pub FewRoots : Type 0 → Type 0
FewRoots A =
    (R : CommRing A) (m : ℕ) (p : ℕ → A) (u : ℕ → ℕ → A) → Apart R m p u → (f : List A) → length f ≤ m
    → ((i : ℕ) → i < m → val (ops R) f (p i) ≡ R.𝟎) → Same (ops R) f []

-- the polynomial f runs through the values v at the first m points
abbrev pub Through : {A : Type 0} → CommRing A → ℕ → (ℕ → A) → (ℕ → A) → List A → Type 0
Through R m p v f = (i : ℕ) → i < m → val (ops R) f (p i) ≡ v i

-- through any m values there is a polynomial with m coefficients
abbrev pub SomeThrough : Type 0 → Type 0
SomeThrough A =
    (R : CommRing A) (m : ℕ) (p : ℕ → A) (u : ℕ → ℕ → A) → Apart R m p u → (v : ℕ → A)
    → (f : List A) × (length f ≡ m) × Through R m p v f

-- and only one
abbrev pub OneThrough : Type 0 → Type 0
OneThrough A =
    (R : CommRing A) (m : ℕ) (p : ℕ → A) (u : ℕ → ℕ → A) → Apart R m p u → (v : ℕ → A) (f g : List A)
    → length f ≤ m → length g ≤ m → Through R m p v f → Through R m p v g → Same (ops R) f g

-- f 0 + ... + f (n - 1), and the product likewise
abbrev pub sum_below : {A : Type 0} → CommRing A → ℕ → (ℕ → A) → A
sum_below R zero f = R.𝟎
sum_below R (suc n) f = R.◌⊕◌ (sum_below R n f) (f n)

abbrev pub product_below : {A : Type 0} → CommRing A → ℕ → (ℕ → A) → A
product_below R zero f = R.𝟏
product_below R (suc n) f = R.◌⊗◌ (product_below R n f) (f n)

-- Lagrange's factor of place i at x: the product of (x - p j) / (p i - p j) over the other places j below m
abbrev pub part : {A : Type 0} → CommRing A → (ℕ → A) → (ℕ → ℕ → A) → A → ℕ → ℕ → A
part R p u x i j = cond (j == i) R.𝟏 (R.◌⊗◌ (sub R x (p j)) (u i j))

abbrev pub factor : {A : Type 0} → CommRing A → ℕ → (ℕ → A) → (ℕ → ℕ → A) → A → ℕ → A
factor R m p u x i = product_below R m (part R p u x i)

-- Lagrange's sum
abbrev pub lagrange : {A : Type 0} → CommRing A → ℕ → (ℕ → A) → (ℕ → ℕ → A) → (ℕ → A) → A → A
lagrange R m p u v x = sum_below R m (λ i. R.◌⊗◌ (v i) (factor R m p u x i))

-- the value anywhere of a polynomial with at most m coefficients is Lagrange's sum of its values at the points
abbrev pub LagrangeValue : Type 0 → Type 0
LagrangeValue A =
    (R : CommRing A) (m : ℕ) (p : ℕ → A) (u : ℕ → ℕ → A) → Apart R m p u → (f : List A) → length f ≤ m
    → (x : A) → val (ops R) f x ≡ lagrange R m p u (λ i. val (ops R) f (p i)) x
