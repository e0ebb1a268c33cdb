-- Lists of d numbers below q, added place by place and multiplied as polynomials modulo a monic one of degree d.
use Rattle.std.specs.Prelude.{◌≡◌, ℕ, ◌+◌, ◌-◌, ◌*◌, ◌%◌, ◌<◌, ◌≤◌, List, [], ◌∷◌, ◌++◌, map, length}
use Rattle.algebra.specs.Poly.{Same, poly_product, poly_sum}
use Rattle.algebra.specs.Ring.{CommRing, Ops}

-- the numbers below q, counted modulo q
abbrev pub modulo : ℕ → Ops ℕ
modulo q = record { zero = 0; one = 1; plus = λ x y. (x + y) % q; times = λ x y. (x * y) % q; minus = λ x. (q - x) % q }

-- The operations on lists of d coefficients. The monic polynomial is X^d + h, and h the list of its d lower coefficients.
abbrev pub add : {A : Type 0} → Ops A → List A → List A → List A
add O [] v = []
add O (a ∷ u) [] = []
add O (a ∷ u) (b ∷ v) = O.plus a b ∷ add O u v

abbrev pub negate : {A : Type 0} → Ops A → List A → List A
negate O v = map O.minus v

abbrev pub scale : {A : Type 0} → Ops A → A → List A → List A
scale O k v = map (O.times k) v

-- d zeros, and a one with d - 1 zeros
abbrev pub zeros : {A : Type 0} → Ops A → List A → List A
zeros O h = map (λ _. O.zero) h

abbrev pub unit : {A : Type 0} → Ops A → List A → List A
unit O [] = []
unit O (c ∷ h) = O.one ∷ zeros O h

-- c goes in below, every coefficient moves up by one place, and the top one leaves
abbrev pub push : {A : Type 0} → A → List A → List A
push c [] = []
push c (b ∷ v) = c ∷ push b v

abbrev pub top : {A : Type 0} → A → List A → A
top c [] = c
top c (b ∷ v) = top b v

-- X · v: the coefficient t that leaves comes back as - t · h, since X^d is - h
abbrev pub shift : {A : Type 0} → Ops A → List A → List A → List A
shift O h v = add O (push O.zero v) (negate O (scale O (top O.zero v) h))

-- (a + X · u) · v is a · v + X · (u · v)
abbrev pub product : {A : Type 0} → Ops A → List A → List A → List A → List A
product O h [] v = zeros O h
product O h (a ∷ u) v = add O (scale O a v) (shift O h (product O h u v))

-- every number of the list is below q
abbrev pub AllBelow : ℕ → List ℕ → Type 0
AllBelow q [] = Unit {0}
AllBelow q (x ∷ l) = (x < q) × AllBelow q l

-- a modulus of at least 2, and a monic polynomial of degree at least 1
pub record Shape : Type 0 where
  pub q : ℕ
  pub h : List ℕ
  pub two : 2 ≤ q
  pub some : 1 ≤ length h
  pub low : AllBelow q h

-- lists of d numbers below q
abbrev pub Is : Shape → List ℕ → Type 0
Is s l = (length l ≡ length s.h) × AllBelow s.q l

abbrev pub Element : Shape → Type 0
Element s = (l : List ℕ) × Is s l

-- a commutative ring on these lists, with the operations above
pub record Quotient (s : Shape) : Type 0 where
  pub ring : CommRing (Element s)
  pub zero_is : ring.𝟎.0 ≡ zeros (modulo s.q) s.h
  pub one_is : ring.𝟏.0 ≡ unit (modulo s.q) s.h
  pub sum_is : (a b : Element s) → (ring.◌⊕◌ a b).0 ≡ add (modulo s.q) a.0 b.0
  pub minus_is : (a : Element s) → (ring.neg a).0 ≡ negate (modulo s.q) a.0
  pub product_is : (a b : Element s) → (ring.◌⊗◌ a b).0 ≡ product (modulo s.q) s.h a.0 b.0

abbrev pub QuotientIsRing : Type 0
QuotientIsRing = (s : Shape) → Quotient s

-- the monic polynomial, all its coefficients
abbrev pub monic : Shape → List ℕ
monic s = s.h ++ (1 ∷ [])

-- p is w · (X^d + h) + r, as polynomials with coefficients modulo q
abbrev pub DividesInto : Shape → List ℕ → List ℕ → List ℕ → Type 0
DividesInto s p w r = let O = modulo s.q in Same O p (poly_sum O (poly_product O w (monic s)) r)

-- r is a remainder of p
abbrev pub Remainder : Shape → List ℕ → List ℕ → Type 0
Remainder s p r = (w : List ℕ) × AllBelow s.q w × DividesInto s p w r

-- the product is the remainder of the plain product of polynomials, and the only one of d coefficients
abbrev pub ProductIsRemainder : Type 0
ProductIsRemainder =
    (s : Shape) (a b : List ℕ) → Is s a → Is s b
    → Remainder s (poly_product (modulo s.q) a b) (product (modulo s.q) s.h a b)
    × ((r : List ℕ) → Is s r → Remainder s (poly_product (modulo s.q) a b) r → r ≡ product (modulo s.q) s.h a b)
