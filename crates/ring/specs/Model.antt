-- What a ring of the engine stands for: the ring of a shape, and its evaluation points.
use Rattle.std.specs.Prelude.{◌≡◌, ℕ, ◌/◌, ◌%◌, ◌^◌, ◌<◌, ◌≤◌, List, length, ◌≢◌, slice_index, slice_set}
use Rattle.algebra.specs.Quotient.{Shape, Element, modulo, zeros}
use Rattle.algebra.specs.Ring.{CommRing, sub}
use Rattle.algebra.proofs.Quotient.{quotient_is_ring}

-- the commutative ring on the lists of d numbers below q, whose operations are those that `Quotient` says
unfoldable pub ring : (s : Shape) → CommRing (Element s)
ring s = (quotient_is_ring s).ring

abbrev pub degree : Shape → ℕ
degree s = length s.h

-- coordinate p of a list of coordinates; 0 at the degree and past it
abbrev pub coordinate_of : List ℕ → ℕ → ℕ
coordinate_of x p = slice_index x p

-- the number v, modulo q, at coordinate p and 0 elsewhere; zero if p is no coordinate
abbrev pub embedded : Shape → ℕ → ℕ → List ℕ
embedded s v p = slice_set (zeros (modulo s.q) s.h) p (v % s.q)

-- bit c of a number
abbrev pub bit_of : ℕ → ℕ → ℕ
bit_of n c = n / 2 ^ c % 2

-- the evaluation points, numbered from 0, and what is answered for the inverse of the difference of two of them
pub record Points (s : Shape) : Type 0 where
  pub count : ℕ
  pub at : ℕ → Element s
  pub inv : ℕ → ℕ → Element s

-- Point 0 is zero, numbers wrap at the count, and inv i j is the inverse of the difference of the points i and j, or
-- zero where they are one.
pub record PointLaws (s : Shape) (p : Points s) : Type 0 where
  pub many : 2 ≤ p.count
  pub start : p.at 0 ≡ (ring s).𝟎
  pub wraps : (i : ℕ) → p.at (i % p.count) ≡ p.at i
  pub inv_wraps : (i j : ℕ) → p.inv (i % p.count) (j % p.count) ≡ p.inv i j
  pub inverse : (i j : ℕ) → i < p.count → j < p.count → (i ≢ j) → (ring s).◌⊗◌ (sub (ring s) (p.at i) (p.at j)) (p.inv i j) ≡ (ring s).𝟏
  pub none : (i : ℕ) → p.inv i i ≡ (ring s).𝟎

-- the constants of a ring: its modulus, its degree, and how many points it has
pub record Counts (q d n : ℕ) (s : Shape) (p : Points s) : Type 0 where
  pub modulus : q ≡ s.q
  pub degree : d ≡ length s.h
  pub points : n ≡ p.count

-- a coordinate fits 64 bits, and there are at most 16 of them
pub record Limits (s : Shape) : Type 0 where
  pub modulus : s.q ≤ 2 ^ 64
  pub short : degree s ≤ 16

-- The laws of a ring of the engine.
pub record Laws (s : Shape) (p : Points s) : Type 0 where
  pub sum_associative : (a b c : Element s) → (ring s).◌⊕◌ ((ring s).◌⊕◌ a b) c ≡ (ring s).◌⊕◌ a ((ring s).◌⊕◌ b c)
  pub sum_commutative : (a b : Element s) → (ring s).◌⊕◌ a b ≡ (ring s).◌⊕◌ b a
  pub product_associative : (a b c : Element s) → (ring s).◌⊗◌ ((ring s).◌⊗◌ a b) c ≡ (ring s).◌⊗◌ a ((ring s).◌⊗◌ b c)
  pub product_commutative : (a b : Element s) → (ring s).◌⊗◌ a b ≡ (ring s).◌⊗◌ b a
  pub distributive : (a b c : Element s) → (ring s).◌⊗◌ a ((ring s).◌⊕◌ b c) ≡ (ring s).◌⊕◌ ((ring s).◌⊗◌ a b) ((ring s).◌⊗◌ a c)
  pub zero_is_none : (a : Element s) → (ring s).◌⊕◌ a (ring s).𝟎 ≡ a
  pub one_is_one : (a : Element s) → (ring s).◌⊗◌ a (ring s).𝟏 ≡ a
  pub difference : (a b : Element s) → (ring s).◌⊕◌ (sub (ring s) a b) b ≡ a
  pub zero_is_not_one : (ring s).𝟎 ≡ (ring s).𝟏 → ⊥
  pub first_point : p.at 0 ≡ (ring s).𝟎
  pub points_differ : (i j : ℕ) → i < p.count → j < p.count → p.at i ≡ p.at j → i ≡ j
  pub differences_inverted : (i j : ℕ) → i < p.count → j < p.count → (i ≢ j) → (ring s).◌⊗◌ (sub (ring s) (p.at i) (p.at j)) (p.inv i j) ≡ (ring s).𝟏
