-- The ring of bytes: bits modulo X^8 + X^4 + X^3 + X + 1, with 256 points.
use Rattle.std.specs.Prelude.{ℕ, ◌/◌, ◌%◌, ◌^◌, ◌<◌, List, [], ◌∷◌, bit_xor, slice_index, refl}
use Rattle.std.proofs.Common.{mod-lt, lit<, lit≤}
use Rattle.algebra.specs.Quotient.{Shape, Element}
use Rattle.ring.specs.Model.{Points, bit_of}
use Rattle.ring.specs.B8Inverses.{byte_inverses}

abbrev pub b8 : Shape
b8 = record {
  q = 2;
  h = 1 ∷ 1 ∷ 0 ∷ 1 ∷ 1 ∷ 0 ∷ 0 ∷ 0 ∷ [];
  two = lit≤ tt;
  some = lit≤ tt;
  low = (lit< tt, (lit< tt, (lit< tt, (lit< tt, (lit< tt, (lit< tt, (lit< tt, (lit< tt, tt))))))));
}

-- the eight lowest bits of a number, the lowest first
abbrev pub bits : ℕ → List ℕ
bits n = bit_of n 0 ∷ bit_of n 1 ∷ bit_of n 2 ∷ bit_of n 3 ∷ bit_of n 4 ∷ bit_of n 5 ∷ bit_of n 6 ∷ bit_of n 7 ∷ []

-- a bit is below 2
abbrev small : (n c : ℕ) → bit_of n c < 2
small n c = mod-lt (n / 2 ^ c) (lit< tt)

-- what a byte stands for: bit c is coordinate c
abbrev pub b8_element : ℕ → Element b8
b8_element n = (bits n, (refl, (small n 0, (small n 1, (small n 2, (small n 3, (small n 4, (small n 5, (small n 6, (small n 7, tt))))))))))

-- point i is the byte i, and the difference of the points i and j is i ⊻ j, bit by bit
abbrev pub b8_points : Points b8
b8_points = record { count = 256; at = b8_element; inv = λ i j. b8_element (slice_index byte_inverses (bit_xor i j % 256)) }
