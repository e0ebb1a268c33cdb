-- The ring of four 64-bit coordinates modulo X^4 + X + 1, with 16 points.
use Rattle.std.specs.Prelude.{ℕ, ◌%◌, ◌^◌, List, [], ◌∷◌, slice_index, slice_index_or, refl}
use Rattle.std.proofs.Common.{mod-lt, lit<, lit≤}
use Rattle.algebra.specs.Quotient.{Shape, Element}
use Rattle.ring.specs.Model.{Points, bit_of}
use Rattle.ring.specs.W4Inverses.{inverses}

abbrev pub w4 : Shape
w4 = record { q = 2 ^ 64; h = 1 ∷ 1 ∷ 0 ∷ 0 ∷ []; two = lit≤ tt; some = lit≤ tt; low = (lit< tt, (lit< tt, (lit< tt, (lit< tt, tt)))) }

-- four numbers, each modulo 2^64
abbrev pub four : ℕ → ℕ → ℕ → ℕ → Element w4
four a b c d = (a % 2 ^ 64 ∷ b % 2 ^ 64 ∷ c % 2 ^ 64 ∷ d % 2 ^ 64 ∷ [], (refl, (mod-lt a (lit< tt), (mod-lt b (lit< tt), (mod-lt c (lit< tt), (mod-lt d (lit< tt), tt))))))

-- what an array of four words stands for
abbrev pub w4_element : List ℕ → Element w4
w4_element x = four (slice_index x 0) (slice_index x 1) (slice_index x 2) (slice_index x 3)

-- the seven words of an array, as the coefficients of a polynomial
abbrev pub seven : List ℕ → List ℕ
seven x = slice_index x 0 ∷ slice_index x 1 ∷ slice_index x 2 ∷ slice_index x 3 ∷ slice_index x 4 ∷ slice_index x 5 ∷ slice_index x 6 ∷ []

-- coordinate c of point i is bit c of i
abbrev pub w4_point : ℕ → Element w4
w4_point i = four (bit_of i 0) (bit_of i 1) (bit_of i 2) (bit_of i 3)

-- the table's entry for the points i and j
abbrev pub w4_entry : ℕ → ℕ → Element w4
w4_entry i j = w4_element (slice_index_or (slice_index_or inverses i []) j [])

abbrev pub w4_points : Points w4
w4_points = record { count = 16; at = w4_point; inv = λ i j. w4_entry (i % 16) (j % 16) }
