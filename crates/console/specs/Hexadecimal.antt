-- How a byte is written.
use Rattle.std.specs.Prelude.{ℕ, ◌+◌, ◌/◌, ◌%◌, cond, List, [], ◌∷◌, nat_lt}

-- the code of the digit of a value below 16: 0 to 9, then a to f
abbrev pub digit_code : ℕ → ℕ
digit_code v = cond (nat_lt v 10) (48 + v) (87 + v)

-- 0x, and the two digits
abbrev pub byte_text : ℕ → List ℕ
byte_text b = 48 ∷ 120 ∷ digit_code (b / 16) ∷ digit_code (b % 16) ∷ []
