-- A gate code is a 32-bit number: kind in bits 31 to 29, detail in 28 to 26, first in 25 to 13, second in 12 to 0.
use Rattle.std.specs.Prelude.{◌≡◌, ℕ, ◌+◌, ◌*◌, ◌/◌, ◌%◌, ◌^◌, ◌<◌, Bool, cond, ◌&&◌, Some, None, Option, nat_lt}

-- kind, detail, first and second
abbrev pub Parts : Type 0
Parts = ℕ × ℕ × ℕ × ℕ

abbrev pub parts_of : ℕ → Parts
parts_of code = (code / 2 ^ 29, code / 2 ^ 26 % 2 ^ 3, code / 2 ^ 13 % 2 ^ 13, code % 2 ^ 13)

abbrev pub code_of : ℕ → ℕ → ℕ → ℕ → ℕ
code_of kind detail first second = kind * 2 ^ 29 + detail * 2 ^ 26 + first * 2 ^ 13 + second

abbrev pub kind_of : ℕ → ℕ
kind_of code = (parts_of code).0

abbrev pub detail_of : ℕ → ℕ
detail_of code = (parts_of code).1

abbrev pub first_of : ℕ → ℕ
first_of code = (parts_of code).2

abbrev pub second_of : ℕ → ℕ
second_of code = (parts_of code).3

-- each part fits its field
abbrev pub fitting : ℕ → ℕ → ℕ → ℕ → Bool
fitting kind detail first second = nat_lt kind (2 ^ 3) && nat_lt detail (2 ^ 3) && nat_lt first (2 ^ 13) && nat_lt second (2 ^ 13)

-- the code of parts that fit
abbrev pub joined : ℕ → ℕ → ℕ → ℕ → Option ℕ
joined kind detail first second = cond (fitting kind detail first second) (Some (code_of kind detail first second)) None

-- every code is the code of its parts
abbrev pub CodesComeBack : Type 0
CodesComeBack = (code : ℕ) → code < 2 ^ 32 → joined (parts_of code).0 (parts_of code).1 (parts_of code).2 (parts_of code).3 ≡ Some code

-- and parts that have a code are the parts of it
abbrev pub PartsComeBack : Type 0
PartsComeBack = (kind detail first second code : ℕ) → joined kind detail first second ≡ Some code → (code < 2 ^ 32) × (parts_of code ≡ (kind, detail, first, second))
