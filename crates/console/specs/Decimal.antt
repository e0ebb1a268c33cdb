-- What is read of a decimal number.
use Rattle.std.specs.Prelude.{ℕ, ◌^◌, ◌<◌, List, Result}
use Rattle.std.specs.Result.{OkIff}
use Rattle.std.specs.Str.Parse.{IsNumeral, digits_value}

-- r is the number that the text writes, where it is one digit or more and nothing else and the number is below 2 ^ 64; and else an error
abbrev pub ReadsDecimal : {E : Type 0} → List ℕ → Result ℕ E → Type 0
ReadsDecimal text r = OkIff r (IsNumeral 10 text × (digits_value 10 text < 2 ^ 64)) (digits_value 10 text)
