-- The numbers of the layouts and of the methods.
use Rattle.std.specs.Prelude.{◌≡◌, ℕ, ◌<◌, ◌≤◌, zero, suc, Some, None, Option, Result, MatchResult, List, ◌++◌, codes, decimal}
use Rattle.encoding.specs.declared.layout.Layout.{Layout}
use Rattle.encoding.specs.declared.layout.Layout.TheVariants.{Plain, Lanes, Left, Right}
use Rattle.encoding.specs.declared.methods.Method.{Method}
use Rattle.encoding.specs.declared.methods.Method.TheVariants as method
use Rattle.encoding.specs.declared.numbers.NoNumber.{NoNumber}

abbrev pub layout_of : ℕ → Option Layout
layout_of zero = Some Plain
layout_of (suc zero) = Some Lanes
layout_of (suc (suc zero)) = Some Left
layout_of (suc (suc (suc zero))) = Some Right
layout_of (suc (suc (suc (suc n)))) = None

abbrev pub number_of : Layout → ℕ
number_of Plain = 0
number_of Lanes = 1
number_of Left = 2
number_of Right = 3

-- the result is the layout of this number, or an error with a number that is no layout's
abbrev pub IsLayoutOf : ℕ → Result Layout NoNumber → Type 0
IsLayoutOf number r = MatchResult r (λ layout. layout_of number ≡ Some layout) (λ e. (e.0 ≡ number) × (layout_of number ≡ None))

abbrev pub method_number : Method → ℕ
method_number method.Zero = 0
method_number method.One = 1
method_number method.Two = 2

-- the result is the method of this number, or an error with a number past the methods'
abbrev pub IsMethodOf : ℕ → Result Method NoNumber → Type 0
IsMethodOf number r = MatchResult r (λ m. (method_number m ≡ number) × (number < 3)) (λ e. (e.0 ≡ number) × (3 ≤ number))

-- how the error prints
abbrev pub text_of : NoNumber → List ℕ
text_of e = codes "nothing has number " ++ decimal e.0
