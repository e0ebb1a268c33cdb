-- Whole lists of gates: the layouts of all gates, or the first refusal.
use Rattle.std.specs.Prelude.{ℕ, zero, suc, Bool, cond, ◌||◌, List, [], ◌∷◌, ◌++◌, length, Ok, Err, Result, ◌==◌, nat_lt}
use Rattle.curve.specs.declared.refusal.Refusal.{Refusal}
use Rattle.curve.specs.declared.refusal.Refusal.TheVariants.{Length}
use Rattle.encoding.specs.declared.layout.Layout.{Layout}
use Rattle.circuit.specs.Gates.{Setting, gate_judged}

-- the next n gates after those whose layouts are known
abbrev pub check_from : Setting → List ℕ → List Layout → ℕ → Result (List Layout) Refusal
check_from S codes layouts zero = Ok layouts
check_from S codes layouts (suc n) = elim (gate_judged S codes layouts (length layouts)) [ Ok l ↦ check_from S codes (layouts ++ (l ∷ [])) n | Err e ↦ Err e ]

-- 1 to 1,024 gates, at most 1,024 inputs and at most 1,024 constants
abbrev pub lengths_wrong : Setting → List ℕ → Bool
lengths_wrong S codes = length codes == 0 || nat_lt 1024 (length codes) || nat_lt 1024 S.inputs || nat_lt 1024 S.constants

-- length first, then the gates in order
abbrev pub list_checked : Setting → List ℕ → Result (List Layout) Refusal
list_checked S codes = cond (lengths_wrong S codes) (Err Length) (check_from S codes [] (length codes))
