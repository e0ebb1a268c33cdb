-- The number, the gate and the place of a fault, and how it prints.
use Rattle.std.specs.Prelude.{ℕ, List, ◌++◌, codes, decimal}
use Rattle.node.specs.declared.fault.Fault.{Fault}
use Rattle.node.specs.declared.fault.Fault.TheVariants.{Row, Lanes}

abbrev pub number_of : Fault → ℕ
number_of (Row g s) = 41
number_of (Lanes g c) = 42

abbrev pub gate_of : Fault → ℕ
gate_of (Row g s) = g
gate_of (Lanes g c) = g

abbrev pub place_of : Fault → ℕ
place_of (Row g s) = s
place_of (Lanes g c) = c

abbrev pub text_of : Fault → List ℕ
text_of f = codes "fault " ++ (decimal (number_of f) ++ (codes " gate " ++ (decimal (gate_of f) ++ (codes " place " ++ decimal (place_of f)))))
