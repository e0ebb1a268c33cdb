use Rattle.std.proofs.Common.{◌≤◌, length, vec_items, vec_capacity}
use Rattle.rules.proofs.Loop.{Worked}
use Rattle.rules.proofs.plain.evaluate.Given as goal

abbrev pub invariant-loop-code : goal.invariant-loop-code
invariant-loop-code g l =
    Worked g.R.Ring g.M.Methods.method l.constants l.inputs l.circuit.codes l.circuit.layouts (vec_items l.values) (length l.yielded)
    × (length l.circuit.codes ≤ vec_capacity l.values)
