use Rattle.std.proofs.Common.{◌≤◌, length, vec_items, vec_capacity}
use Rattle.circuit.proofs.Opened.{Found}
use Rattle.circuit.proofs.openings.openings_of.Given as goal

abbrev pub invariant-loop-gate : goal.invariant-loop-gate
invariant-loop-gate l = Found l.codes l.gate (vec_items l.openings) l.pair l.number × (length l.codes ≤ vec_capacity l.openings)
