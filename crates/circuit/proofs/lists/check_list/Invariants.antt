use Rattle.std.proofs.Common.{◌≡◌, ◌≤◌, length, take}
use Rattle.circuit.specs.Gates.{setting_for}
use Rattle.circuit.proofs.Whole.{Worked}
use Rattle.circuit.proofs.lists.check_list.Given as goal

abbrev pub invariant-loop-gate : goal.invariant-loop-gate
invariant-loop-gate g l = Worked (setting_for l.limits g.M.Methods.method) l.codes (take l.gate l.layouts) l.gate × (length l.codes ≤ 1024) × (length l.layouts ≡ 1024)
