use Rattle.std.proofs.Common.{map}
use Rattle.curve.specs.Curve.{K, word}
use Rattle.rules.specs.Elements.{known}
use Rattle.node.proofs.Working.{Left}
use Rattle.node.proofs.work.settle.Given as goal

abbrev pub invariant-loop-gate : goal.invariant-loop-gate
invariant-loop-gate g l =
    Left (K g.R.Ring) (known g.R.Ring.shape g.M.Methods.method l.lent.constants.now) l.circuit.codes l.circuit.layouts (word g.R.Ring l.lent.inputs.now)
    (map g.R.Ring.element l.initial.work) l.from l.to (map g.R.Ring.element l.work) l.gate
