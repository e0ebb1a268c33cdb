use Rattle.curve.specs.Curve.{K, word}
use Rattle.rules.specs.Elements.{known}
use Rattle.node.proofs.Working.{left_less}
use Rattle.node.proofs.work.settle.Goals as goal

pub loop-gate-preserved : goal.loop-gate-preserved
loop-gate-preserved g c =
    left_less (K g.R.Ring) (known g.R.Ring.shape g.M.Methods.method c.args.lent.constants.now) c.args.circuit.now.codes c.args.circuit.now.layouts (word g.R.Ring c.args.lent.inputs.now)
    c.loop-gate.invariant c.loop-gate-test.true _ _ c.zero.ensures c.zero-2.ensures _ c.work_out.ensures
