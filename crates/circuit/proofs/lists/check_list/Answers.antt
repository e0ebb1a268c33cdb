use Rattle.std.proofs.Common.{arith, length-set}
use Rattle.std.proofs.lemmas.Result.{err_from_is_err_and}
use Rattle.circuit.specs.Gates.{setting_for}
use Rattle.circuit.proofs.Whole.{worked_set, worked_not}
use Rattle.circuit.proofs.lists.check_list.Goals as goal

pub loop-gate-preserved : goal.loop-gate-preserved
loop-gate-preserved g c = (
  worked_set (setting_for c.args.limits g.M.Methods.method) c.args.codes.now c.loop-gate.layouts c.loop-gate.invariant.0 c.loop-gate-test.true (omega (arith, c.loop-gate-test.true, c.loop-gate.invariant.1)) _ c.in_ok-layouts.ensures,
  c.loop-gate.invariant.1,
  simp length-set c.loop-gate.invariant.2,
)

pub returns-in_err-layouts : goal.returns-in_err-layouts
returns-in_err-layouts g c =
    let p = err_from_is_err_and c.from_residual.result c.from_residual.ensures.1 in
    rw (p.1, p.2) (worked_not (setting_for c.args.limits g.M.Methods.method) c.args.codes.now c.loop-gate.invariant.0 c.loop-gate-test.true _ c.in_err-layouts.ensures)
