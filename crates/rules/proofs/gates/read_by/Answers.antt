use Rattle.std.proofs.Common.{sym, ◌∙◌, map-id, arith}
use Rattle.curve.proofs.Loops.{filled_more, filled_all}
use Rattle.ring.specs.Model.{degree}
use Rattle.rules.proofs.Values.{read_lane}
use Rattle.rules.proofs.gates.read_by.Goals as goal

pub loop-lane-preserved : goal.loop-lane-preserved
loop-lane-preserved g c ps answers =
    let x = g.R.Ring.element c.args.element in
    filled_more (λ v. v) c.loop-lane.lanes (c.loop-lane.invariant ps answers) (omega (arith, c.loop-lane-test.true)) c.wide.result
    (read_lane ps x.0 (degree g.R.Ring.shape) c.loop-lane.lane c.position.result c.wide.result x.1.0
    (answers c.loop-lane.lane c.position.result (omega (arith, c.loop-lane-test.true, c.loop-lane.auto.lanes)) c.position.ensures)
    (c.wide.ensures ∙ c.coordinate.ensures))

pub returns : goal.returns
returns g c ps answers =
    sym (map-id c.loop-lane.lanes)
    ∙ filled_all (λ v. v) c.loop-lane.lanes _ (c.loop-lane.invariant ps answers) c.loop-lane.auto.lanes (omega (arith, c.loop-lane-test.false))
