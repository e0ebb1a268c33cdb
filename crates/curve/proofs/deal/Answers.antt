use Rattle.std.proofs.Common.{◌∷◌, map, ap, ◌∙◌, arith}
use Rattle.algebra.specs.Poly.{val}
use Rattle.algebra.specs.Ring.{ops}
use Rattle.curve.specs.Curve.{K}
use Rattle.curve.proofs.Loops.{filled_none, filled_more, filled_all}
use Rattle.curve.proofs.Theory.{deal_taken, dealt_ok, tests_passed}
use Rattle.curve.proofs.deal.Goals as goal

pub loop-i-init : goal.loop-i-init
loop-i-init g c = filled_none g.R.Ring.element c.args.shares.now _ _

pub loop-i-preserved : goal.loop-i-preserved
loop-i-preserved g c =
    let G = g.R.Ring in
    filled_more G.element c.loop-i.shares c.loop-i.invariant (omega arith) c.value_at.result
    (c.value_at.ensures ∙ ap (val (ops (K G)) (map G.element (c.args.secret ∷ c.args.others.now))) c.point.ensures)

pub returns : goal.returns
returns g c =
    let G = g.R.Ring in
    dealt_ok G c.args.n c.args.degree c.args.secret c.args.others.now c.args.shares.now c.loop-i.shares
    (deal_taken G.points.count c.args.n c.args.degree _ _ (tests_passed _ c.in_ok-tests.ensures) c.if-others-degree.false c.if-shares-n.false)
    (filled_all G.element c.loop-i.shares c.args.n c.loop-i.invariant (omega arith) (omega arith))
