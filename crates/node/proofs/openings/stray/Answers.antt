use Rattle.std.proofs.Common.{subst}
use Rattle.ring.specs.Model.{degree}
use Rattle.node.specs.Openings.{Differ}
use Rattle.node.proofs.Straying.{strays}
use Rattle.node.proofs.openings.stray.Goals as goal

pub returns : goal.returns
returns g c =
    let s = g.R.Ring.shape in
    let x = g.R.Ring.element c.args.value in
    strays s c.args.layout x _ (subst (λ y. Differ (degree s) x.0 y.0 c.first_difference.result) c.seen_through.ensures c.first_difference.ensures)
