use Rattle.std.proofs.Common.{◌<◌, length, replicate, sym, ◌∙◌, arith}
use lib.ListN.{length-replicate, get_or-replicate}
use Rattle.ring.specs.Model.{degree}
use Rattle.encoding.specs.Layouts.{positions}
use Rattle.rules.proofs.Values.{value_by, few_lanes}
use Rattle.rules.proofs.gates.in_every_lane.Goals as goal

pub returns : goal.returns
returns g c =
    let s = g.R.Ring.shape in
    let layout = c.args.layout in
    let n = length (positions layout (degree s)) in
    value_by s layout _ (replicate 16 c.args.number) (replicate n c.args.number) c.lay_out.ensures
    (omega (arith, few_lanes layout (degree s) s.some, g.met.R.Ring.limits.short)) (omega (arith, length-replicate n c.args.number))
    (λ l h.
    let low : l < 16 = omega (arith, few_lanes layout (degree s) s.some, g.met.R.Ring.limits.short) in
    get_or-replicate 16 l c.args.number 0 low ∙ sym (get_or-replicate n l c.args.number 0 h))
