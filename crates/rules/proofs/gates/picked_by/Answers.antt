use Rattle.std.proofs.Common.{ap, ◌∙◌}
use Rattle.encoding.specs.Encodings.{laid}
use Rattle.rules.proofs.Values.{read_value}
use Rattle.rules.proofs.gates.picked_by.Goals as goal

pub returns : goal.returns
returns g c ps answers many =
    let s = g.R.Ring.shape in
    read_value s c.args.layout ps (g.R.Ring.element c.args.element) _ g.met.R.Ring.limits.short many (c.lay_out.ensures ∙ ap (laid s c.args.layout) (c.read_by.ensures ps answers))
