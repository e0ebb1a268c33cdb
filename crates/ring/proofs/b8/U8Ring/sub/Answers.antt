use Rattle.std.proofs.Common.{◌∙◌}
use Rattle.ring.specs.Bytes.{sum_is_difference}
use Rattle.ring.proofs.b8.U8Ring.sub.Goals as goal

pub returns : goal.returns
returns c = c.add.ensures ∙ sum_is_difference c.args.self c.args.other
