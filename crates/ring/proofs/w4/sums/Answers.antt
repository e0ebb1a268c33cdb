use Rattle.std.proofs.Common.{rules}
use Rattle.ring.specs.Words.{sums_are}
use Rattle.ring.proofs.w4.sums.Goals as goal

pub returns : goal.returns
returns c = sums_are c.args.a c.args.b (search rules) (search rules)
