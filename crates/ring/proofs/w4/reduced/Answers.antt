use Rattle.std.proofs.Common.{rules}
use Rattle.ring.specs.Words.{reduced_is}
use Rattle.ring.proofs.w4.reduced.Goals as goal

pub returns : goal.returns
returns c = reduced_is c.args.s (search rules)
