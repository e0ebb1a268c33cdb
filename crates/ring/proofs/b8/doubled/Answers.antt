use Rattle.std.proofs.Common.{rules}
use Rattle.ring.specs.Bytes.{doubled_high}
use Rattle.ring.proofs.b8.doubled.Goals as goal

pub returns-else-a-lt128 : goal.returns-else-a-lt128
returns-else-a-lt128 c = doubled_high c.args.a (search rules) (search rules)
