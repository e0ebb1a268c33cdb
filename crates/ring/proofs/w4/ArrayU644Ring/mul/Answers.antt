use Rattle.ring.specs.Words.{product_is}
use Rattle.ring.proofs.w4.ArrayU644Ring.mul.Goals as goal

pub returns : goal.returns
returns c = product_is c.args.self c.args.other c.sums.result c.reduced.result c.sums.ensures c.reduced.ensures
