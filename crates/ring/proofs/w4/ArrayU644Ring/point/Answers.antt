use Rattle.ring.specs.Words.{point_is}
use Rattle.ring.proofs.w4.ArrayU644Ring.point.Goals as goal

pub returns : goal.returns
returns c = point_is c.args.number
