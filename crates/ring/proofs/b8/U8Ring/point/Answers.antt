use Rattle.ring.specs.Bytes.{byte_wraps}
use Rattle.ring.proofs.b8.U8Ring.point.Goals as goal

pub returns : goal.returns
returns c = byte_wraps c.args.number
