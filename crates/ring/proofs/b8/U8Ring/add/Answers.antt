use Rattle.ring.specs.Bytes.{byte_sum}
use Rattle.ring.proofs.b8.U8Ring.add.Goals as goal

pub returns : goal.returns
returns c = byte_sum c.args.self c.args.other
