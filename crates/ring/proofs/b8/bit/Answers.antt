use Rattle.ring.specs.Bytes.{bit_is}
use Rattle.ring.proofs.b8.bit.Goals as goal

pub returns-then-place-lt8 : goal.returns-then-place-lt8
returns-then-place-lt8 c = bit_is c.args.a c.args.place c.if-place-lt8.true
