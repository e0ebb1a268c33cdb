use Rattle.std.proofs.Common.{rules}
use Rattle.ring.specs.Bytes.{next_clear, next_set, byte_product}
use Rattle.ring.proofs.b8.U8Ring.mul.Goals as goal

pub loop-c-preserved : goal.loop-c-preserved
loop-c-preserved c =
    next_clear c.args.self c.args.other c.loop-c.sum c.doubled-sum.result c.loop-c.c (search rules) (search rules) c.loop-c.invariant c.doubled-sum.ensures c.if-bit.ensures

pub loop-c-preserved-then-bit : goal.loop-c-preserved-then-bit
loop-c-preserved-then-bit c =
    next_set c.args.self c.args.other c.loop-c.sum c.doubled-sum.result c.loop-c.c (search rules) (search rules) c.loop-c.invariant c.doubled-sum.ensures c.if-bit.ensures

pub returns : goal.returns
returns c = byte_product c.args.self c.args.other c.loop-c.sum c.loop-c.c c.loop-c-test.false c.loop-c.invariant
