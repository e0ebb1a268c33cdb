use Rattle.std.proofs.Common.{sym, ◌∙◌, arith}
use Rattle.encoding.specs.Search.{digit_passed}
use Rattle.encoding.proofs.layout.+lacks_two.Goals as goal

pub returns-then-number-ne2 : goal.returns-then-number-ne2
returns-then-number-ne2 n c = c.lacks_two.ensures ∙ sym (digit_passed c.args.number (omega (arith, c.if-number-eq0.false)) c.if-number-ne2.true)
