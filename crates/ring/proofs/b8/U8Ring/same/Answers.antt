use Rattle.std.proofs.Common.{ap, rules, eq-eqb, eqb-true}
use Rattle.ring.specs.B8.{b8_element}
use Rattle.ring.specs.Bytes.{same_byte}
use Rattle.ring.proofs.b8.U8Ring.same.Goals as goal

pub returns : goal.returns
returns c = (
  λ e. ap b8_element (eqb-true c.args.self c.args.other e),
  λ e. eq-eqb c.args.self c.args.other (same_byte c.args.self c.args.other (search rules) (search rules) e),
)
