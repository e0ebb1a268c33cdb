use Rattle.algebra.proofs.Quotient.{product_is_remainder}
use Rattle.algebra.proofs.product_is_the_remainder.Goals as goal

pub returns : goal.returns
returns c = product_is_remainder
