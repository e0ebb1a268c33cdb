use Rattle.algebra.proofs.Quotient.{quotient_is_ring}
use Rattle.algebra.proofs.quotient_is_a_ring.Goals as goal

pub returns : goal.returns
returns c = quotient_is_ring
