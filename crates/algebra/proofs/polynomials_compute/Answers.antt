use Rattle.algebra.proofs.Poly.{poly_arithmetic}
use Rattle.algebra.proofs.polynomials_compute.Goals as goal

pub returns : goal.returns
returns g c = poly_arithmetic
