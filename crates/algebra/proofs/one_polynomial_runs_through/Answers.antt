use Rattle.algebra.proofs.Interpolation.{one_through}
use Rattle.algebra.proofs.one_polynomial_runs_through.Goals as goal

pub returns : goal.returns
returns g c = one_through
