use Rattle.algebra.proofs.Interpolation.{some_through}
use Rattle.algebra.proofs.some_polynomial_runs_through.Goals as goal

pub returns : goal.returns
returns g c = some_through
