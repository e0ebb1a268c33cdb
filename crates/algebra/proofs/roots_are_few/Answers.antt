use Rattle.algebra.proofs.Interpolation.{few_roots}
use Rattle.algebra.proofs.roots_are_few.Goals as goal

pub returns : goal.returns
returns g c = few_roots
