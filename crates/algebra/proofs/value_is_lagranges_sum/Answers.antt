use Rattle.algebra.proofs.Interpolation.{lagrange_value}
use Rattle.algebra.proofs.value_is_lagranges_sum.Goals as goal

pub returns : goal.returns
returns g c = lagrange_value
