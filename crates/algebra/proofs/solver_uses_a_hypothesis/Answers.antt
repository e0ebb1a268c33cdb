use Rattle.algebra.proofs.Solver.{solver_uses}
use Rattle.algebra.proofs.solver_uses_a_hypothesis.Goals as goal

pub returns : goal.returns
returns g c = solver_uses
