use Rattle.algebra.proofs.Solver.{solver_sound}
use Rattle.algebra.proofs.solver_is_sound.Goals as goal

pub returns : goal.returns
returns g c = solver_sound
