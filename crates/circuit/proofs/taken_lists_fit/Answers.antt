use Rattle.circuit.proofs.Wellformed.{taken_lists_fit}
use Rattle.circuit.proofs.taken_lists_fit.Goals as goal

pub returns : goal.returns
returns c = taken_lists_fit
