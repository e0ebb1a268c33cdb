use Rattle.protocol.proofs.Clear.{values_clear}
use Rattle.protocol.proofs.values_are_clear.Goals as goal

pub returns : goal.returns
returns g c = values_clear
