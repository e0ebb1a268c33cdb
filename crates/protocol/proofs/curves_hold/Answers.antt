use Rattle.protocol.proofs.Runs.{curves_hold}
use Rattle.protocol.proofs.curves_hold.Goals as goal

pub returns : goal.returns
returns g c = curves_hold
