use Rattle.protocol.proofs.Shares.{shares_compute}
use Rattle.protocol.proofs.shares_compute.Goals as goal

pub returns : goal.returns
returns g c = shares_compute
