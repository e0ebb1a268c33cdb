use Rattle.protocol.proofs.Engine.{tables_stand}
use Rattle.protocol.proofs.tables_stand.Goals as goal

pub returns : goal.returns
returns g c = tables_stand g.R.Ring.shape g.R.Ring.points g.met.R.Ring.pointed
