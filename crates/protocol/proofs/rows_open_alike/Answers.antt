use Rattle.protocol.proofs.Engine.{rows_alike}
use Rattle.protocol.proofs.rows_open_alike.Goals as goal

pub returns : goal.returns
returns g c = rows_alike g.R.Ring
