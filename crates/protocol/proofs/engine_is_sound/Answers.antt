use Rattle.protocol.proofs.Engine.{engine_sound}
use Rattle.protocol.proofs.engine_is_sound.Goals as goal

pub returns : goal.returns
returns g c = engine_sound g.R.Ring.shape g.R.Ring.points g.met.R.Ring.pointed g.M.Methods.method
