use Rattle.ring.proofs.Laws.{ring_laws}
use Rattle.ring.proofs.ring_laws.Goals as goal

pub returns : goal.returns
returns g c = ring_laws g.R.Ring.shape g.R.Ring.points g.met.R.Ring.pointed
