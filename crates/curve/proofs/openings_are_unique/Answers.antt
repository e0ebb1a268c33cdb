use Rattle.curve.proofs.Theory.{opens_once}
use Rattle.curve.proofs.openings_are_unique.Goals as goal

pub returns : goal.returns
returns g c = opens_once g.R.Ring g.met.R.Ring.pointed
