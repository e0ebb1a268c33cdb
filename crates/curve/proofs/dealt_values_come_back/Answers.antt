use Rattle.curve.proofs.Theory.{comes_back}
use Rattle.curve.proofs.dealt_values_come_back.Goals as goal

pub returns : goal.returns
returns g c = comes_back g.R.Ring g.met.R.Ring.pointed
