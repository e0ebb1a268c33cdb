use Rattle.claim.proofs.Refusals.{refusals_hold}
use Rattle.claim.proofs.refusals_are_exact.Goals as goal

pub returns : goal.returns
returns g c = refusals_hold g.R.Ring
