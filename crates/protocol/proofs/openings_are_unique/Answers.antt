use Rattle.protocol.proofs.Shares.{openings_once}
use Rattle.protocol.proofs.openings_are_unique.Goals as goal

pub returns : goal.returns
returns g c = openings_once
