use Rattle.protocol.proofs.Runs.{openings_complete}
use Rattle.protocol.proofs.openings_are_complete.Goals as goal

pub returns : goal.returns
returns g c = openings_complete
