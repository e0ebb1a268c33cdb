use Rattle.protocol.proofs.Exist.{runs_complete}
use Rattle.protocol.proofs.runs_are_complete.Goals as goal

pub returns : goal.returns
returns g c = runs_complete
