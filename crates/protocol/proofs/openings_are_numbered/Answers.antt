use Rattle.protocol.proofs.Gates.{openings_numbered}
use Rattle.protocol.proofs.openings_are_numbered.Goals as goal

pub returns : goal.returns
returns c = openings_numbered
