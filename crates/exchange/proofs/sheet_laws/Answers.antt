use Rattle.exchange.proofs.Laws.{sheet_laws}
use Rattle.exchange.proofs.sheet_laws.Goals as goal

pub returns : goal.returns
returns g c = sheet_laws _
