use Rattle.protocol.proofs.Exist.{true_words_once}
use Rattle.protocol.proofs.true_words_are_unique.Goals as goal

pub returns : goal.returns
returns g c = true_words_once
