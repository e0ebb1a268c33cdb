use Rattle.protocol.proofs.Exist.{true_words_exist}
use Rattle.protocol.proofs.true_words_exist.Goals as goal

pub returns : goal.returns
returns g c = true_words_exist
