use Rattle.protocol.proofs.Runs.{words_causal}
use Rattle.protocol.proofs.words_are_causal.Goals as goal

pub returns : goal.returns
returns g c = words_causal
