use Rattle.protocol.proofs.Runs.{runs_sound}
use Rattle.protocol.proofs.runs_are_sound.Goals as goal

pub returns : goal.returns
returns g c = runs_sound
