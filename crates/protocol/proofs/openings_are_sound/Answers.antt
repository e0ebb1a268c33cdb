use Rattle.protocol.proofs.Shares.{openings_sound}
use Rattle.protocol.proofs.openings_are_sound.Goals as goal

pub returns : goal.returns
returns g c = openings_sound
