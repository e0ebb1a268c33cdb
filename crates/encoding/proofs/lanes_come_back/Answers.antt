use Rattle.encoding.specs.Sound.{lanes_come_back}
use Rattle.encoding.proofs.lanes_come_back.Goals as goal

pub returns : goal.returns
returns c = lanes_come_back
