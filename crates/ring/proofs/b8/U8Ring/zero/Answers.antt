use Rattle.std.proofs.Common.{refl}
use Rattle.algebra.proofs.Quotient.{same_element}
use Rattle.ring.specs.Model.{ring}
use Rattle.ring.specs.B8.{b8}
use Rattle.ring.proofs.b8.U8Ring.zero.Goals as goal

pub returns : goal.returns
unfolding ring
returns c = same_element b8 _ _ refl
