use Rattle.std.proofs.Common.{refl}
use Rattle.algebra.proofs.Quotient.{same_element}
use Rattle.ring.specs.Model.{ring}
use Rattle.ring.specs.W4.{w4}
use Rattle.ring.proofs.w4.ArrayU644Ring.zero.Goals as goal

pub returns : goal.returns
unfolding ring
returns c = same_element w4 _ _ refl
