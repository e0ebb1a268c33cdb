use Rattle.algebra.proofs.Quotient.{same_element}
use Rattle.rules.specs.Elements.{number_at}
use Rattle.rules.proofs.gates.number.Goals as goal

pub returns : goal.returns
returns g c = same_element g.R.Ring.shape _ (number_at g.R.Ring.shape c.args.value c.args.place) c.embed.ensures
