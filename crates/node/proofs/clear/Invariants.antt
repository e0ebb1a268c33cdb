use Rattle.std.proofs.Common.{map}
use Rattle.curve.specs.Curve.{K}
use Rattle.curve.proofs.Loops.{Filled}
use Rattle.node.proofs.clear.Given as goal

abbrev pub invariant-loop-entry : goal.invariant-loop-entry
invariant-loop-entry g l = Filled (map g.R.Ring.element l.entry-items) (λ k. (K g.R.Ring).𝟎) (K g.R.Ring).𝟎 l.entry-index
