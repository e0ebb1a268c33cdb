use Rattle.std.proofs.Common.{◌∷◌, map}
use Rattle.curve.specs.Curve.{K, share}
use Rattle.curve.proofs.Loops.{Filled}
use Rattle.curve.proofs.deal.Given as goal

abbrev pub invariant-loop-i : goal.invariant-loop-i
invariant-loop-i g l =
    let G = g.R.Ring in
    Filled (map G.element l.shares) (share G (map G.element (l.secret ∷ l.others))) (K G).𝟎 l.i
