use Rattle.std.proofs.Common.{◌+◌}
use Rattle.curve.specs.Curve.{K}
use Rattle.curve.proofs.Loops.{Factor}
use Rattle.curve.proofs.factor.Given as goal

abbrev pub invariant-loop-j : goal.invariant-loop-j
invariant-loop-j g l =
    let G = g.R.Ring in
    Factor (K G) (λ k. G.points.at (k + 1)) (λ k m. G.points.inv (k + 1) (m + 1)) (G.element l.x) l.i l.j (G.element l.product)
