use Rattle.std.proofs.Common.{◌+◌}
use Rattle.curve.specs.Curve.{K, word}
use Rattle.curve.proofs.Loops.{Partial}
use Rattle.curve.proofs.interpolated.Given as goal

abbrev pub invariant-loop-i : goal.invariant-loop-i
invariant-loop-i g l =
    let G = g.R.Ring in
    Partial (K G) l.m (λ k. G.points.at (k + 1)) (λ k m. G.points.inv (k + 1) (m + 1)) (word G l.row) (G.element l.x) l.i (G.element l.sum)
