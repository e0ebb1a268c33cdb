use Rattle.curve.specs.Curve.{K}
use Rattle.curve.proofs.Loops.{Horner}
use Rattle.curve.proofs.value_at.Given as goal

abbrev pub invariant-loop-other : goal.invariant-loop-other
invariant-loop-other g l =
    let G = g.R.Ring in
    Horner (K G) G.element l.others l.other-iterator.iter.rest.now (G.element l.x) (G.element l.sum)
