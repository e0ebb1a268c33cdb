use Rattle.std.proofs.Common.{ap, ◌∙◌, ap₂}
use Rattle.algebra.specs.Ring.{sub}
use Rattle.ring.proofs.Laws.{one_is}
use Rattle.curve.specs.Curve.{K}
use Rattle.curve.proofs.Loops.{factor_none, factor_skip, factor_more, factor_all}
use Rattle.curve.proofs.factor.Goals as goal
use Rattle.curve.proofs.factor.Goals.{then-j-i, else-j-i}

pub loop-j-init : goal.loop-j-init
loop-j-init g c = factor_none c.args.i _ (one_is g.R.Ring.shape _ c.embed-product.ensures)

pub loop-j-preserved : goal.loop-j-preserved
loop-j-preserved g c =
    let G = g.R.Ring in
    elim c.if-j-i.branch [
      | then-j-i w ↦
          factor_more c.loop-j.invariant w.if-j-i.true _ _
          (w.mul.ensures ∙ ap₂ (K G).◌⊗◌ (w.sub.ensures ∙ ap (sub (K G) (G.element c.args.x)) w.point.ensures) w.inverse.ensures)
          (ap G.element w.product-is ∙ w.mul-product.ensures)
      | else-j-i w ↦ factor_skip c.loop-j.invariant w.if-j-i.false _ (ap G.element w.product-is)
    ]

pub returns : goal.returns
returns g c = factor_all c.args.m c.loop-j.invariant c.loop-j.auto.j-end c.loop-j-test.false
