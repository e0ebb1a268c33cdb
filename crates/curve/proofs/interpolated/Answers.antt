use Rattle.std.proofs.Common.{◌<◌, sym, ap, ◌∙◌, arith, get_or-take, length-take}
use Rattle.curve.specs.Curve.{K}
use Rattle.curve.proofs.Loops.{read_map, partial_none, partial_more, partial_all}
use Rattle.curve.proofs.interpolated.Goals as goal

pub loop-i-init : goal.loop-i-init
loop-i-init g c = partial_none _ c.zero-sum.ensures

pub loop-i-preserved : goal.loop-i-preserved
loop-i-preserved g c =
    let G = g.R.Ring in let row = c.args.row.now in let i = c.loop-i.i in let r = c.word-item.result in
    let below : i < c.args.m = omega (arith, length-take c.args.m row) in
    partial_more c.loop-i.invariant _ _ _ c.factor.ensures
    (c.mul.ensures ∙ ap (λ z. (K G).◌⊗◌ z (G.element c.factor.result)) (sym (read_map G.element row i r (K G).𝟎 (omega arith) (c.word-item.is ∙ get_or-take c.args.m row i r below))))
    c.add-sum.ensures

pub returns : goal.returns
returns g c = partial_all c.loop-i.invariant (omega (arith, length-take c.args.m c.args.row.now)) (omega (arith, length-take c.args.m c.args.row.now))
