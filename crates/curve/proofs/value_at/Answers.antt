use Rattle.std.proofs.Common.{ap, ◌∙◌, rules}
use Rattle.curve.specs.Curve.{K}
use Rattle.curve.proofs.Loops.{horner_none, horner_more, horner_all}
use Rattle.curve.proofs.value_at.Goals as goal

pub loop-other-init : goal.loop-other-init
loop-other-init g c = horner_none _ (search rules) c.zero-sum.ensures

pub loop-other-preserved : goal.loop-other-preserved
loop-other-preserved g c = horner_more c.loop-other.invariant c.in-Some.other.now (search rules) _ _ c.mul.ensures c.add-sum.ensures

pub returns : goal.returns
returns g c =
    let G = g.R.Ring in
    c.add.ensures ∙ ap ((K G).◌⊕◌ (G.element c.args.secret)) (c.mul-2.ensures ∙ ap ((K G).◌⊗◌ (G.element c.args.x)) (horner_all c.loop-other.invariant (search rules)))
