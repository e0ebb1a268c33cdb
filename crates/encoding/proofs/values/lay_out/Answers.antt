use Rattle.std.proofs.Common.{◌≡◌, ℕ, ◌<◌, min, length, get_or, ap, ◌∙◌, inl, inr, arith}
use Rattle.std.proofs.lemmas.Bool.{cases_lt}
use Rattle.std.proofs.lemmas.List.{length-take, get_or-take}
use Rattle.algebra.specs.Quotient.{modulo, zeros}
use Rattle.ring.specs.Model.{degree}
use Rattle.encoding.specs.Layouts.{positions}
use Rattle.encoding.specs.Laying.{laid_start, laid_more, laid_all}
use Rattle.encoding.specs.Sound.{placed, position_low}
use Rattle.encoding.proofs.values.lay_out.Goals as goal

pub loop-l-init : goal.loop-l-init
loop-l-init g c = laid_start g.R.Ring.shape (positions c.args.layout (degree g.R.Ring.shape)) c.args.lanes.now _ c.zero-sum.ensures

pub loop-l-preserved : goal.loop-l-preserved
loop-l-preserved g c =
    let s = g.R.Ring.shape in
    let l : ℕ = c.loop-l.l in
    let lanes = c.args.lanes.now in
    let ps = positions c.args.layout (degree s) in
    let whole : c.DEGREE.result ≡ degree s = c.DEGREE.ensures ∙ g.met.R.Ring.counts.degree in
    let whole-in : c.DEGREE-in-loop-l.result ≡ degree s = c.DEGREE-in-loop-l.ensures ∙ g.met.R.Ring.counts.degree in
    let many : c.lane_count.result ≡ length ps = c.lane_count.ensures ∙ ap (λ d. length (positions c.args.layout d)) whole in
    let inside : l < min c.min-count.result (length lanes) = omega (arith, c.loop-l-test.true, length-take c.min-count.result lanes) in
    laid_more s ps lanes (placed c.args.layout (degree s) s.some).apart (position_low c.args.layout (degree s) s.some)
    _ _ _ l _ c.position.result
    (omega (arith, c.min-count.ensures)) (omega arith) c.loop-l.invariant
    (get_or-take c.min-count.result lanes l 0 (omega arith))
    (c.position.ensures ∙ ap (λ d. get_or (positions c.args.layout d) l d) whole-in)
    c.embed.ensures c.add-sum.ensures

pub returns : goal.returns
returns g c =
    let s = g.R.Ring.shape in
    let l : ℕ = c.loop-l.l in
    let lanes = c.args.lanes.now in
    let ps = positions c.args.layout (degree s) in
    let many : c.lane_count.result ≡ length ps = c.lane_count.ensures ∙ ap (λ d. length (positions c.args.layout d)) (c.DEGREE.ensures ∙ g.met.R.Ring.counts.degree) in
    c.loop-l.invariant
    ∙ laid_all s.q (zeros (modulo s.q) s.h) ps lanes l (elim (cases_lt l (length ps)) [
      | inl less ↦ inr (omega (arith, c.loop-l-test.false, length-take c.min-count.result lanes, c.min-count.ensures))
      | inr past ↦ inl past
    ])
