use Rattle.std.proofs.Common.{◌-◌, get_or, sym, ap, ◌∙◌, arith}
use Rattle.encoding.specs.Layouts.{half, positions}
use Rattle.encoding.specs.Search.{run_in, run_out, back_in, back_out}
use Rattle.encoding.proofs.layout.Layout.position.Goals as goal

pub returns-in-Left : goal.returns-in-Left
returns-in-Left c =
    run_in (half c.args.degree) c.args.lane c.args.degree (omega (arith, c.half_of-end.ensures, c.if-lane-end.true))
    ∙ sym (ap (λ s. get_or (positions s c.args.degree) c.args.lane c.args.degree) c.in-Left.is)

pub returns-in-Right : goal.returns-in-Right
returns-in-Right c =
    ap (λ n. n - 1 - c.args.lane) c.half_of-end.ensures
    ∙ back_in (half c.args.degree) c.args.lane c.args.degree (omega (arith, c.half_of-end.ensures, c.if-lane-end-2.true))
    ∙ sym (ap (λ s. get_or (positions s c.args.degree) c.args.lane c.args.degree) c.in-Right.is)

pub returns-in_default-2 : goal.returns-in_default-2
returns-in_default-2 c =
    run_out (half c.args.degree) c.args.lane c.args.degree (omega (arith, c.half_of-end.ensures, c.if-lane-end.false))
    ∙ sym (ap (λ s. get_or (positions s c.args.degree) c.args.lane c.args.degree) c.in-Left.is)

pub returns-in_default-3 : goal.returns-in_default-3
returns-in_default-3 c =
    back_out (half c.args.degree) c.args.lane c.args.degree (omega (arith, c.half_of-end.ensures, c.if-lane-end-2.false))
    ∙ sym (ap (λ s. get_or (positions s c.args.degree) c.args.lane c.args.degree) c.in-Right.is)
