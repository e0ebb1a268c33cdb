use Rattle.std.proofs.Common.{length, sym, ap, ◌∙◌, inl, inr}
use Rattle.std.proofs.lemmas.List.FromFn.{length-range_with_len}
use Rattle.encoding.specs.Layouts.{half, positions}
use Rattle.encoding.specs.Search.{length_back}
use Rattle.encoding.proofs.layout.Layout.lane_count.Goals as goal

pub returns-in-Left : goal.returns-in-Left
returns-in-Left c =
    c.half_of-end.ensures
    ∙ elim c.in-Left.is [
      | inl left ↦ sym (ap (λ s. length (positions s c.args.degree)) left ∙ length-range_with_len 0 (half c.args.degree))
      | inr right ↦ sym (ap (λ s. length (positions s c.args.degree)) right ∙ length_back (half c.args.degree))
    ]
