use Rattle.std.proofs.Common.{ap, rules}
use Rattle.std.proofs.lemmas.Bool.Decides.{Decides-eqb}
use Rattle.std.proofs.lemmas.List.{ext_get_or}
use Rattle.std.proofs.lemmas.Slice.Eq.{slice_eq-Decides}
use Rattle.ring.specs.W4.{w4_element}
use Rattle.ring.specs.Words.{same_words}
use Rattle.ring.proofs.w4.ArrayU644Ring.same.Goals as goal

pub returns : goal.returns
returns c =
    let same = slice_eq-Decides Decides-eqb c.args.self c.args.other c.eq.result (search rules) in (
      λ e. ap w4_element (same.0 e),
      λ e. same.1 (ext_get_or 0 c.args.self c.args.other (search rules) (λ i h. same_words c.args.self c.args.other e i (search rules) (search rules) (search rules))),
    )
