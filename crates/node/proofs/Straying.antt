-- Coordinates off a layout.
use Rattle.std.proofs.Common.{◌≡◌, ℕ, ◌%◌, ◌≤◌, length, get_or, Some, None, Option, sym, ap, ◌∙◌, inl, inr, mod-eq_of_lt, arith}
use lib.ListN.{length-map, get_or-eq_default}
use Rattle.std.proofs.lemmas.Bool.{cases_lt}
use Rattle.algebra.specs.Quotient.{Shape, Element}
use Rattle.ring.specs.Model.{degree}
use Rattle.encoding.specs.Layouts.{positions, read_at}
use Rattle.encoding.specs.declared.layout.Layout.{Layout}
use Rattle.encoding.specs.Laying.{read_place}
use Rattle.encoding.specs.Positions.{sought}
use Rattle.encoding.specs.Sound.{here, off}
use Rattle.rules.specs.Clear.{seen}
use Rattle.rules.proofs.Lanes.{low_element}
use Rattle.node.specs.Openings.{OffLayout, Strays, Differ}

module _ (s : Shape) (layout : Layout) (x : Element s) where
  -- at its positions the value is as it is seen
  kept : (t : ℕ) → (OffLayout (degree s) layout t → ⊥) → get_or (seen s layout x).0 t 0 ≡ get_or x.0 t 0
  kept t on = elim (sought (positions layout (degree s)) t) [
    | inl found ↦
        let ps = positions layout (degree s) in
        let reads = read_at ps x.0 in
        ap (λ j. get_or (seen s layout x).0 j 0) (sym found.2)
        ∙ here s layout reads (length-map ps (λ p. get_or x.0 p 0)) found.0 found.1
        ∙ ap (λ v. v % s.q) (read_place ps x.0 found.0 found.1)
        ∙ mod-eq_of_lt (low_element s x (get_or ps found.0 0))
        ∙ ap (λ j. get_or x.0 j 0) found.2
    | inr nowhere ↦ absurd (on nowhere)
  ]

  zero_off : (t : ℕ) → OffLayout (degree s) layout t → get_or (seen s layout x).0 t 0 ≡ 0
  zero_off t nowhere = off s layout (read_at (positions layout (degree s)) x.0) t nowhere

  -- a value strays where it differs from what is seen of it
  pub strays : (r : Option ℕ) → Differ (degree s) x.0 (seen s layout x).0 r → Strays (degree s) layout x.0 r
  strays None same = λ t nowhere. elim (cases_lt t (degree s)) [
    | inl inside ↦ same t inside ∙ zero_off t nowhere
    | inr past ↦ let far : length x.0 ≤ t = omega (arith, x.1.0) in get_or-eq_default x.0 0 far
  ]
  strays (Some c) differ =
      let nowhere : OffLayout (degree s) layout c = elim (sought (positions layout (degree s)) c) [
        | inl found ↦ (λ l h e. differ.0 (sym (kept c (λ none. none found.0 found.1 found.2))))
        | inr none ↦ none
      ] in
      record { off = nowhere; some = λ blank. differ.0 (blank ∙ sym (zero_off c nowhere)); lowest = λ t h off. differ.1 t h ∙ zero_off t off }
