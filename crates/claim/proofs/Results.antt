-- A result that is answered has the lanes of plain evaluation.
use Rattle.std.proofs.Common.{◌≡◌, ℕ, ◌<◌, leb, List, ◌++◌, length, take, drop, Some, None, Option, sym, refl, ap, ◌∙◌, subst}
use Rattle.std.proofs.lemmas.List.{take_at}
use Rattle.std.proofs.lemmas.Bool.{leb-false}
use Rattle.ring.specs.Model.{PointLaws}
use Rattle.ring.specs.declared.Ring.{Ghosts}
use Rattle.curve.specs.Curve.{El}
use Rattle.curve.specs.declared.refusal.Refusal.{Refusal}
use Rattle.curve.specs.declared.refusal.Refusal.TheVariants.{Seat as NoSeat, Output as NoOutput, Unopened}
use Rattle.encoding.specs.Encodings.{Sound}
use Rattle.encoding.specs.Layouts.{read_at}
use Rattle.circuit.specs.Openings.{openings_of}
use Rattle.circuit.specs.declared.openings.Opening.TheVariants.{Output}
use Rattle.rules.specs.Rules.{Parts}
use Rattle.claim.specs.Bench.{Setup, State, Call, Post, TellAll, TellOne, Look, Take, ResultOf, FaultOf, Answer, inner, opened_at}
use Rattle.claim.specs.Steps.{output_positions, place_of, refusal, Outcome, Step}
use Rattle.claim.specs.Claim.{Premises, right_lanes, HoldsLanes, ResultRight}
use Rattle.claim.proofs.Rows.{inner_inside}
use Rattle.claim.proofs.Outputs.{output_there, output_lanes}
use Rattle.claim.proofs.Invariant.{Holds, sound_at}
use Rattle.claim.proofs.Calls.{else_none, then_none}

module _ {R C : Type 0} (G : Ghosts R C) (U : Setup R) where
  module _ (laws : PointLaws G.shape G.points) (V : Parts (El G)) (sound : (m : ℕ) → m < 3 → Sound (U.method m)) (premises : Premises G U V) where
    -- a result that is answered
    result_lanes : (s : State R) (H : ℕ → ℕ → ℕ → Option R) → Holds G U s H → (i o : ℕ) (l : List ℕ) → refusal G U s (ResultOf i o l) ≡ None
        → take (length (right_lanes G U V o)) (read_at (output_positions G U o) (opened_at G U s i (place_of U o)).0 ++ drop (length (output_positions G U o)) l) ≡ right_lanes G U V o
    result_lanes s H h i o l passed =
        let p = place_of U o in
        let seated = else_none (inner U i) _ NoSeat passed in
        let there = then_none (leb (length (openings_of U.codes)) p) NoOutput _ seated.1 in
        let done = then_none (leb (length (s.progress i).opened) p) Unopened _ there.1 in
        let listed = leb-false (length (openings_of U.codes)) p there.0 in
        let less = leb-false (length (s.progress i).opened) p done.0 in
        let reads : read_at (output_positions G U o) (opened_at G U s i p).0 ≡ right_lanes G U V o =
        ap (λ (x : El G). read_at (output_positions G U o) x.0) ((sound_at G U laws V premises s H h).numbers i p (inner_inside U i seated.0) listed less)
        ∙ output_lanes G U V sound premises p listed (output_there (openings_of U.codes) o (Output 0 0) listed) in
        ap (λ x. take (length (right_lanes G U V o)) (x ++ drop (length (output_positions G U o)) l)) reads
        ∙ take_at (right_lanes G U V o) (drop (length (output_positions G U o)) l) (length (right_lanes G U V o)) refl

    pub step_result : (s t : State R) (H : ℕ → ℕ → ℕ → Option R) → Holds G U s H → (c : Call R) (a : Answer R) → Step G U s c a t → ResultRight G U V c a
    step_result s t H h Post a step = tt
    step_result s t H h (TellAll q w) a step = tt
    step_result s t H h (TellOne q r w) a step = tt
    step_result s t H h (Look r q) a step = tt
    step_result s t H h (Take row) a step = tt
    step_result s t H h (ResultOf i o l) a step = by_outcome (refusal G U s (ResultOf i o l)) refl step.by
      where
        by_outcome : (r : Option Refusal) → refusal G U s (ResultOf i o l) ≡ r → Outcome G U s (ResultOf i o l) a t r → HoldsLanes G U V o a
        by_outcome None passed by = subst (HoldsLanes G U V o) (sym by.0) (result_lanes s H h i o l passed)
        by_outcome (Some e) passed by = subst (HoldsLanes G U V o) (sym by.0) tt
    step_result s t H h (FaultOf i) a step = tt
