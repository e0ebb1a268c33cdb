-- On a common exchange all inside seats accept, or none does.
use Rattle.std.proofs.Common.{◌≡◌, ℕ, zero, suc, ◌<◌, Bool, true, false, cond, ◌&&◌, ◌⊎◌, Some, None, Option, sym, refl, ap, ◌∙◌, subst, ap₂, inl, inr, arith}
use Rattle.std.proofs.lemmas.Bool.{and_parts, and_left, and_right, cases_Bool}
use Rattle.ring.specs.Model.{PointLaws}
use Rattle.ring.specs.declared.Ring.{Ghosts}
use Rattle.curve.specs.Curve.{El}
use Rattle.curve.specs.declared.refusal.Refusal.{Refusal}
use Rattle.encoding.specs.Encodings.{Sound}
use Rattle.rules.specs.Rules.{Parts}
use Rattle.protocol.specs.Shares.{count}
use Rattle.exchange.specs.Sheet.{seat, some, total}
use Rattle.claim.specs.Bench.{Setup, State, Call, Post, TellAll, TellOne, Look, Take, ResultOf, FaultOf, Answer}
use Rattle.claim.specs.Steps.{accepts, refusal, Accepted, Outcome, Step}
use Rattle.claim.specs.Claim.{Premises, AllOrNone}
use Rattle.claim.proofs.Rows.{seat_from, seat_low, seat_high, none_some, some_where}
use Rattle.claim.proofs.Calls.{Inv, accepts_same, agreed, take_passed}

-- where nobody accepts, none is counted; where all do, all are
count_none : (n : ℕ) (inside f : ℕ → Bool) → ((i : ℕ) → seat n i ≡ true → inside i ≡ true → f i ≡ false) → total n (λ i. cond (inside i && f i) 1 0) ≡ 0
count_none zero inside f same = refl
count_none (suc n) inside f same =
    let rest = count_none n inside f (λ i seated. same i (seat_from (suc n) i (seat_low n i seated) (omega (arith, seat_high n i seated)))) in
    let out : (inside (suc n) && f (suc n)) ≡ false = elim (cases_Bool (inside (suc n))) [
      | inl is ↦ and_right (inside (suc n)) (f (suc n)) (same (suc n) (seat_from (suc n) (suc n) (omega arith) (omega arith)) is)
      | inr not_in ↦ and_left (inside (suc n)) (f (suc n)) not_in
    ] in
    let top : ◌≡◌ {A = ℕ} (cond (inside (suc n) && f (suc n)) 1 0) 0 = ap (λ b. cond b 1 0) out in
    omega arith

count_all : (n : ℕ) (inside f : ℕ → Bool) → ((i : ℕ) → seat n i ≡ true → inside i ≡ true → f i ≡ true) → total n (λ i. cond (inside i && f i) 1 0) ≡ count inside n
count_all zero inside f same = refl
count_all (suc n) inside f same =
    let rest = count_all n inside f (λ i seated. same i (seat_from (suc n) i (seat_low n i seated) (omega (arith, seat_high n i seated)))) in
    let out : (inside (suc n) && f (suc n)) ≡ inside (suc n) = elim (cases_Bool (inside (suc n))) [
      | inl is ↦ ap₂ ◌&&◌ is (same (suc n) (seat_from (suc n) (suc n) (omega arith) (omega arith)) is) ∙ sym is
      | inr not_in ↦ and_left (inside (suc n)) (f (suc n)) not_in ∙ sym not_in
    ] in
    let top : ◌≡◌ {A = ℕ} (cond (inside (suc n) && f (suc n)) 1 0) (cond (inside (suc n)) 1 0) = ap (λ b. cond b 1 0) out in
    omega arith

-- of inside seats that all accept or all do not, all are counted or none
all_or_none : (n : ℕ) (inside f : ℕ → Bool) → ((i j : ℕ) → seat n i ≡ true → seat n j ≡ true → inside i ≡ true → inside j ≡ true → f i ≡ f j)
    → (total n (λ i. cond (inside i && f i) 1 0) ≡ count inside n) ⊎ (total n (λ i. cond (inside i && f i) 1 0) ≡ 0)
all_or_none n inside f same = elim (cases_Bool (some n (λ i. inside i && f i))) [
  | inl one ↦
      let w = some_where n (λ i. inside i && f i) one in
      let p = and_parts (inside w.0) (f w.0) w.2 in
      inl (count_all n inside f (λ i seated is. same i w.0 seated w.1 is p.0 ∙ p.1))
  | inr nobody ↦
      inr (count_none n inside f (λ i seated is. sym (ap (λ b. b && f i) is) ∙ none_some n (λ i. inside i && f i) nobody i seated))
]

module _ {R C : Type 0} (G : Ghosts R C) (U : Setup R) where
  module _ (laws : PointLaws G.shape G.points) (V : Parts (El G)) (sound : (m : ℕ) → m < 3 → Sound (U.method m)) (premises : Premises G U V) where
    -- on a common exchange all inside seats accept, or none does
    pub step_even : (s t : State R) (H : ℕ → ℕ → ℕ → Option R) → Inv G U V s H → U.common ≡ true → (c : Call R) (a : Answer R) → Step G U s c a t → AllOrNone (count U.inside U.seats) a
    step_even s t H inv common c a step = by_outcome (refusal G U s c) refl step.by
      where
        by_call : (c : Call R) → refusal G U s c ≡ None → Accepted G U s c a t → AllOrNone (count U.inside U.seats) a
        by_call Post passed by = subst (AllOrNone (count U.inside U.seats)) (sym by.0) tt
        by_call (TellAll q w) passed by = subst (AllOrNone (count U.inside U.seats)) (sym by.0) tt
        by_call (TellOne q r w) passed by = subst (AllOrNone (count U.inside U.seats)) (sym by.0) tt
        by_call (Look r q) passed by = subst (AllOrNone (count U.inside U.seats)) (sym by.0) tt
        by_call (Take row) passed by =
            let ready = take_passed G U s row passed in
            let turn = by.3 in
            let even = all_or_none U.seats U.inside (λ i. accepts (turn.came i))
            (λ i j si sj ii ij.
            accepts_same G U laws V sound premises s t H inv row by.0 by.1 turn ready.going ready.left ready.full (turn.came i) (turn.came j)
            (agreed G U laws V sound premises s t H inv row by.0 by.1 turn ready.going ready.left ready.full common i j (ap₂ ◌&&◌ si ii) (ap₂ ◌&&◌ sj ij))) in
            subst (AllOrNone (count U.inside U.seats)) (sym by.2) (elim even [ inl all ↦ inl (turn.counted ∙ all) | inr nobody ↦ inr (turn.counted ∙ nobody) ])
        by_call (ResultOf i o l) passed by = subst (AllOrNone (count U.inside U.seats)) (sym by.0) tt
        by_call (FaultOf i) passed by = subst (AllOrNone (count U.inside U.seats)) (sym by.0) tt

        by_outcome : (r : Option Refusal) → refusal G U s c ≡ r → Outcome G U s c a t r → AllOrNone (count U.inside U.seats) a
        by_outcome None passed by = by_call c passed by
        by_outcome (Some e) passed by = subst (AllOrNone (count U.inside U.seats)) (sym by.0) tt
