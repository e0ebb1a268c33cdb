-- Outside words by the rounds of their calls, and what holds in every state of a run.
use Rattle.std.proofs.Common.{◌≡◌, ℕ, zero, suc, ◌+◌, ◌-◌, ◌<◌, Bool, true, false, cond, eqb, leb, List, [], ◌∷◌, Some, None, Option, sym, refl, ap, ◌∙◌, subst, ap₂, inl, inr, arith}
use Rattle.std.proofs.lemmas.Bool.{cases_order, eq-eqb, ne_eqb, le-leb, lt-leb}
use Rattle.ring.specs.Model.{PointLaws}
use Rattle.ring.specs.declared.Ring.{Ghosts}
use Rattle.curve.specs.Curve.{El}
use Rattle.curve.specs.declared.refusal.Refusal.{Refusal}
use Rattle.encoding.specs.Encodings.{Sound}
use Rattle.rules.specs.Rules.{Parts}
use Rattle.claim.specs.Bench.{Setup, State, Call, Post, TellAll, TellOne, Look, Take, ResultOf, FaultOf, Answer, Did, Saw, LanesAre, FaultIs, Refused}
use Rattle.claim.specs.Steps.{refusal, Accepted, Outcome, Step, Run, none, more}
use Rattle.claim.specs.Claim.{Premises, took, takes, placed_by, first_of, told, Each}
use Rattle.claim.proofs.Calls.{first_none, extend, Inv, step_inv}

module _ {R : Type 0} where
  first_grouped : (a b c : Option R) → first_of (first_of a b) c ≡ first_of a (first_of b c)
  first_grouped None b c = refl
  first_grouped (Some w) b c = refl

  -- what was told, one call later
  abbrev next_told : Bool → Option R → (ℕ → Option R) → ℕ → Option R
  next_told b p f zero = first_of p (cond b None (f 0))
  next_told b p f (suc k) = cond b (f k) (f (suc k))

  told_next : (c : Call R) (a : Answer R) (calls : List (Call R)) (answers : List (Answer R)) (k i q : ℕ)
      → told (c ∷ calls) (a ∷ answers) k i q ≡ next_told (took a) (placed_by c a i q) (λ j. told calls answers j i q) k
  told_next c a calls answers zero i q = refl
  told_next c a calls answers (suc k) i q = refl

  -- the words by round, after the words H of the rounds up to r come those of more calls
  abbrev pub then_told : (ℕ → ℕ → ℕ → Option R) → ℕ → List (Call R) → List (Answer R) → ℕ → ℕ → ℕ → Option R
  then_told H r calls answers k i q = first_of (H k i q) (cond (leb r k) (told calls answers (k - r) i q) None)

  shift : (b : Bool) (h p : Option R) (f : ℕ → Option R) (r k : ℕ)
      → first_of (first_of h (cond (eqb k r) p None)) (cond (leb (cond b 1 0 + r) k) (f (k - (cond b 1 0 + r))) None) ≡ first_of h (cond (leb r k) (next_told b p f (k - r)) None)
  shift b h p f r k = elim (cases_order k r) [
    | inl same ↦
        let gone : k - r ≡ 0 = omega arith in
        ap (λ c. first_of (first_of h (cond c p None)) (cond (leb (cond b 1 0 + r) k) (f (k - (cond b 1 0 + r))) None)) (eq-eqb k r same)
        ∙ first_grouped h p (cond (leb (cond b 1 0 + r) k) (f (k - (cond b 1 0 + r))) None)
        ∙ ap (λ o. first_of h (first_of p o)) (here b same)
        ∙ sym (ap₂ (λ c j. first_of h (cond c (next_told b p f j) None)) (le-leb r k (omega arith)) gone)
    | inr apart ↦ elim apart [
      | inl less ↦
          let other : k ≡ r → ⊥ = λ e. omega arith in
          ap₂ (λ c d. first_of (first_of h (cond c p None)) (cond d (f (k - (cond b 1 0 + r))) None)) (ne_eqb k r other) (lt-leb (cond b 1 0 + r) k (omega arith))
          ∙ first_none (first_of h None)
          ∙ sym (ap (λ c. first_of h (cond c (next_told b p f (k - r)) None)) (lt-leb r k less))
      | inr past ↦
          let other : k ≡ r → ⊥ = λ e. omega arith in
          let up : k - r ≡ suc (k - suc r) = omega arith in
          ap (λ c. first_of (first_of h (cond c p None)) (cond (leb (cond b 1 0 + r) k) (f (k - (cond b 1 0 + r))) None)) (ne_eqb k r other)
          ∙ ap₂ first_of (first_none h) (beyond b past)
          ∙ sym (ap₂ (λ c j. first_of h (cond c (next_told b p f j) None)) (le-leb r k (omega arith)) up)
    ]
  ]
    where
      here : (b : Bool) → k ≡ r → cond (leb (cond b 1 0 + r) k) (f (k - (cond b 1 0 + r))) None ≡ cond b None (f 0)
      here true same = ap (λ c. cond c (f (k - (1 + r))) None) (lt-leb (1 + r) k (omega arith))
      here false same = let gone : k - (0 + r) ≡ 0 = omega arith in ap₂ (λ c j. cond c (f j) None) (le-leb (0 + r) k (omega arith)) gone

      beyond : (b : Bool) → r < k → cond (leb (cond b 1 0 + r) k) (f (k - (cond b 1 0 + r))) None ≡ cond b (f (k - suc r)) (f (suc (k - suc r)))
      beyond true past = let same : k - (1 + r) ≡ k - suc r = omega arith in ap₂ (λ c j. cond c (f j) None) (le-leb (1 + r) k (omega arith)) same
      beyond false past = let same : k - (0 + r) ≡ suc (k - suc r) = omega arith in ap₂ (λ c j. cond c (f j) None) (le-leb (0 + r) k (omega arith)) same

  then_more : (H : ℕ → ℕ → ℕ → Option R) (r : ℕ) (c : Call R) (a : Answer R) (calls : List (Call R)) (answers : List (Answer R))
      → then_told (extend H r c a) (cond (took a) 1 0 + r) calls answers ≡ then_told H r (c ∷ calls) (a ∷ answers)
  then_more H r c a calls answers = λ j k i q.
      (shift (took a) (H k i q) (placed_by c a i q) (λ n. told calls answers n i q) r k
      ∙ ap (λ o. first_of (H k i q) (cond (leb r k) o None)) (sym (told_next c a calls answers (k - r) i q))) j

  then_none_told : (H : ℕ → ℕ → ℕ → Option R) (r : ℕ) → H ≡ then_told H r [] []
  then_none_told H r = λ j k i q. sym (ap (first_of (H k i q)) (both (leb r k)) ∙ first_none (H k i q)) j
    where
      both : (b : Bool) → ◌≡◌ {A = Option R} (cond b None None) None
      both true = refl
      both false = refl

  pub from_start : (calls : List (Call R)) (answers : List (Answer R)) → then_told (λ k i q. None) 0 calls answers ≡ told calls answers
  from_start calls answers = λ j k i q. (let same : k - 0 ≡ k = omega arith in ap₂ (λ b n. cond b (told calls answers n i q) None) (le-leb 0 k (omega arith)) same) j

module _ {R C : Type 0} (G : Ghosts R C) (U : Setup R) where
  -- an accepted take counts, and nothing else does
  pub step_rounds : (s t : State R) (c : Call R) (a : Answer R) → Step G U s c a t → t.rounds ≡ cond (took a) 1 0 + s.rounds
  step_rounds s t c a step = by_outcome (refusal G U s c) step.by
    where
      still : (b : Answer R) → took b ≡ false → a ≡ b → t.rounds ≡ s.rounds → t.rounds ≡ cond (took a) 1 0 + s.rounds
      still b no-take is same = let e : took a ≡ false = ap took is ∙ no-take in same ∙ sym (ap (λ x. cond x 1 0 + s.rounds) e ∙ omega arith)

      by_call : (c : Call R) → Accepted G U s c a t → t.rounds ≡ cond (took a) 1 0 + s.rounds
      by_call Post by = still Did refl by.0 (ap (λ (x : State R). x.rounds) by.1.state)
      by_call (TellAll q w) by = still Did refl by.0 (ap (λ (x : State R). x.rounds) by.1)
      by_call (TellOne q r w) by = still Did refl by.0 (ap (λ (x : State R). x.rounds) by.1)
      by_call (Look r q) by = still (Saw _) refl by.0 (ap (λ (x : State R). x.rounds) by.1)
      by_call (Take row) by = let e : took a ≡ true = ap took by.2 in let up = by.3.rounds in omega (arith, ap (λ x. cond x 1 0 + s.rounds) e)
      by_call (ResultOf i o l) by = still (LanesAre _) refl by.0 (ap (λ (x : State R). x.rounds) by.1)
      by_call (FaultOf i) by = still (FaultIs _) refl by.0 (ap (λ (x : State R). x.rounds) by.1)

      by_outcome : (r : Option Refusal) → Outcome G U s c a t r → t.rounds ≡ cond (took a) 1 0 + s.rounds
      by_outcome None by = by_call c by
      by_outcome (Some e) by = still (Refused e) refl by.0 (ap (λ (x : State R). x.rounds) by.1)

  pub run_rounds : (s t : State R) (calls : List (Call R)) (answers : List (Answer R)) → Run G U s calls answers t → t.rounds ≡ takes answers + s.rounds
  run_rounds s t [] [] none = omega arith
  run_rounds s t [] (a ∷ answers) run = elim run [ ]
  run_rounds s t (c ∷ calls) [] run = elim run [ ]
  run_rounds s t (c ∷ calls) (a ∷ answers) (more {t = u} step run) = omega (arith, run_rounds u t calls answers run, step_rounds s u c a step)

  module _ (laws : PointLaws G.shape G.points) (V : Parts (El G)) (sound : (m : ℕ) → m < 3 → Sound (U.method m)) (premises : Premises G U V) where
    pub run_inv : (s t : State R) (calls : List (Call R)) (answers : List (Answer R)) (H : ℕ → ℕ → ℕ → Option R) → Inv G U V s H → Run G U s calls answers t
        → Inv G U V t (then_told H s.rounds calls answers)
    run_inv s t [] [] H inv none = subst (Inv G U V s) (then_none_told H s.rounds) inv
    run_inv s t [] (a ∷ answers) H inv run = elim run [ ]
    run_inv s t (c ∷ calls) [] H inv run = elim run [ ]
    run_inv s t (c ∷ calls) (a ∷ answers) H inv (more {t = u} step run) =
        subst (Inv G U V t)
        (ap (λ r. then_told (extend H s.rounds c a) r calls answers) (step_rounds s u c a step) ∙ then_more H s.rounds c a calls answers)
        (run_inv u t calls answers (extend H s.rounds c a) (step_inv G U laws V sound premises s u H inv a c step) run)

    -- what holds of each step of a run
    pub run_each : (P : Call R → Answer R → Type 0) → ((s t : State R) (H : ℕ → ℕ → ℕ → Option R) → Inv G U V s H → (c : Call R) (a : Answer R) → Step G U s c a t → P c a)
        → (s t : State R) (calls : List (Call R)) (answers : List (Answer R)) (H : ℕ → ℕ → ℕ → Option R) → Inv G U V s H → Run G U s calls answers t → Each P calls answers
    run_each P each s t [] [] H inv none = tt
    run_each P each s t [] (a ∷ answers) H inv run = elim run [ ]
    run_each P each s t (c ∷ calls) [] H inv run = elim run [ ]
    run_each P each s t (c ∷ calls) (a ∷ answers) H inv (more {t = u} step run) =
        (each s u H inv c a step, run_each P each u t calls answers (extend H s.rounds c a) (step_inv G U laws V sound premises s u H inv a c step) run)
