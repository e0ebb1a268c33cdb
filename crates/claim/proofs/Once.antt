-- No square of an inside receiver is given two outside words in a round.
use Rattle.std.proofs.Common.{◌≡◌, ℕ, ◌+◌, ◌<◌, Bool, true, false, cond, ◌&&◌, eqb, List, [], ◌∷◌, Some, None, Option, sym, refl, ap, ◌∙◌, ap₂, inl, inr, arith}
use Rattle.std.proofs.lemmas.Bool.{both_ways, eqb-true, cond-true, cond-false, and_parts, cases_Bool, eq-eqb}
use Rattle.ring.specs.Model.{PointLaws}
use Rattle.ring.specs.declared.Ring.{Ghosts}
use Rattle.curve.specs.Curve.{El}
use Rattle.curve.specs.declared.refusal.Refusal.{Refusal}
use Rattle.encoding.specs.Encodings.{Sound}
use Rattle.rules.specs.Rules.{Parts}
use Rattle.exchange.specs.Sheet.{seat}
use Rattle.claim.specs.Bench.{Setup, State, Call, Post, TellAll, TellOne, Look, Take, ResultOf, FaultOf, Answer, Did, Saw, Took, LanesAre, FaultIs, Refused, inner, outer}
use Rattle.claim.specs.Steps.{ended, refusal, Outcome, Step, Run, none, more}
use Rattle.claim.specs.Claim.{Premises, did, ToldOnce, took, placed_by, first_of, told}
use Rattle.claim.proofs.Rows.{not_sent, square_empty, inner_seat}
use Rattle.claim.proofs.Invariant.{Holds}
use Rattle.claim.proofs.Calls.{all_passed, one_passed, or_none, extend, Inv, step_inv}
use Rattle.claim.proofs.Told.{step_rounds}

-- an accepted word is no take
placed_still : {R : Type 0} (a : Answer R) → did a ≡ true → took a ≡ false
placed_still Did e = refl
placed_still (Saw o) e = refl
placed_still (Took c row) e = let z : ⊥ = both_ways false refl e in absurd z
placed_still (LanesAre l) e = refl
placed_still (FaultIs f) e = refl
placed_still (Refused x) e = refl

-- a word that is there was put there
put : {R : Type 0} (b : Bool) (v w : R) → cond b (Some v) None ≡ Some w → b ≡ true
put true v w e = refl
put false v w e = cc

module _ {R C : Type 0} (G : Ghosts R C) (U : Setup R) where
  -- what a call that places a word finds
  record Found (s : State R) (a : Answer R) (i q : ℕ) : Type 0 where
    did : did a ≡ true
    outside : outer U q ≡ true
    empty : s.page.at i q ≡ None

  -- what was done was not refused
  accepted_none : (s t : State R) (c : Call R) (a : Answer R) → Step G U s c a t → did a ≡ true → refusal G U s c ≡ None
  accepted_none s t c a step done = by_outcome (refusal G U s c) step.by
    where
      by_outcome : (r : Option Refusal) → Outcome G U s c a t r → r ≡ None
      by_outcome None by = refl
      by_outcome (Some e) by = let z : ⊥ = both_ways (did a) (ap did by.0) done in absurd z

  found : (s t : State R) (H : ℕ → ℕ → ℕ → Option R) → Holds G U s H → (c : Call R) (a : Answer R) → Step G U s c a t → (i q : ℕ) (w : R) → inner U i ≡ true → placed_by c a i q ≡ Some w → Found s a i q
  found s t H h Post a step i q w is e = let z : ◌≡◌ {A = ℕ} 0 1 = cc in let f : ⊥ = omega arith in absurd f
  found s t H h (TellAll p v) a step i q w is e =
      let b = and_parts (did a) (eqb p q) (put (did a && eqb p q) v w e) in
      let here = eqb-true p q b.1 in
      let passed = all_passed U s.page p (or_none (ended G U s) _ (accepted_none s t (TellAll p v) a step b.0)).1 in
      record {
        did = b.0;
        outside = ap (outer U) (sym here) ∙ passed.0;
        empty = ap (s.page.at i) (sym here) ∙ not_sent s.page p passed.1 i (ap (λ n. seat n i) h.seats ∙ inner_seat U i is);
      }
  found s t H h (TellOne p r v) a step i q w is e =
      let b = and_parts (did a && eqb p q) (eqb r i) (put (did a && eqb p q && eqb r i) v w e) in
      let c = and_parts (did a) (eqb p q) b.0 in
      let here = eqb-true p q c.1 in
      let there = eqb-true r i b.1 in
      let passed = one_passed U s.page p r (or_none (ended G U s) _ (accepted_none s t (TellOne p r v) a step c.0)).1 in
      record {
        did = c.0;
        outside = ap (outer U) (sym here) ∙ passed.0;
        empty = ap₂ s.page.at (sym there) (sym here) ∙ square_empty (s.page.at r p) passed.2;
      }
  found s t H h (Look r p) a step i q w is e = let z : ◌≡◌ {A = ℕ} 0 1 = cc in let f : ⊥ = omega arith in absurd f
  found s t H h (Take row) a step i q w is e = let z : ◌≡◌ {A = ℕ} 0 1 = cc in let f : ⊥ = omega arith in absurd f
  found s t H h (ResultOf j o l) a step i q w is e = let z : ◌≡◌ {A = ℕ} 0 1 = cc in let f : ⊥ = omega arith in absurd f
  found s t H h (FaultOf j) a step i q w is e = let z : ◌≡◌ {A = ℕ} 0 1 = cc in let f : ⊥ = omega arith in absurd f

  -- the square of an inside receiver and an outside sender after a call that is no take
  after : (V : Parts (El G)) (s u : State R) (H : ℕ → ℕ → ℕ → Option R) (c : Call R) (a : Answer R) → Inv G U V s H → Inv G U V u (extend H s.rounds c a) → Step G U s c a u → took a ≡ false
      → (i q : ℕ) → inner U i ≡ true → outer U q ≡ true → u.page.at i q ≡ first_of (s.page.at i q) (placed_by c a i q)
  after V s u H c a inv next step still i q is oq =
      let same : u.rounds ≡ s.rounds = step_rounds G U s u c a step ∙ ap (λ b. cond b 1 0 + s.rounds) still ∙ omega arith in
      next.holds.now i q is oq
      ∙ ap (λ k. extend H s.rounds c a k i q) same
      ∙ ap (λ b. first_of (H s.rounds i q) (cond b (placed_by c a i q) None)) (eq-eqb s.rounds s.rounds refl)
      ∙ ap (λ o. first_of o (placed_by c a i q)) (sym (inv.holds.now i q is oq))

  -- nothing is put into a square that is filled
  nothing_put : (s t : State R) (H : ℕ → ℕ → ℕ → Option R) → Holds G U s H → (c : Call R) (a : Answer R) → Step G U s c a t → (i q : ℕ) (v : R) → inner U i ≡ true → s.page.at i q ≡ Some v
      → (o : Option R) → placed_by c a i q ≡ o → o ≡ None
  nothing_put s t H h c a step i q v is held None e = refl
  nothing_put s t H h c a step i q v is held (Some w) e = let empty = (found s t H h c a step i q w is e).empty in cc

  module _ (laws : PointLaws G.shape G.points) (V : Parts (El G)) (sound : (m : ℕ) → m < 3 → Sound (U.method m)) (premises : Premises G U V) where
    filled : (s t : State R) (calls : List (Call R)) (answers : List (Answer R)) (H : ℕ → ℕ → ℕ → Option R) → Inv G U V s H → Run G U s calls answers t
        → (i q : ℕ) (v : R) → inner U i ≡ true → outer U q ≡ true → s.page.at i q ≡ Some v → told calls answers 0 i q ≡ None
    filled s t [] [] H inv none i q v is oq held = refl
    filled s t [] (a ∷ answers) H inv run i q v is oq held = elim run [ ]
    filled s t (c ∷ calls) [] H inv run i q v is oq held = elim run [ ]
    filled s t (c ∷ calls) (a ∷ answers) H inv (more {t = u} step run) i q v is oq held =
        let next = step_inv G U laws V sound premises s u H inv a c step in
        ap (λ o. first_of o (cond (took a) None (told calls answers 0 i q))) (nothing_put s u H inv.holds c a step i q v is held (placed_by c a i q) refl)
        ∙ elim (cases_Bool (took a)) [
          | inl taken ↦ cond-true (took a) None (told calls answers 0 i q) taken
          | inr still ↦
              cond-false (took a) None (told calls answers 0 i q) still
              ∙ filled u t calls answers (extend H s.rounds c a) next run i q v is oq
              (after V s u H c a inv next step still i q is oq ∙ ap (λ o. first_of o (placed_by c a i q)) held)
        ]

    pub told_once : (s t : State R) (calls : List (Call R)) (answers : List (Answer R)) (H : ℕ → ℕ → ℕ → Option R) → Inv G U V s H → Run G U s calls answers t → ToldOnce U calls answers
    told_once s t [] [] H inv none = tt
    told_once s t [] (a ∷ answers) H inv run = elim run [ ]
    told_once s t (c ∷ calls) [] H inv run = elim run [ ]
    told_once s t (c ∷ calls) (a ∷ answers) H inv (more {t = u} step run) =
        let next = step_inv G U laws V sound premises s u H inv a c step in (
          λ i q w is e.
              let f = found s u H inv.holds c a step i q w is e in
              filled u t calls answers (extend H s.rounds c a) next run i q w is f.outside
              (after V s u H c a inv next step (placed_still a f.did) i q is f.outside ∙ ap₂ first_of f.empty e),
          told_once u t calls answers (extend H s.rounds c a) next run,
        )
