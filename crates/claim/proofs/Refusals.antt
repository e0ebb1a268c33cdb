-- Refusals come exactly where the tests say, and change nothing.
use Rattle.std.proofs.Common.{◌≡◌, ℕ, Some, None, Option, refl, arith}
use Rattle.ring.specs.declared.Ring.{Ghosts}
use Rattle.curve.specs.declared.refusal.Refusal.{Refusal}
use Rattle.claim.specs.Bench.{Setup, State, Call, Post, TellAll, TellOne, Look, Take, ResultOf, FaultOf, Answer, Refused}
use Rattle.claim.specs.Steps.{Accepted, Outcome, refusal}
use Rattle.claim.specs.Claim.{RefusalsExact, RefusalsHold}

module _ {R C : Type 0} (G : Ghosts R C) (U : Setup R) where
  -- what is accepted is not refused
  pub not_refused : (s t : State R) (c : Call R) (a : Answer R) (e : Refusal) → Accepted G U s c a t → a ≡ Refused e → ⊥
  not_refused s t Post a e by is = let h = by.0 in let z : ◌≡◌ {A = ℕ} 0 1 = cc in omega arith
  not_refused s t (TellAll q w) a e by is = let h = by.0 in let z : ◌≡◌ {A = ℕ} 0 1 = cc in omega arith
  not_refused s t (TellOne q r w) a e by is = let h = by.0 in let z : ◌≡◌ {A = ℕ} 0 1 = cc in omega arith
  not_refused s t (Look r q) a e by is = let h = by.0 in let z : ◌≡◌ {A = ℕ} 0 1 = cc in omega arith
  not_refused s t (Take row) a e by is = let h = by.2 in let z : ◌≡◌ {A = ℕ} 0 1 = cc in omega arith
  not_refused s t (ResultOf i o l) a e by is = let h = by.0 in let z : ◌≡◌ {A = ℕ} 0 1 = cc in omega arith
  not_refused s t (FaultOf i) a e by is = let h = by.0 in let z : ◌≡◌ {A = ℕ} 0 1 = cc in omega arith

  exact : (s t : State R) (c : Call R) (a : Answer R) (r : Option Refusal) → refusal G U s c ≡ r → Outcome G U s c a t r → RefusalsExact G U s c a t
  exact s t c a None is by = record {
    only = λ e refused. absurd (not_refused s t c a e by refused);
    always = λ e refused. cc;
    same = λ e refused. absurd (not_refused s t c a e by refused);
  }
  exact s t c a (Some x) is by = record {
    only = λ e refused. let h = by.0 in cc;
    always = λ e refused. let h = by.0 in cc;
    same = λ e refused. by.1;
  }

pub refusals_hold : {R C : Type 0} (G : Ghosts R C) → RefusalsHold G
refusals_hold G U s t c a step = exact G U s t c a (refusal G U s c) refl step.by
