-- What making comes to.
use Rattle.std.proofs.Common.{◌≡◌, ℕ, ◌-◌, ◌*◌, Bool, true, false, cond, leb, List, length, replicate, Some, None, Ok, Err, Result, sym, refl, ap, ◌∙◌, ap₂, arith}
use Rattle.std.proofs.lemmas.Bool.{and_parts, eqb-true}
use Rattle.algebra.specs.Ring.{CommRing}
use Rattle.curve.specs.Curve.{seats_wrong}
use Rattle.curve.specs.declared.refusal.Refusal.{Refusal}
use Rattle.curve.specs.declared.refusal.Refusal.TheVariants.{Seats, Threshold, Length, Seat}
use Rattle.encoding.specs.declared.layout.Layout.{Layout}
use Rattle.circuit.specs.Circuits.{Plan, plan, circuit_of}
use Rattle.circuit.specs.Gates.{Setting}
use Rattle.circuit.specs.Lists.{list_checked}
use Rattle.circuit.specs.Openings.{openings_of}
use Rattle.rules.specs.Rules.{Known}
use Rattle.node.specs.Nodes.{Lengths, is_seat, pairs_fit, making_refused}
use Rattle.node.specs.Work.{stage, settled}

no_some : {e : Refusal} → Some e ≡ None → ⊥
no_some h = let z : ◌≡◌ {A = ℕ} 0 1 = cc in omega arith

-- the last test passed
all_passed : (a b c d : Bool) → cond a (Some Seats) (cond b (Some Threshold) (cond c (cond d None (Some Length)) (Some Seat))) ≡ None → d ≡ true
all_passed true b c d h = absurd (no_some h)
all_passed false true c d h = absurd (no_some h)
all_passed false false true true h = refl
all_passed false false true false h = absurd (no_some h)
all_passed false false false d h = absurd (no_some h)

-- a node that is made has one entry for each gate
pub work_fits : (points n t k : ℕ) (codes : List ℕ) (l : Lengths) → making_refused points n t k codes l ≡ None → l.work ≡ length codes
work_fits points n t k codes l h = eqb-true _ _ (and_parts _ _ (all_passed (seats_wrong points n) (leb n (3 * t)) (is_seat n k) (pairs_fit codes l) h)).1

-- a circuit has the codes that were checked
pub planned_codes : (S : Setting) (codes : List ℕ) (p : Plan) → circuit_of S codes ≡ Ok p → p.codes ≡ codes
planned_codes S codes p = go (list_checked S codes)
  where
    go : (r : Result (List Layout) Refusal)
        → ◌≡◌ {A = Result Plan Refusal} (elim r [ Ok layouts ↦ Ok (plan codes layouts (openings_of codes) S.inputs S.constants) | Err e ↦ Err e ]) (Ok p) → p.codes ≡ codes
    go (Ok layouts) h = let same : plan codes layouts (openings_of codes) S.inputs S.constants ≡ p = cc in ap (λ x. x.codes) (sym same)
    go (Err e) h = let z : ◌≡◌ {A = ℕ} 0 1 = cc in let f : ⊥ = omega arith in absurd f

-- the gates before the first opening, over zeros
pub first_worked : {E : Type 0} (R : CommRing E) (C : Known E) (layouts : List Layout) (input : ℕ → E) (codes own : List ℕ) → own ≡ codes → (W W' : List E) (n first : ℕ)
    → W ≡ replicate n R.𝟎 → n ≡ length codes → first ≡ stage own 0 → W' ≡ settled R C own layouts input W 0 (first - 0)
    → W' ≡ settled R C codes layouts input (replicate (length codes) R.𝟎) 0 (stage codes 0)
first_worked R C layouts input codes own same W W' n first zeros fits from worked =
    worked
    ∙ ap₂ (λ X m. settled R C own layouts input X 0 m) (zeros ∙ ap (λ k. replicate k R.𝟎) fits) (let whole : first - 0 ≡ first = omega arith in whole ∙ from)
    ∙ ap (λ cs. settled R C cs layouts input (replicate (length codes) R.𝟎) 0 (stage cs 0)) same
