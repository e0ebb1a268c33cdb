-- The claim.
use Rattle.std.proofs.Common.{◌≡◌, ℕ, ◌+◌, ◌<◌, ◌≤◌, not, ◌&&◌, eqb, leb, List, length, None, sym, ap, ◌∙◌, subst, ap₂, inl, inr, arith}
use Rattle.std.proofs.lemmas.Bool.{cases_eq, eq-eqb, ne_eqb, le-leb, lt-leb}
use Rattle.ring.specs.Model.{PointLaws}
use Rattle.ring.specs.declared.Ring.{Ghosts}
use Rattle.curve.specs.Curve.{El}
use Rattle.curve.specs.declared.refusal.Refusal.TheVariants.{Own}
use Rattle.encoding.specs.Encodings.{Enc, Sound}
use Rattle.circuit.specs.Openings.{openings_of}
use Rattle.rules.specs.Rules.{Parts}
use Rattle.protocol.specs.Shares.{count}
use Rattle.protocol.proofs.Gates.{openings_numbered}
use Rattle.claim.specs.Bench.{Setup, State, Call, Answer, Refused, opening_count}
use Rattle.claim.specs.Steps.{Run, Starts}
use Rattle.claim.specs.Claim.{Premises, takes, told, AllOrNone, ResultRight, Claim, ClaimHolds}
use Rattle.claim.proofs.Rows.{inner_inside}
use Rattle.claim.proofs.Invariant.{start_holds, sound_at}
use Rattle.claim.proofs.Calls.{Inv, start_inv}
use Rattle.claim.proofs.Refusals.{refusals_hold}
use Rattle.claim.proofs.Told.{then_told, from_start, run_rounds, run_inv, run_each}
use Rattle.claim.proofs.Owned.{never_own}
use Rattle.claim.proofs.Even.{step_even}
use Rattle.claim.proofs.Results.{step_result}
use Rattle.claim.proofs.Once.{told_once}

module _ {R C : Type 0} (G : Ghosts R C) (U : Setup R) where
  module _ (laws : PointLaws G.shape G.points) (V : Parts (El G)) (sound : (m : ℕ) → m < 3 → Sound (U.method m)) (premises : Premises G U V) where
    done_is : (count rounds : ℕ) → rounds ≤ count → leb count rounds ≡ eqb rounds count
    done_is count rounds low = elim (cases_eq rounds count) [
      | inl same ↦ le-leb count rounds (omega arith) ∙ sym (eq-eqb rounds count same)
      | inr other ↦
          let less : rounds < count = omega arith in
          lt-leb count rounds less ∙ sym (ne_eqb rounds count other)
    ]

    pub claimed : (s t : State R) (calls : List (Call R)) (answers : List (Answer R)) → Starts G U s → Run G U s calls answers t → Claim G U V calls answers t
    claimed s t calls answers starts run =
        let first = start_inv G U V s starts (start_holds G U s starts) in
        let inv : Inv G U V t (told calls answers) =
        subst (Inv G U V t) (ap (λ r. then_told (λ k i q. None) r calls answers) starts.rounds ∙ from_start calls answers) (run_inv G U laws V sound premises s t calls answers (λ k i q. None) first run) in
        let h = inv.holds in
        record {
          opened = λ i k is less.
              let old = h.heard i k is less in
              let listed : k < opening_count U = omega (arith, h.most i is, h.within) in
              record {
                listed = listed;
                row = h.rows i k;
                long = old.long;
                inside = old.inside;
                outside = old.outside;
                opens = old.opens;
                right = (sound_at G U laws V premises t (told calls answers) h).numbers i k (inner_inside U i is) listed less;
              };
          results = run_each G U laws V sound premises (ResultRight G U V) (λ x y H i c a step. step_result G U laws V sound premises x y H i.holds c a step) s t calls answers (λ k i q. None) first run;
          live = λ all.
              let going = inv.live all in
              record {
                going = λ i is. (h.going going i is).fault;
                halted = going;
                done =
                    ap (λ b. not b && leb (length (openings_of U.codes)) t.rounds) going
                    ∙ done_is (length (openings_of U.codes)) t.rounds h.within
                    ∙ ap₂ eqb (run_rounds G U s t calls answers run ∙ ap (λ r. takes answers + r) starts.rounds ∙ omega arith) (openings_numbered U.codes).all;
              };
          alike = λ common. let level = inv.alike common in record {
            takes = run_each G U laws V sound premises (λ c a. AllOrNone (count U.inside U.seats) a) (λ x y H i c a step. step_even G U laws V sound premises x y H i common c a step) s t calls answers (λ k i q. None) first run;
            faults = level.faults;
            counts = level.counts;
          };
          once = told_once G U laws V sound premises s t calls answers (λ k i q. None) first run;
          refusals = λ x y c a step. refusals_hold G U x y c a step;
          owned = run_each G U laws V sound premises (λ c a. a ≡ Refused Own → ⊥) (λ x y H i c a step refused. never_own G U x H i.holds c ((refusals_hold G U x y c a step).only Own refused)) s t calls answers (λ k i q. None) first run;
        }

pub claim_holds : {R C : Type 0} (G : Ghosts R C) → PointLaws G.shape G.points → (method : ℕ → Enc) → ((m : ℕ) → m < 3 → Sound (method m)) → ClaimHolds G method
claim_holds G laws method sound U is V premises s t calls answers starts run =
    claimed G U laws V (λ m low. subst (λ f. Sound (f m)) (sym is) (sound m low)) premises s t calls answers starts run
