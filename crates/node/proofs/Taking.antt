-- What taking a row does to a node.
use Rattle.std.proofs.Common.{◌≡◌, ◌-◌, ℕ, Bool, true, false, cond, List, length, Ok, Err, Option, Result, sym, refl, subst, inl}
use Rattle.std.proofs.lemmas.Bool.{eq-eqb}
use Rattle.curve.specs.Curve.{word as word_at}
use Rattle.curve.specs.declared.refusal.Refusal.{Refusal}
use Rattle.curve.specs.declared.refusal.Refusal.TheVariants.{Length}
use Rattle.ring.specs.declared.Ring.{Ghosts}
use Rattle.encoding.specs.Encodings.{Enc}
use Rattle.circuit.specs.declared.openings.Opening.{Opening}
use Rattle.node.specs.Nodes.{State, lengths, fitting, node_opening, keeping, own_word, TakesRow, TakesAt, Takes}
use Rattle.node.specs.Seats.{Keeps, opening_or_refused, TakesBy}
use Rattle.node.specs.Tables.{Tables}
use Rattle.node.specs.declared.fault.Fault.{Fault}

-- a node that is at an opening has a seat that is at it
seat_opening : (b : Bool) (q : Result Opening Refusal) (o : Opening) → ◌≡◌ {A = Result Opening Refusal} (Ok o) (cond b q (Err Length)) → q ≡ Ok o
seat_opening true q o e = sym e
seat_opening false q o e = cc

-- a node whose word is in the row is as the row makes its seat
pub took : {R C : Type 0} (G : Ghosts R C) (method : ℕ → Enc) (l : Tables R) (row : List R) (x : State R) (W : List R) (r : Result (Option Fault) Refusal) (k : Keeps R) (W' : List R) (o : Opening)
    → Ok o ≡ node_opening x l W
    → length row ≡ x.seats
    → word_at G row (x.number - 1) ≡ own_word G method x l W o
    → TakesBy G method x.plan x.threshold l row x.keeps W r k W' (opening_or_refused x.plan.codes x.keeps)
    → Takes G method l row x W r (keeping x k) W'
took G method l row x W r k W' o at long own by =
    subst (TakesAt G method l row x W r (keeping x k) W') at
    (subst (TakesRow G method l row x W r (keeping x k) W' o) (sym (eq-eqb _ _ long))
    (inl (
      own,
      subst (TakesBy G method x.plan x.threshold l row x.keeps W r k W')
          (seat_opening (fitting x.plan (lengths l W)) (opening_or_refused x.plan.codes x.keeps) o at)
          by,
      refl,
    )))
