-- A refused row changes nothing.
use Rattle.std.proofs.Common.{◌≡◌, ℕ, Bool, true, false, List, length, Some, None, Ok, Err, Option, Result, OnErr, ◌==◌, ap, ◌∙◌, inl, inr, arith}
use Rattle.ring.specs.declared.Ring.{Ghosts}
use Rattle.curve.specs.Curve.{curve_refused}
use Rattle.curve.specs.declared.refusal.Refusal.{Refusal}
use Rattle.encoding.specs.Encodings.{Enc}
use Rattle.circuit.specs.Openings.{degree_of}
use Rattle.circuit.specs.declared.openings.Opening.{Opening}
use Rattle.node.specs.Seats.{TakesAt as SeatTakesAt}
use Rattle.node.specs.Nodes.{State, TakesAt, TakesRow, keeping}
use Rattle.node.specs.Tables.{Tables}

module _ {R C : Type 0} (G : Ghosts R C) (method : ℕ → Enc) (l : Tables R) (row : List R) (x : State R) (W : List R) (e : Refusal) (x' : State R) (W' : List R) where
  -- an accepted row is not refused
  at : (o : Opening) (f : Option Refusal) → SeatTakesAt G method x.plan x.threshold l row o x.keeps W (Err e) x'.keeps W' f → x' ≡ keeping x x'.keeps → (x' ≡ x) × (W' ≡ W)
  at o (Some f) t k = (k ∙ ap (keeping x) t.1, t.2)
  at o None (Ok v, c, t) k = absurd (let h = t.0 in let z : ◌≡◌ {A = ℕ} 0 1 = cc in omega arith)
  at o None (Err v, c, t) k = absurd (let h = t.0 in let z : ◌≡◌ {A = ℕ} 0 1 = cc in omega arith)

  by_row : (o : Opening) (fits : Bool) → TakesRow G method l row x W (Err e) x' W' o fits → (x' ≡ x) × (W' ≡ W)
  by_row o false t = (t.1, t.2)
  by_row o true (inl t) = at o (curve_refused G.points.count (length row) (degree_of x.threshold o)) t.1 t.2
  by_row o true (inr t) = (t.1.1, t.1.2)

  -- a refused row leaves the node and its work table
  pub refused_unchanged : (o : Result Opening Refusal) → TakesAt G method l row x W (Err e) x' W' o → (x' ≡ x) × (W' ≡ W)
  refused_unchanged (Ok o) t = by_row o (length row == x.seats) t
  refused_unchanged (Err f) t = (t.1, t.2)

-- what fails with an error of its own promises whatever holds
pub on_err : {T E P : Type 0} (r : Result T E) → P → OnErr r P
on_err (Ok x) p = tt
on_err (Err e) p = p
