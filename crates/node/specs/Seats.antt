-- One seat: what it has opened, why it has stopped, and what a row makes of it.
use Rattle.std.specs.Prelude.{◌≡◌, ℕ, zero, suc, cond, List, [], ◌∷◌, ◌++◌, map, length, Some, None, Ok, Err, Option, Result, nat_lt}
use Rattle.curve.specs.Curve.{curve_refused}
use Rattle.curve.specs.declared.refusal.Refusal.{Refusal}
use Rattle.curve.specs.declared.refusal.Refusal.TheVariants.{Halted, Done}
use Rattle.ring.specs.declared.Ring.{Ghosts}
use Rattle.encoding.specs.Encodings.{Enc}
use Rattle.circuit.specs.Circuits.{Plan}
use Rattle.circuit.specs.Openings.{openings_of, degree_of}
use Rattle.circuit.specs.declared.openings.Opening.{Opening}
use Rattle.node.specs.Openings.{ComesTo}
use Rattle.node.specs.Tables.{Tables}
use Rattle.node.specs.Work.{stage, value_kept}
use Rattle.node.specs.declared.fault.Fault.{Fault}

-- what a seat keeps between calls: the values it has opened, with room for so many in all, and its fault if it has stopped
pub record Keeps (R : Type 0) : Type 0 where
  pub opened : List R
  pub room : ℕ
  pub fault : Option Fault

abbrev pub keeps : {R : Type 0} → List R → ℕ → Option Fault → Keeps R
keeps opened room fault = record { opened = opened; room = room; fault = fault }

-- number k of a list, if it has so many
abbrev pub numbered : {A : Type 0} → List A → ℕ → Option A
numbered [] k = None
numbered (x ∷ xs) zero = Some x
numbered (x ∷ xs) (suc k) = numbered xs k

-- the opening that a seat is at, if one is left
abbrev pub present : {R : Type 0} → List ℕ → Keeps R → Option Opening
present codes s = cond (nat_lt (length s.opened) s.room) (numbered (openings_of codes) (length s.opened)) None

-- the opening that a seat is at, or why there is none: it has stopped, or all openings are done
abbrev pub opening_or_refused : {R : Type 0} → List ℕ → Keeps R → Result Opening Refusal
opening_or_refused codes s = elim s.fault [ Some f ↦ Err Halted | None ↦ elim (present codes s) [ None ↦ Err Done | Some o ↦ Ok o ] ]

module _ {R C : Type 0} (G : Ghosts R C) (method : ℕ → Enc) (p : Plan) (t : ℕ) (l : Tables R) (row : List R) where
  -- the seat and its work table after a row came to a value, which is kept with all gates up to the next opening's, or to a fault
  abbrev pub After : Opening → Keeps R → List R → Result R Fault → Result (Option Fault) Refusal → Keeps R → List R → Type 0
  After o s W (Ok v) r s' W' =
      (r ≡ Ok None) × (s' ≡ keeps (s.opened ++ (v ∷ [])) s.room s.fault)
      × (map G.element W' ≡ value_kept G method p l W o (G.element v) (stage p.codes (suc (length s.opened))))
  After o s W (Err f) r s' W' = (r ≡ Ok (Some f)) × (s' ≡ keeps s.opened s.room (Some f)) × (W' ≡ W)

  -- what a row makes of a seat at an opening, unless its length or the degree is refused
  abbrev pub TakesAt : Opening → Keeps R → List R → Result (Option Fault) Refusal → Keeps R → List R → Option Refusal → Type 0
  TakesAt o s W r s' W' None = (a : Result R Fault) × ComesTo G p.layouts t row o a × After o s W a r s' W'
  TakesAt o s W r s' W' (Some e) = (r ≡ Err e) × (s' ≡ s) × (W' ≡ W)

  abbrev pub TakesBy : Keeps R → List R → Result (Option Fault) Refusal → Keeps R → List R → Result Opening Refusal → Type 0
  TakesBy s W r s' W' (Ok o) = TakesAt o s W r s' W' (curve_refused G.points.count (length row) (degree_of t o))
  TakesBy s W r s' W' (Err e) = (r ≡ Err e) × (s' ≡ s) × (W' ≡ W)
