-- What a checked list of gates is.
use Rattle.std.specs.Prelude.{◌≡◌, ℕ, ◌⊎◌, List, Ok, Err, Result}
use Rattle.curve.specs.declared.refusal.Refusal.{Refusal}
use Rattle.curve.specs.declared.refusal.Refusal.TheVariants.{Memory}
use Rattle.encoding.specs.declared.layout.Layout.{Layout}
use Rattle.circuit.specs.Gates.{Setting}
use Rattle.circuit.specs.Lists.{list_checked}
use Rattle.circuit.specs.Openings.{openings_of}
use Rattle.circuit.specs.declared.openings.Opening.{Opening}

-- the gates' codes and layouts, the openings in order, and how many inputs and constants the list is for
pub record Plan : Type 0 where
  pub codes : List ℕ
  pub layouts : List Layout
  pub openings : List Opening
  pub inputs : ℕ
  pub constants : ℕ

abbrev pub plan : List ℕ → List Layout → List Opening → ℕ → ℕ → Plan
plan codes layouts openings inputs constants = record { codes = codes; layouts = layouts; openings = openings; inputs = inputs; constants = constants }

-- the circuit that a list is, or the first refusal
abbrev pub circuit_of : Setting → List ℕ → Result Plan Refusal
circuit_of S codes = elim (list_checked S codes) [ Ok layouts ↦ Ok (plan codes layouts (openings_of codes) S.inputs S.constants) | Err e ↦ Err e ]

-- the refusal of the list, or want of memory for the copy of a list that is taken
abbrev pub Refused : Setting → List ℕ → Refusal → Type 0
Refused S codes e = (circuit_of S codes ≡ Err e) ⊎ ((e ≡ Memory) × ((p : Plan) × (circuit_of S codes ≡ Ok p)))
