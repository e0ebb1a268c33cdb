-- What an opening comes to: a value, or a fault.
use Rattle.std.specs.Prelude.{◌≡◌, ℕ, ◌<◌, List, length, Some, None, Ok, Err, Option, Result, ◌≢◌, slice_index, slice_index_or}
use Rattle.curve.specs.Curve.{El, Opens, Off}
use Rattle.curve.specs.declared.refusal.Refusal.{Refusal}
use Rattle.ring.specs.Model.{degree}
use Rattle.ring.specs.declared.Ring.{Ghosts}
use Rattle.encoding.specs.Layouts.{positions}
use Rattle.encoding.specs.declared.layout.Layout.{Layout}
use Rattle.circuit.specs.Gates.{layout_at}
use Rattle.circuit.specs.Openings.{degree_of, gate_opened}
use Rattle.circuit.specs.declared.openings.Opening.{Opening}
use Rattle.circuit.specs.declared.openings.Opening.TheVariants.{Product, Output}
use Rattle.node.specs.declared.fault.Fault.{Fault}
use Rattle.node.specs.declared.fault.Fault.TheVariants.{Row, Lanes}

-- coordinate t is no position of the layout
abbrev pub OffLayout : ℕ → Layout → ℕ → Type 0
OffLayout d layout t = (l : ℕ) → l < length (positions layout d) → slice_index (positions layout d) l ≢ t

-- a value is zero off its layout
abbrev pub InLayout : ℕ → Layout → List ℕ → Type 0
InLayout d layout x = (t : ℕ) → OffLayout d layout t → slice_index x t ≡ 0

-- c is the lowest coordinate off the layout that is not zero
pub record Stray (d : ℕ) (layout : Layout) (x : List ℕ) (c : ℕ) : Type 0 where
  pub off : OffLayout d layout c
  pub some : slice_index_or x c 0 ≡ 0 → ⊥
  pub lowest : (t : ℕ) → t < c → OffLayout d layout t → slice_index x t ≡ 0

-- the coordinate that strays, if one does
abbrev pub Strays : ℕ → Layout → List ℕ → Option ℕ → Type 0
Strays d layout x None = InLayout d layout x
Strays d layout x (Some c) = Stray d layout x c

-- the lowest of the first d coordinates at which two values differ, if they do
abbrev pub Differ : ℕ → List ℕ → List ℕ → Option ℕ → Type 0
Differ d x y None = (t : ℕ) → t < d → slice_index x t ≡ slice_index y t
Differ d x y (Some c) = (slice_index x c ≢ slice_index y c) × ((t : ℕ) → t < c → slice_index x t ≡ slice_index y t)

-- an opened value is itself what comes of it, but for an output's that strays
abbrev pub ValueComesTo : {R C : Type 0} (G : Ghosts R C) → List Layout → Opening → R → Result R Fault → Type 0
ValueComesTo G layouts (Product g j) v (Ok w) = w ≡ v
ValueComesTo G layouts (Product g j) v (Err f) = ⊥
ValueComesTo G layouts (Output g o) v (Ok w) = (w ≡ v) × InLayout (degree G.shape) (layout_at layouts g) (G.element v).0
ValueComesTo G layouts (Output g o) v (Err (Row h s)) = ⊥
ValueComesTo G layouts (Output g o) v (Err (Lanes h c)) = (h ≡ g) × Stray (degree G.shape) (layout_at layouts g) (G.element v).0 c

module _ {R C : Type 0} (G : Ghosts R C) (layouts : List Layout) (t : ℕ) (row : List R) where
  -- an opened value is taken: anything at a product, at an output a value that is zero off its layout
  abbrev pub Taken : Opening → El G → Type 0
  Taken (Product g j) z = Unit {0}
  Taken (Output g o) z = InLayout (degree G.shape) (layout_at layouts g) z.0

  -- why a seat stops at an opening: the row does not open, and the place is the lowest seat off the polynomial through the
  -- first words; or an output's value is not zero off its layout, and the place is the lowest coordinate that is not
  abbrev pub Stops : Opening → Fault → Type 0
  Stops o (Row g seat) = (g ≡ gate_opened o) × Off G (degree_of t o) row seat
  Stops (Product g j) (Lanes h c) = ⊥
  Stops (Output g o) (Lanes h c) = (h ≡ g) × ((z : El G) × Opens G t row z × Stray (degree G.shape) (layout_at layouts g) z.0 c)

  -- what comes of a row at an opening that is not refused: the value that it opens to, or the fault
  abbrev pub ComesTo : Opening → Result R Fault → Type 0
  ComesTo o (Ok v) = Opens G (degree_of t o) row (G.element v) × Taken o (G.element v)
  ComesTo o (Err f) = Stops o f

  abbrev pub OpenedAt : Opening → Result (Result R Fault) Refusal → Option Refusal → Type 0
  OpenedAt o (Ok a) None = ComesTo o a
  OpenedAt o (Ok a) (Some e) = ⊥
  OpenedAt o (Err x) None = ⊥
  OpenedAt o (Err x) (Some e) = x ≡ e
