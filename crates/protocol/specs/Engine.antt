-- The tables and tasks of the engine: the ring of a shape with its points, and what the methods and the constants make known.
use Rattle.std.specs.Prelude.{ℕ, ◌+◌, ◌-◌, ◌<◌, ◌≤◌, Bool, List, length}
use Rattle.algebra.specs.Quotient.{Shape, Element}
use Rattle.ring.specs.Model.{ring, Points}
use Rattle.ring.specs.declared.Ring.{Ghosts}
use Rattle.curve.specs.Curve.{El, word, Opens as RowOpens}
use Rattle.encoding.specs.Encodings.{Enc}
use Rattle.encoding.specs.declared.layout.Layout.{Layout}
use Rattle.rules.specs.Rules.{Parts}
use Rattle.rules.specs.Elements.{known}
use Rattle.protocol.specs.Shares.{Table, count, Laws, Opens}
use Rattle.protocol.specs.Runs.{Task, Dealt, Run, SoundRun}

abbrev pub table_of : (s : Shape) → Points s → ℕ → ℕ → (ℕ → Bool) → Table (Element s)
table_of s p n t inside = record { ring = ring s; seats = n; threshold = t; point = p.at; inside = inside }

abbrev pub task_of : (s : Shape) → (ℕ → Enc) → List ℕ → List ℕ → List Layout → Task (Element s)
task_of s method constants codes layouts = record { known = known s method constants; codes = codes; layouts = layouts }

-- a number of seats below that of the points, three times the threshold below that, and at most threshold many outside
pub record Sits (points n t : ℕ) (inside : ℕ → Bool) : Type 0 where
  pub seats : n < points
  pub low : t + t + t < n
  pub few : n ≤ count inside n + t

-- those that sit so have a table
abbrev pub TablesStand : (s : Shape) → Points s → Type 0
TablesStand s p = (n t : ℕ) (inside : ℕ → Bool) → Sits p.count n t inside → Laws (table_of s p n t inside)

-- and their runs are sound, for all constants and every list of gates
abbrev pub EngineSound : (s : Shape) → Points s → (ℕ → Enc) → Type 0
EngineSound s p method =
    (n t : ℕ) (inside : ℕ → Bool) → Sits p.count n t inside → (constants codes : List ℕ) (layouts : List Layout)
    → (P : ℕ → Parts (Element s)) (V : Parts (Element s)) → Dealt (table_of s p n t inside) (task_of s method constants codes layouts) inside P V
    → (rounds : ℕ → ℕ) (z : ℕ → ℕ → Element s) (row : ℕ → ℕ → ℕ → Element s)
    → Run (table_of s p n t inside) (task_of s method constants codes layouts) P rounds z row
    → SoundRun (table_of s p n t inside) (task_of s method constants codes layouts) P V rounds z

-- a row as a list, the word of seat s at place s - 1, opens at such a table to what it opens to
abbrev pub RowsAlike : {R C : Type 0} → Ghosts R C → Type 0
RowsAlike {R} G =
    (t : ℕ) (inside : ℕ → Bool) (d : ℕ) (row : List R) (v : El G)
    → (RowOpens G d row v → Opens (table_of G.shape G.points (length row) t inside) d (λ s. word G row (s - 1)) v)
    × (Opens (table_of G.shape G.points (length row) t inside) d (λ s. word G row (s - 1)) v → RowOpens G d row v)
