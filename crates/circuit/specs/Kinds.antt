-- A gate by what it does, as its code says.
use Rattle.std.specs.Prelude.{ℕ, zero, suc, List, Some, None, slice_index}
use Rattle.encoding.specs.Numbers.{layout_of}
use Rattle.encoding.specs.declared.layout.Layout.{Layout}
use Rattle.encoding.specs.declared.layout.Layout.TheVariants.{Plain}
use Rattle.circuit.specs.Codes.{Parts, kind_of, detail_of, first_of, second_of}
use Rattle.circuit.specs.declared.kinds.Kind.{Kind}
use Rattle.circuit.specs.declared.kinds.Kind.TheVariants as kind

-- Operands are gate numbers: IN layout input; ADD and SUB gate gate; SCALE and OFFSET gate constant; PLACE layout gate
-- lane; MUL method gate gate; OUT gate.
pub data Gate : Type 0 where
  In : Layout → ℕ → Gate
  Add : ℕ → ℕ → Gate
  Sub : ℕ → ℕ → Gate
  Scale : ℕ → ℕ → Gate
  Offset : ℕ → ℕ → Gate
  Place : Layout → ℕ → ℕ → Gate
  Mul : ℕ → ℕ → ℕ → Gate
  Out : ℕ → Gate

-- the layout of this number, and plain where there is none
abbrev pub named_layout : ℕ → Layout
named_layout n = elim (layout_of n) [ None ↦ Plain | Some l ↦ l ]

-- the kind of this number
abbrev pub kind_by : ℕ → Kind
kind_by zero = kind.In
kind_by (suc zero) = kind.Add
kind_by (suc (suc zero)) = kind.Sub
kind_by (suc (suc (suc zero))) = kind.Scale
kind_by (suc (suc (suc (suc zero)))) = kind.Offset
kind_by (suc (suc (suc (suc (suc zero))))) = kind.Place
kind_by (suc (suc (suc (suc (suc (suc zero)))))) = kind.Mul
kind_by (suc (suc (suc (suc (suc (suc (suc k))))))) = kind.Out

-- by kind, detail, first and second
abbrev pub gate_in : Kind → ℕ → ℕ → ℕ → Gate
gate_in kind.In d a b = In (named_layout d) a
gate_in kind.Add d a b = Add a b
gate_in kind.Sub d a b = Sub a b
gate_in kind.Scale d a b = Scale a b
gate_in kind.Offset d a b = Offset a b
gate_in kind.Place d a b = Place (named_layout d) a b
gate_in kind.Mul d a b = Mul d a b
gate_in kind.Out d a b = Out a

-- the same, by the number of the kind
abbrev pub gate_by : ℕ → ℕ → ℕ → ℕ → Gate
gate_by k d a b = gate_in (kind_by k) d a b

-- the same, by the four parts of a code
abbrev pub gate_from : Parts → Gate
gate_from p = gate_by p.0 p.1 p.2 p.3

abbrev pub gate_of : ℕ → Gate
gate_of code = gate_by (kind_of code) (detail_of code) (first_of code) (second_of code)

-- gate g of a list
abbrev pub gate_at : List ℕ → ℕ → Gate
gate_at codes g = gate_of (slice_index codes g)
