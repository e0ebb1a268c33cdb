-- What holds of every gate of a list that is taken, whichever way it was checked.
use Rattle.std.specs.Prelude.{◌≡◌, ℕ, ◌<◌, List, length, Ok, slice_index}
use Rattle.encoding.specs.Layouts.{positions}
use Rattle.encoding.specs.declared.layout.Layout.{Layout}
use Rattle.encoding.specs.declared.layout.Layout.TheVariants.{Plain}
use Rattle.circuit.specs.Codes.{kind_of}
use Rattle.circuit.specs.Gates.{Setting, layout_at}
use Rattle.circuit.specs.Kinds.{Gate, In, Add, Sub, Scale, Offset, Place, Mul, Out, gate_at}
use Rattle.circuit.specs.Lists.{list_checked}

module _ (S : Setting) (codes : List ℕ) (layouts : List Layout) where
  -- gate a comes before gate g, is no output, and has this layout
  pub record Operand (g a : ℕ) (layout : Layout) : Type 0 where
    pub earlier : a < g
    pub no_output : kind_of (slice_index codes a) ≡ 7 → ⊥
    pub laid_so : layout_at layouts a ≡ layout

  -- what gate g asks of its fields, l being its own layout
  abbrev pub Fits : ℕ → Layout → Gate → Type 0
  Fits g l (In m i) = (i < S.inputs) × (m ≡ l)
  Fits g l (Add a b) = Operand g a l × Operand g b l
  Fits g l (Sub a b) = Operand g a l × Operand g b l
  Fits g l (Scale a c) = Operand g a l × (c < S.constants)
  Fits g l (Offset a c) = Operand g a l × (c < S.constants)
  Fits g l (Place m a k) = Operand g a Plain × (k < length (positions m S.degree)) × (m ≡ l)
  Fits g l (Mul m a b) = (m < 3) × Operand g a (S.method m).left × Operand g b (S.method m).right × ((S.method m).out ≡ l)
  Fits g l (Out a) = Operand g a l

-- every gate of a list that is taken has a layout and fits
abbrev pub TakenListsFit : Type 0
TakenListsFit =
    (S : Setting) (codes : List ℕ) (layouts : List Layout) → list_checked S codes ≡ Ok layouts
    → (length layouts ≡ length codes) × ((g : ℕ) → g < length codes → Fits S codes layouts g (layout_at layouts g) (gate_at codes g))
