-- Plain evaluation: the lanes of every gate, from the constants and the inputs' values, with nothing shared.
use Rattle.std.specs.Prelude.{◌≡◌, ℕ, ◌+◌, ◌%◌, ◌<◌, List, [], map, length, slice_index, slice_set}
use Rattle.algebra.specs.Quotient.{Shape, modulo, add, negate, scale, zeros}
use Rattle.ring.specs.Model.{degree}
use Rattle.encoding.specs.Encodings.{Enc}
use Rattle.encoding.specs.Layouts.{positions, read_at}
use Rattle.encoding.specs.declared.layout.Layout.{Layout}
use Rattle.circuit.specs.Gates.{layout_at}
use Rattle.circuit.specs.Kinds.{Gate, In, Add, Sub, Scale, Offset, Place, Mul, Out, gate_at}
use Rattle.rules.specs.Rules.{gate_by_gate}

-- what evaluation is fed besides the list: the ring's shape, the methods, the constants, and each input's coordinates
pub record Feed : Type 0 where
  pub shape : Shape
  pub method : ℕ → Enc
  pub constant : ℕ → ℕ
  pub input : ℕ → List ℕ

-- The lanes of a gate in this layout, from the lanes v of the others, all modulo q: an input's lanes; sums, differences,
-- multiples and shifts lane by lane; one lane, and 0 in the others; the method's subcircuit; the lanes of the gate put out.
abbrev pub lanes_of : Feed → Layout → (ℕ → List ℕ) → Gate → List ℕ
lanes_of F layout v (In l i) = read_at (positions layout (degree F.shape)) (F.input i)
lanes_of F layout v (Add a b) = add (modulo F.shape.q) (v a) (v b)
lanes_of F layout v (Sub a b) = add (modulo F.shape.q) (v a) (negate (modulo F.shape.q) (v b))
lanes_of F layout v (Scale a c) = scale (modulo F.shape.q) (F.constant c) (v a)
lanes_of F layout v (Offset a c) = map (λ x. (x + F.constant c) % F.shape.q) (v a)
lanes_of F layout v (Place l a k) = slice_set (zeros (modulo F.shape.q) (positions layout (degree F.shape))) k (slice_index (v a) 0)
lanes_of F layout v (Mul m a b) = (F.method m).sub F.shape.q (v a) (v b)
lanes_of F layout v (Out a) = v a

-- the lanes of the first g gates, gate by gate
module _ (F : Feed) (codes : List ℕ) (layouts : List Layout) where
  abbrev pub plain_before : ℕ → ℕ → List ℕ
  plain_before = gate_by_gate [] (λ g v. lanes_of F (layout_at layouts g) v (gate_at codes g))

  abbrev pub plain : ℕ → List ℕ
  plain a = plain_before (length codes) a

  -- v gives every gate the lanes that its rule makes of the others'
  abbrev pub Evaluates : (ℕ → List ℕ) → Type 0
  Evaluates v = (g : ℕ) → g < length codes → v g ≡ lanes_of F (layout_at layouts g) v (gate_at codes g)
