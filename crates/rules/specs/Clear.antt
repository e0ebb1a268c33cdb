-- The value of every gate, computed on elements with nothing shared: the rules with empty pairs, where an opening answers its
-- word, and each input is seen through the layout of its gate.
use Rattle.std.specs.Prelude.{ℕ, List, length}
use Rattle.algebra.specs.Quotient.{Shape, Element}
use Rattle.ring.specs.Model.{ring, degree}
use Rattle.encoding.specs.Encodings.{Enc}
use Rattle.encoding.specs.Layouts.{positions, read_at}
use Rattle.encoding.specs.declared.layout.Layout.{Layout}
use Rattle.circuit.specs.Gates.{layout_at}
use Rattle.circuit.specs.Kinds.{Gate, gate_at}
use Rattle.rules.specs.Elements.{value, known, parts}
use Rattle.rules.specs.Rules.{Parts, gate_by_gate, word, after}

-- an element's coordinates at the positions of a layout, and zero elsewhere
abbrev pub seen : (s : Shape) → Layout → Element s → Element s
seen s layout x = value s layout (read_at (positions layout (degree s)) x.0)

module _ (s : Shape) (method : ℕ → Enc) (constants : List ℕ) (input : ℕ → Element s) where
  abbrev pub seen_parts : Layout → Parts (Element s)
  seen_parts layout = parts (λ i. seen s layout (input i)) (ring s).𝟎 (ring s).𝟎

  -- the value of a gate in this layout, from the values e of the others
  abbrev pub clear_gate : Layout → (ℕ → Element s) → Gate → Element s
  clear_gate layout e gate = after (ring s) (known s method constants) (seen_parts layout) 0 e layout (word (ring s) (seen_parts layout) 0 e gate) gate

  module _ (codes : List ℕ) (layouts : List Layout) where
    -- the values of the first g gates, and zero past them
    abbrev pub clear_before : ℕ → ℕ → Element s
    clear_before = gate_by_gate (ring s).𝟎 (λ g e. clear_gate (layout_at layouts g) e (gate_at codes g))

    abbrev pub clear : ℕ → Element s
    clear a = clear_before (length codes) a
