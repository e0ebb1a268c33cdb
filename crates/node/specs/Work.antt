-- A seat's work table, one entry for each gate, as it is worked out gate by gate.
use Rattle.std.specs.Prelude.{ℕ, zero, suc, ◌-◌, List, map, length, get_or, slice_index_or, slice_set}
use Rattle.algebra.specs.Ring.{CommRing}
use Rattle.curve.specs.Curve.{El, K, word as word_at}
use Rattle.ring.specs.declared.Ring.{Ghosts}
use Rattle.encoding.specs.Encodings.{Enc}
use Rattle.encoding.specs.declared.layout.Layout.{Layout}
use Rattle.circuit.specs.Circuits.{Plan}
use Rattle.circuit.specs.Gates.{layout_at}
use Rattle.circuit.specs.Kinds.{gate_at}
use Rattle.circuit.specs.Openings.{openings_of, gate_opened}
use Rattle.circuit.specs.declared.openings.Opening.{Opening}
use Rattle.circuit.specs.declared.openings.Opening.TheVariants.{Product, Output}
use Rattle.rules.specs.Elements.{known, parts}
use Rattle.rules.specs.Rules.{Known, word, after}
use Rattle.node.specs.Tables.{Tables}

-- the gate of opening number k, or the number of gates where there is none
abbrev pub stage : List ℕ → ℕ → ℕ
stage codes k = slice_index_or (map gate_opened (openings_of codes)) k (length codes)

-- the part of its pair that an opening has to do with, from the parts of all pairs; an output has none
abbrev pub part_of : {E : Type 0} → E → List E → Opening → E
part_of none all (Product g j) = slice_index_or all j none
part_of none all (Output g o) = none

module _ {E : Type 0} (R : CommRing E) (C : Known E) (codes : List ℕ) (layouts : List Layout) (input : ℕ → E) where
  -- the table's entry, zero past its end
  abbrev pub entries : List E → ℕ → E
  entries W a = slice_index_or W a R.𝟎

  -- gate g worked out, where z was opened and the pair's low part is y
  abbrev pub worked : List E → ℕ → E → E → List E
  worked W g z y = slice_set W g (after R C (parts input R.𝟎 y) 0 (entries W) (layout_at layouts g) z (gate_at codes g))

  -- the m gates from gate g on worked out, none of which is opened
  abbrev pub settled : List E → ℕ → ℕ → List E
  settled W g zero = W
  settled W g (suc m) = settled (worked W g R.𝟎 R.𝟎) (suc g) m

  -- the gate of an opening worked out, and those up to the next one, whose gate is h
  abbrev pub kept : List E → Opening → List E → E → ℕ → List E
  kept W o lows z h = settled (worked W (gate_opened o) z (part_of R.𝟎 lows o)) (suc (gate_opened o)) (h - suc (gate_opened o))

-- the word that is shown at an opening
abbrev pub shown : {E : Type 0} → CommRing E → List ℕ → List E → Opening → List E → E
shown R codes W o highs = word R (parts (λ i. R.𝟎) (part_of R.𝟎 highs o) R.𝟎) 0 (λ a. get_or W a R.𝟎) (gate_at codes (gate_opened o))

-- The same over the tables that are lent, for a list of gates.
module _ {R C : Type 0} (G : Ghosts R C) (method : ℕ → Enc) (p : Plan) (l : Tables R) (W : List R) where
  abbrev pub gate_worked : ℕ → El G → El G → List (El G)
  gate_worked = worked (K G) (known G.shape method l.constants) p.codes p.layouts (word_at G l.inputs) (map G.element W)

  abbrev pub gates_settled : ℕ → ℕ → List (El G)
  gates_settled = settled (K G) (known G.shape method l.constants) p.codes p.layouts (word_at G l.inputs) (map G.element W)

  abbrev pub value_kept : Opening → El G → ℕ → List (El G)
  value_kept o = kept (K G) (known G.shape method l.constants) p.codes p.layouts (word_at G l.inputs) (map G.element W) o (map G.element l.low)
