-- The rules of gates, over any commutative ring: what a gate's entry is, and which word is shown at an opening. Used at a
-- seat's parts they give its shares; at the values that were dealt they give the values shared.
use Rattle.std.specs.Prelude.{ℕ, zero, suc, ◌+◌, true, false, List, ◌==◌}
use Rattle.algebra.specs.Ring.{CommRing, sub}
use Rattle.encoding.specs.declared.layout.Layout.{Layout}
use Rattle.circuit.specs.Gates.{layout_at}
use Rattle.circuit.specs.Kinds.{Gate, In, Add, Sub, Scale, Offset, Place, Mul, Out, gate_at}
use Rattle.circuit.specs.Openings.{products, outputs}

-- What the first g gates have, each made of what those before it have, and nothing past them.
abbrev pub gate_by_gate : {A : Type 0} → A → (ℕ → (ℕ → A) → A) → ℕ → ℕ → A
gate_by_gate nothing rule zero a = nothing
gate_by_gate nothing rule (suc g) a = elim (a == g) [ true ↦ rule g (gate_by_gate nothing rule g) | false ↦ gate_by_gate nothing rule g a ]

-- what was dealt, to one seat or as values: the inputs, and the high and the low part of each pair
pub record Parts (E : Type 0) : Type 0 where
  pub input : ℕ → E
  pub high : ℕ → E
  pub low : ℕ → E

-- What every seat knows: a constant as a factor; a constant in every lane of a layout; the factor that moves a plain value
-- to a lane of a layout; and what a method keeps of an opened element, the out layout of what is read from it.
pub record Known (E : Type 0) : Type 0 where
  pub factor : ℕ → E
  pub offset : Layout → ℕ → E
  pub move : Layout → ℕ → E
  pub pick : ℕ → E → E

module _ {E : Type 0} (R : CommRing E) (P : Parts E) where
  -- the word of a gate with j products before it, from the entries e; only products and outputs have one
  abbrev pub word : ℕ → (ℕ → E) → Gate → E
  word j e (In l i) = R.𝟎
  word j e (Add a b) = R.𝟎
  word j e (Sub a b) = R.𝟎
  word j e (Scale a c) = R.𝟎
  word j e (Offset a c) = R.𝟎
  word j e (Place l a k) = R.𝟎
  word j e (Mul m a b) = sub R (R.◌⊗◌ (e a) (e b)) (P.high j)
  word j e (Out a) = e a

module _ {E : Type 0} (R : CommRing E) (C : Known E) (P : Parts E) where
  -- the entry of a gate in this layout, with j products before it, from the entries e and the value z that was opened
  abbrev pub after : ℕ → (ℕ → E) → Layout → E → Gate → E
  after j e layout z (In l i) = P.input i
  after j e layout z (Add a b) = R.◌⊕◌ (e a) (e b)
  after j e layout z (Sub a b) = sub R (e a) (e b)
  after j e layout z (Scale a c) = R.◌⊗◌ (e a) (C.factor c)
  after j e layout z (Offset a c) = R.◌⊕◌ (e a) (C.offset layout c)
  after j e layout z (Place l a k) = R.◌⊗◌ (e a) (C.move l k)
  after j e layout z (Mul m a b) = R.◌⊕◌ (C.pick m z) (P.low j)
  after j e layout z (Out a) = z

-- how many openings come before gate g
abbrev pub openings : List ℕ → ℕ → ℕ
openings codes g = products codes g + outputs codes g

-- The entries of the first g gates of a list, and zero past them. What opening number k answers for a word is given: a seat
-- puts what it has opened, whatever its word was; the values put the word itself.
module _ {E : Type 0} (R : CommRing E) (C : Known E) (codes : List ℕ) (layouts : List Layout) (P : Parts E) (answer : ℕ → E → E) where
  abbrev pub entry : ℕ → ℕ → E
  entry = gate_by_gate R.𝟎 (λ g e. after R C P (products codes g) e (layout_at layouts g) (answer (openings codes g) (word R P (products codes g) e (gate_at codes g))) (gate_at codes g))

  -- the word shown at gate g
  abbrev pub asked : ℕ → E
  asked g = word R P (products codes g) (entry g) (gate_at codes g)
