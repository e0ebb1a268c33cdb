-- Gates by what is dealt for them and what is opened, and the openings of a list by their numbers.
use Rattle.std.specs.Prelude.{◌≡◌, ℕ, zero, suc, ◌+◌, ◌<◌, Bool, false, ◌||◌, List, [], ◌∷◌, length, ◌==◌, slice_index_or}
use Rattle.circuit.specs.Kinds.{Gate, In, Add, Sub, Scale, Offset, Place, Mul, Out, gate_at}
use Rattle.circuit.specs.Openings.{products, outputs, opening_by, openings_of, gate_opened, degree_of}
use Rattle.circuit.specs.declared.openings.Opening.{Opening}
use Rattle.circuit.specs.declared.openings.Opening.TheVariants.{Output}
use Rattle.rules.specs.Rules.{openings}

-- products and outputs are opened
abbrev pub Opened : Gate → Type 0
Opened (In l i) = ⊥
Opened (Add a b) = ⊥
Opened (Sub a b) = ⊥
Opened (Scale a c) = ⊥
Opened (Offset a c) = ⊥
Opened (Place l a k) = ⊥
Opened (Mul m a b) = Unit {0}
Opened (Out a) = Unit {0}

-- the degree of the polynomial through a gate's words, for a threshold t; a gate that is not opened has the word zero
abbrev pub degree : ℕ → Gate → ℕ
degree t (In l i) = 0
degree t (Add a b) = 0
degree t (Sub a b) = 0
degree t (Scale a c) = 0
degree t (Offset a c) = 0
degree t (Place l a k) = 0
degree t (Mul m a b) = t + t
degree t (Out a) = t

-- the gate is an IN of input i
abbrev pub names : Gate → ℕ → Bool
names (In l k) i = k == i
names (Add a b) i = false
names (Sub a b) i = false
names (Scale a c) i = false
names (Offset a c) i = false
names (Place l a k) i = false
names (Mul m a b) i = false
names (Out a) i = false

-- one of the first g gates is an IN of input i
abbrev pub named : List ℕ → ℕ → ℕ → Bool
named codes zero i = false
named codes (suc g) i = named codes g i || names (gate_at codes g) i

-- opening number k of a list, from 0
abbrev pub opening_at : List ℕ → ℕ → Opening
opening_at codes k = slice_index_or (openings_of codes) k (Output 0 0)

-- o is opening number k, of one of the first g gates: k openings come before its gate, and o is what the list has for that gate
pub record Numbered (codes : List ℕ) (g k : ℕ) (o : Opening) : Type 0 where
  pub below : gate_opened o < g
  pub opened : Opened (gate_at codes (gate_opened o))
  pub number : openings codes (gate_opened o) ≡ k
  pub is : opening_by (gate_opened o) (products codes (gate_opened o)) (outputs codes (gate_opened o)) (gate_at codes (gate_opened o)) ≡ o ∷ []
  pub degrees : (t : ℕ) → degree_of t o ≡ degree t (gate_at codes (gate_opened o))

-- the list has every opening, at its number
pub record Order (codes : List ℕ) : Type 0 where
  pub all : length (openings_of codes) ≡ openings codes (length codes)
  pub each : (k : ℕ) → k < length (openings_of codes) → Numbered codes (length codes) k (opening_at codes k)
  pub found : (g : ℕ) → g < length codes → Opened (gate_at codes g) → gate_opened (opening_at codes (openings codes g)) ≡ g

abbrev pub OpeningsNumbered : Type 0
OpeningsNumbered = (codes : List ℕ) → Order codes
