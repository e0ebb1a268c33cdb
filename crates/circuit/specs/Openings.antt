-- The openings of a list: its products and its outputs, in the order of their gates.
use Rattle.std.specs.Prelude.{ℕ, zero, suc, ◌+◌, List, [], ◌∷◌, ◌++◌, length}
use Rattle.circuit.specs.Kinds.{Gate, In, Add, Sub, Scale, Offset, Place, Mul, Out, gate_at}
use Rattle.circuit.specs.declared.openings.Opening.{Opening}
use Rattle.circuit.specs.declared.openings.Opening.TheVariants.{Product, Output}

-- how many products a gate is, and how many outputs
abbrev pub product_count : Gate → ℕ
product_count (In l i) = 0
product_count (Add a b) = 0
product_count (Sub a b) = 0
product_count (Scale a c) = 0
product_count (Offset a c) = 0
product_count (Place l a k) = 0
product_count (Mul m a b) = 1
product_count (Out a) = 0

abbrev pub output_count : Gate → ℕ
output_count (In l i) = 0
output_count (Add a b) = 0
output_count (Sub a b) = 0
output_count (Scale a c) = 0
output_count (Offset a c) = 0
output_count (Place l a k) = 0
output_count (Mul m a b) = 0
output_count (Out a) = 1

-- how many products, and how many outputs, come before gate g
abbrev pub products : List ℕ → ℕ → ℕ
products codes zero = 0
products codes (suc g) = products codes g + product_count (gate_at codes g)

abbrev pub outputs : List ℕ → ℕ → ℕ
outputs codes zero = 0
outputs codes (suc g) = outputs codes g + output_count (gate_at codes g)

-- the opening that a gate is, if it is one: product number j uses pair j, and outputs are counted too
abbrev pub opening_by : ℕ → ℕ → ℕ → Gate → List Opening
opening_by g j o (In l i) = []
opening_by g j o (Add a b) = []
opening_by g j o (Sub a b) = []
opening_by g j o (Scale a c) = []
opening_by g j o (Offset a c) = []
opening_by g j o (Place l a k) = []
opening_by g j o (Mul m a b) = Product g j ∷ []
opening_by g j o (Out a) = Output g o ∷ []

-- the openings among the first g gates
abbrev pub openings_before : List ℕ → ℕ → List Opening
openings_before codes zero = []
openings_before codes (suc g) = openings_before codes g ++ opening_by g (products codes g) (outputs codes g) (gate_at codes g)

abbrev pub openings_of : List ℕ → List Opening
openings_of codes = openings_before codes (length codes)

-- its gate
abbrev pub gate_opened : Opening → ℕ
gate_opened (Product g j) = g
gate_opened (Output g o) = g

-- the degree of the polynomial through its words, for a threshold t: a product of two shares has twice the threshold
abbrev pub degree_of : ℕ → Opening → ℕ
degree_of t (Product g j) = t + t
degree_of t (Output g o) = t
