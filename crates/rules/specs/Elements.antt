-- What every seat knows, as elements of the ring of a shape.
use Rattle.std.specs.Prelude.{◌≡◌, ℕ, ◌<◌, true, false, List, length, replicate, nat_lt, slice_index, slice_index_or}
use Rattle.algebra.specs.Quotient.{Shape, Element}
use Rattle.ring.specs.Model.{ring, degree, embedded}
use Rattle.encoding.specs.Encodings.{Enc, laid}
use Rattle.encoding.specs.Layouts.{positions, read_at}
use Rattle.encoding.specs.declared.layout.Layout.{Layout}
use Rattle.encoding.proofs.Elements.{is_embedded, is_laid}
use Rattle.rules.specs.Rules.{Known, Parts}

-- lanes in a layout
abbrev pub value : (s : Shape) → Layout → List ℕ → Element s
value s layout lanes = (laid s layout lanes, is_laid s layout lanes)

-- a number, modulo q, at coordinate p
abbrev pub number_at : (s : Shape) → ℕ → ℕ → Element s
number_at s v p = (embedded s v p, is_embedded s v p)

-- what is called answers the position of each of the first n lanes, and d where there is no such lane
abbrev pub Answers : (ℕ → ℕ → Type 0) → ℕ → ℕ → List ℕ → Type 0
Answers answer d n ps = (lane p : ℕ) → lane < n → answer lane p → p ≡ slice_index_or ps lane d

-- the out layout of what is read from an element
abbrev pub picked : (s : Shape) → Enc → Element s → Element s
picked s E z = value s E.out (read_at (E.read (degree s)) z.0)

-- there are three methods, and any other keeps nothing
abbrev pub known : (s : Shape) → (ℕ → Enc) → List ℕ → Known (Element s)
known s method constants = record {
  factor = λ c. number_at s (slice_index constants c) 0;
  offset = λ layout c. value s layout (replicate (length (positions layout (degree s))) (slice_index constants c));
  move = λ layout k. number_at s 1 (slice_index_or (positions layout (degree s)) k (degree s));
  pick = λ m z. elim (nat_lt m 3) [ true ↦ picked s (method m) z | false ↦ (ring s).𝟎 ];
}

-- the parts of a rule that looks at one pair alone
abbrev pub parts : {E : Type 0} → (ℕ → E) → E → E → Parts E
parts input high low = record { input = input; high = λ j. high; low = λ j. low }
