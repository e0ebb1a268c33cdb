-- Runs of a list of gates: what the seats hold and show, what they hear and open, and what holds whatever outside seats say.
use Rattle.std.specs.Prelude.{◌≡◌, ℕ, ◌+◌, ◌<◌, ◌≤◌, Bool, true, cond, ◌||◌, List, length, ◌==◌}
use Rattle.encoding.specs.declared.layout.Layout.{Layout}
use Rattle.circuit.specs.Kinds.{gate_at}
use Rattle.circuit.specs.Openings.{products, openings_of, gate_opened}
use Rattle.rules.specs.Rules.{Parts, Known, entry, asked, openings}
use Rattle.protocol.specs.Gates.{Opened, degree, named, opening_at}
use Rattle.protocol.specs.Shares.{Table, Laws, Seat, Inside, Outside, everyone, Shared, Opens}

-- what every seat knows, and the list of gates with their layouts
pub record Task (E : Type 0) : Type 0 where
  pub known : Known E
  pub codes : List ℕ
  pub layouts : List Layout

module _ {E : Type 0} (T : Table E) (W : Task E) where
  -- A seat with these parts that has opened the values z: its share of gate a once it has worked the first g gates, and the
  -- word that it shows at gate g.
  abbrev pub share_of : Parts E → (ℕ → E) → ℕ → ℕ → E
  share_of P z = entry T.ring W.known W.codes W.layouts P (λ k w. z k)

  abbrev pub word_of : Parts E → (ℕ → E) → ℕ → E
  word_of P z = asked T.ring W.known W.codes W.layouts P (λ k w. z k)

  -- The same for the values V that were dealt, where a word opens to itself: the value of gate a, and the value shared at
  -- gate g.
  abbrev pub value_of : Parts E → ℕ → ℕ → E
  value_of V = entry T.ring W.known W.codes W.layouts V (λ k w. w)

  abbrev pub value_shared : Parts E → ℕ → E
  value_shared V = asked T.ring W.known W.codes W.layouts V (λ k w. w)

  -- the value shared at opening number k
  abbrev pub value_opened : Parts E → ℕ → E
  value_opened V k = value_shared V (gate_opened (opening_at W.codes k))

  -- The parts P of the seats in a set are shares of V: each input that an IN names and each low part to the threshold, each
  -- high part to twice the threshold.
  pub record Dealt (set : ℕ → Bool) (P : ℕ → Parts E) (V : Parts E) : Type 0 where
    pub inputs : (i : ℕ) → named W.codes (length W.codes) i ≡ true → Shared T set T.threshold (λ s. (P s).input i) (V.input i)
    pub highs : (j : ℕ) → j < products W.codes (length W.codes) → Shared T set (T.threshold + T.threshold) (λ s. (P s).high j) (V.high j)
    pub lows : (j : ℕ) → j < products W.codes (length W.codes) → Shared T set T.threshold (λ s. (P s).low j) (V.low j)

  -- whoever opened y has opened the value shared at each opening before gate g
  pub record Right (V : Parts E) (y : ℕ → E) (g : ℕ) : Type 0 where
    pub at : (h : ℕ) → h < g → Opened (gate_at W.codes h) → y (openings W.codes h) ≡ value_shared V h

  -- once the first g gates are worked: the shares of each gate are shares of its value, and the words of gate g shares of the
  -- value shared there
  pub record Curves (set : ℕ → Bool) (P : ℕ → Parts E) (V : Parts E) (z : ℕ → ℕ → E) (g : ℕ) : Type 0 where
    pub shares : (a : ℕ) → Shared T set T.threshold (λ s. share_of (P s) (z s) g a) (value_of V g a)
    pub words : g < length W.codes → Shared T set (degree T.threshold (gate_at W.codes g)) (λ s. word_of (P s) (z s) g) (value_shared V g)

  -- w is a true word of seat s at gate g: the word of parts that lie with the inside ones on the polynomials dealt, and of
  -- openings that were right
  pub record TrueWord (P : ℕ → Parts E) (V : Parts E) (s g : ℕ) (w : E) : Type 0 where
    pub parts : Parts E
    pub opened : ℕ → E
    pub dealt : Dealt (λ i. T.inside i || i == s) (λ i. cond (i == s) parts (P i)) V
    pub right : Right V opened g
    pub is : w ≡ word_of parts opened g

  -- inside seat i, which has opened `rounds i` values, has opened gate g
  pub record HasOpened (rounds : ℕ → ℕ) (i g : ℕ) : Type 0 where
    pub inside : Inside T i
    pub below : g < length W.codes
    pub opened : Opened (gate_at W.codes g)
    pub done : openings W.codes g < rounds i

  -- What inside seats hear and open: z i k is the value that seat i opened at opening number k, and row i k has the words that
  -- it heard there. An inside word comes from a seat that has opened all that came before, and is what the rules give; of an
  -- outside word nothing is said, and it may differ from receiver to receiver.
  pub record Run (P : ℕ → Parts E) (rounds : ℕ → ℕ) (z : ℕ → ℕ → E) (row : ℕ → ℕ → ℕ → E) : Type 0 where
    pub ready : (i s g : ℕ) → HasOpened rounds i g → Inside T s → openings W.codes g ≤ rounds s
    pub heard : (i s g : ℕ) → HasOpened rounds i g → Inside T s → row i (openings W.codes g) s ≡ word_of (P s) (z s) g
    pub opened : (i g : ℕ) → HasOpened rounds i g
        → Opens T (degree T.threshold (gate_at W.codes g)) (row i (openings W.codes g)) (z i (openings W.codes g))

  -- Every value that an inside seat has opened is the value shared, by gate and by number. A seat that has opened all before
  -- gate g has opened them right, and where all inside seats have, what they hold and show are shares.
  pub record SoundRun (P : ℕ → Parts E) (V : Parts E) (rounds : ℕ → ℕ) (z : ℕ → ℕ → E) : Type 0 where
    pub values : (i g : ℕ) → HasOpened rounds i g → z i (openings W.codes g) ≡ value_shared V g
    pub numbers : (i k : ℕ) → Inside T i → k < length (openings_of W.codes) → k < rounds i → z i k ≡ value_opened V k
    pub right : (i g : ℕ) → Inside T i → g ≤ length W.codes → openings W.codes g ≤ rounds i → Right V (z i) g
    pub curves : (g : ℕ) → g ≤ length W.codes → ((i : ℕ) → Inside T i → openings W.codes g ≤ rounds i) → Curves T.inside P V z g

-- while the seats of a set have opened the values shared, what they hold and show are shares
abbrev pub CurvesHold : Type 0 → Type 0
CurvesHold E =
    (T : Table E) (W : Task E) (set : ℕ → Bool) (P : ℕ → Parts E) (V : Parts E) → Dealt T W set P V
    → (z : ℕ → ℕ → E) (g : ℕ) → g ≤ length W.codes → ((s : ℕ) → Seat T.seats set s → Right T W V (z s) g) → Curves T W set P V z g

-- whatever rows came, every value that an inside seat has opened is the value shared
abbrev pub RunsSound : Type 0 → Type 0
RunsSound E =
    (T : Table E) → Laws T → (W : Task E) (P : ℕ → Parts E) (V : Parts E) → Dealt T W T.inside P V
    → (rounds : ℕ → ℕ) (z : ℕ → ℕ → E) (row : ℕ → ℕ → ℕ → E) → Run T W P rounds z row → SoundRun T W P V rounds z

-- where all inside seats have opened the values shared so far, a row of their words and of true outside words opens to the value
-- shared
abbrev pub OpeningsComplete : Type 0 → Type 0
OpeningsComplete E =
    (T : Table E) → Laws T → (W : Task E) (P : ℕ → Parts E) (V : Parts E) → Dealt T W T.inside P V
    → (z : ℕ → ℕ → E) (g : ℕ) → g < length W.codes → ((s : ℕ) → Inside T s → Right T W V (z s) g)
    → (row : ℕ → E) → ((s : ℕ) → Inside T s → row s ≡ word_of T W (P s) (z s) g) → ((s : ℕ) → Outside T s → TrueWord T W P V s g (row s))
    → Opens T (degree T.threshold (gate_at W.codes g)) row (value_shared T W V g)

-- every seat has a true word, and an outside seat one only
abbrev pub TrueWordsExist : Type 0 → Type 0
TrueWordsExist E =
    (T : Table E) (W : Task E) (P : ℕ → Parts E) (V : Parts E) → Dealt T W T.inside P V → (s g : ℕ) → g ≤ length W.codes → (w : E) × TrueWord T W P V s g w

abbrev pub TrueWordsOnce : Type 0 → Type 0
TrueWordsOnce E =
    (T : Table E) → Laws T → (W : Task E) (P : ℕ → Parts E) (V : Parts E) → Dealt T W T.inside P V
    → (s g : ℕ) → Outside T s → g < length W.codes → (w u : E) → TrueWord T W P V s g w → TrueWord T W P V s g u → w ≡ u

-- where all seats keep to the rules, showing each word to all, there is a run to the end: the values opened are the values shared
abbrev pub RunsComplete : Type 0 → Type 0
RunsComplete E =
    (T : Table E) (W : Task E) (P : ℕ → Parts E) (V : Parts E) → Dealt T W everyone P V
    → Run T W P (λ i. openings W.codes (length W.codes)) (λ i. value_opened T W V)
    (λ i k s. word_of T W (P s) (value_opened T W V) (gate_opened (opening_at W.codes k)))

-- shares and words hang on nothing but what was opened before
pub record Causal {E : Type 0} (T : Table E) (W : Task E) (P : Parts E) (y z : ℕ → E) (g : ℕ) : Type 0 where
  pub shares : (a : ℕ) → share_of T W P y g a ≡ share_of T W P z g a
  pub words : word_of T W P y g ≡ word_of T W P z g

abbrev pub WordsCausal : Type 0 → Type 0
WordsCausal E =
    (T : Table E) (W : Task E) (P : Parts E) (y z : ℕ → E) (g : ℕ)
    → ((k : ℕ) → k < openings W.codes g → y k ≡ z k) → Causal T W P y z g
