-- The values with nothing hidden: where the two parts of every pair fit, the values of gates are those of plain products.
use Rattle.std.specs.Prelude.{◌≡◌, ℕ, ◌<◌, ◌≤◌, length}
use Rattle.algebra.specs.Ring.{CommRing}
use Rattle.circuit.specs.Kinds.{Mul, Out, gate_at}
use Rattle.circuit.specs.Openings.{products}
use Rattle.rules.specs.Rules.{Parts}
use Rattle.protocol.specs.Shares.{Table}
use Rattle.protocol.specs.Runs.{Task, value_of, value_shared}

-- the same inputs, and nothing to hide a product with
abbrev pub clear : {E : Type 0} → CommRing E → Parts E → Parts E
clear R V = record { input = V.input; high = λ j. R.𝟎; low = λ j. R.𝟎 }

-- for every product: what its method keeps of an element is additive, and the low part of its pair is what is kept of the high part
pub record Paired {E : Type 0} (T : Table E) (W : Task E) (V : Parts E) : Type 0 where
  pub additive : (g m a b : ℕ) → g < length W.codes → gate_at W.codes g ≡ Mul m a b
      → (x y : E) → W.known.pick m (T.ring.◌⊕◌ x y) ≡ T.ring.◌⊕◌ (W.known.pick m x) (W.known.pick m y)
  pub fits : (g m a b : ℕ) → g < length W.codes → gate_at W.codes g ≡ Mul m a b
      → V.low (products W.codes g) ≡ W.known.pick m (V.high (products W.codes g))

-- the values of gates, and those that outputs share, are those of the clear computation
pub record Plainly {E : Type 0} (T : Table E) (W : Task E) (V : Parts E) : Type 0 where
  pub values : (g a : ℕ) → g ≤ length W.codes → value_of T W V g a ≡ value_of T W (clear T.ring V) g a
  pub outputs : (g a : ℕ) → g < length W.codes → gate_at W.codes g ≡ Out a → value_shared T W V g ≡ value_shared T W (clear T.ring V) g

abbrev pub ValuesClear : Type 0 → Type 0
ValuesClear E = (T : Table E) (W : Task E) (V : Parts E) → Paired T W V → Plainly T W V
