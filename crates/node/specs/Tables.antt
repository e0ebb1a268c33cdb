-- The tables that a node is lent, as lists.
use Rattle.std.specs.Prelude.{ℕ, List}
use Rattle.node.specs.declared.Lent.{Lent}

-- the constants, and the parts of one seat: of the inputs, and high and low of the pairs
pub record Tables (R : Type 0) : Type 0 where
  pub constants : List ℕ
  pub inputs : List R
  pub high : List R
  pub low : List R

abbrev pub tables : {R : Type 0} → Lent R → Tables R
tables lent = record { constants = lent.constants.now; inputs = lent.inputs.now; high = lent.high.now; low = lent.low.now }
