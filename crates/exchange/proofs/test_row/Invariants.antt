use Rattle.std.proofs.Common.{◌≡◌, ℕ, suc, ◌<◌, true, is_some}
use Rattle.exchange.specs.Sheet.{seen}
use Rattle.exchange.proofs.test_row.Given as goal

abbrev pub invariant-loop-k : goal.invariant-loop-k
invariant-loop-k g l = (k : ℕ) → suc k < l.k → is_some (seen g.X.Exchange.veiled (g.X.Exchange.page l.exchange) l.receiver (suc k)) ≡ true
