use Rattle.std.proofs.Common.{suc, map, Some, None}
use Rattle.curve.proofs.Loops.{Filled}
use Rattle.exchange.specs.Sheet.{seen}
use Rattle.exchange.proofs.collect_row.Given as goal

abbrev pub invariant-loop-k : goal.invariant-loop-k
invariant-loop-k g l = Filled (map Some l.row) (λ k. seen g.X.Exchange.veiled (g.X.Exchange.page l.exchange) l.receiver (suc k)) None l.k
