use Rattle.std.proofs.Common.{◌≡◌, replicate, Some}
use lib.Seq.{paste}
use Rattle.exchange.proofs.table.place.Given as goal

abbrev pub invariant-loop-square : goal.invariant-loop-square
invariant-loop-square g l = l.square-items ≡ paste l.initial.square-items 0 (replicate l.square-index (Some l.word)) l.square-index
