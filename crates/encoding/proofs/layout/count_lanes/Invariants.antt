use Rattle.encoding.specs.Search.{Seen}
use Rattle.encoding.proofs.layout.count_lanes.Given as goal

abbrev pub invariant-loop-p : goal.invariant-loop-p
invariant-loop-p l = Seen l.p l.count
