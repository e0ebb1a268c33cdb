use Rattle.std.proofs.Common.{◌+◌}
use Rattle.curve.proofs.Theory.{Agrees}
use Rattle.curve.proofs.open_row.Given as goal

abbrev pub invariant-loop-k : goal.invariant-loop-k
invariant-loop-k g l = Agrees g.R.Ring g.met.R.Ring.pointed l.row l.m (l.m + l.k)
