use Rattle.std.proofs.Common.{ℕ, List, length, map, get_or}
use Rattle.curve.proofs.Loops.{Filled}
use Rattle.encoding.specs.Layouts.{read_at}
use Rattle.ring.specs.Model.{degree}
use Rattle.rules.specs.Elements.{Answers}
use Rattle.rules.proofs.gates.read_by.Given as goal

abbrev pub invariant-loop-lane : goal.invariant-loop-lane
invariant-loop-lane g l =
    (ps : List ℕ) → Answers (goal.F-post g l.position) (degree g.R.Ring.shape) (length l.fn.lanes) ps
    → Filled (map (λ x. x) l.lanes) (λ k. get_or (read_at ps (g.R.Ring.element l.element).0) k 0) 0 l.lane
