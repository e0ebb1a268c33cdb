use Rattle.std.proofs.Common.{◌≡◌, take}
use Rattle.algebra.specs.Quotient.{modulo, zeros}
use Rattle.ring.specs.Model.{degree}
use Rattle.encoding.specs.Layouts.{positions, laid_over}
use Rattle.encoding.proofs.values.lay_out.Given as goal

-- the lanes before the next are laid out
abbrev pub invariant-loop-l : goal.invariant-loop-l
invariant-loop-l g l =
    let s = g.R.Ring.shape in
    (g.R.Ring.element l.sum).0 ≡ laid_over s.q (zeros (modulo s.q) s.h) (take l.l (positions l.layout (degree s))) (take l.l l.lanes)
