use Rattle.std.proofs.Common.{◌+◌, get_or, sym, ap, ◌∙◌, subst, arith}
use Rattle.encoding.specs.Search.{Seen, lanes_below, seen_none, seen_more, seen_less, seen_found, seen_not}
use Rattle.encoding.proofs.layout.find_lane.Goals as goal
use Rattle.encoding.proofs.layout.find_lane.Goals.{then-lacks_two+else-count-lane, else-lacks_two}

pub loop-p-init : goal.loop-p-init
loop-p-init c = (seen_none, omega arith)

pub returns-then-count-lane : goal.returns-then-count-lane
returns-then-count-lane c =
    seen_found c.args.end c.args.other c.loop-p.invariant.0 c.loop-p-test.true (sym c.if-lacks_two.ensures)
    ∙ ap (λ l. get_or (lanes_below c.args.end) l c.args.other) c.if-count-lane.true

pub loop-p-preserved : goal.loop-p-preserved
loop-p-preserved c =
    elim c.if-lacks_two.branch [
      | then-lacks_two+else-count-lane w ↦
          (subst (Seen (c.loop-p.p + 1)) (sym w.count-is) (seen_more c.loop-p.invariant.0 (sym w.if-lacks_two.ensures)), omega (arith, w.count-is, c.loop-p.invariant.1, w.if-count-lane.false))
      | else-lacks_two w ↦
          (subst (Seen (c.loop-p.p + 1)) (sym w.count-is) (seen_less c.loop-p.invariant.0 (sym w.if-lacks_two.ensures)), omega (arith, w.count-is, c.loop-p.invariant.1))
    ]

pub returns : goal.returns
returns c = seen_not c.args.end c.args.lane c.args.other c.loop-p.invariant.0 c.loop-p.auto.p-end c.loop-p-test.false c.loop-p.invariant.1
