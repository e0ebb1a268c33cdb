use Rattle.std.proofs.Common.{◌+◌, sym, subst, rules}
use Rattle.encoding.specs.Search.{Seen, seen_none, seen_more, seen_less, seen_all}
use Rattle.encoding.proofs.layout.count_lanes.Goals as goal
use Rattle.encoding.proofs.layout.count_lanes.Goals.{then-lacks_two, else-lacks_two}

pub loop-p-init : goal.loop-p-init
loop-p-init c = seen_none

pub overflow_add-count : goal.overflow_add-count
overflow_add-count c = let most = c.loop-p.invariant.most in search rules

pub loop-p-preserved : goal.loop-p-preserved
loop-p-preserved c =
    elim c.if-lacks_two.branch [
      | then-lacks_two w ↦ subst (Seen (c.loop-p.p + 1)) (sym w.count-is) (seen_more c.loop-p.invariant (sym w.if-lacks_two.ensures))
      | else-lacks_two w ↦ subst (Seen (c.loop-p.p + 1)) (sym w.count-is) (seen_less c.loop-p.invariant (sym w.if-lacks_two.ensures))
    ]

pub returns : goal.returns
returns c = seen_all c.args.end c.loop-p.invariant c.loop-p.auto.p-end c.loop-p-test.false
