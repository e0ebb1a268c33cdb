use Rattle.std.proofs.Common.{length, ◌∙◌, arith}
use Rattle.curve.specs.Curve.{K}
use Rattle.curve.proofs.Loops.{filled_more, filled_all}
use Rattle.node.proofs.Tables.{listed_same}
use Rattle.node.proofs.clear.Goals as goal

pub loop-entry-preserved : goal.loop-entry-preserved
loop-entry-preserved g c =
    filled_more g.R.Ring.element c.loop-entry.entry-items c.loop-entry.invariant (omega (arith, c.loop-entry-test.true, c.loop-entry.auto.entry-items)) c.zero.result c.zero.ensures

pub returns : goal.returns
returns g c =
    filled_all g.R.Ring.element c.loop-entry.entry-items (length c.args.work.now) c.loop-entry.invariant c.loop-entry.auto.entry-items c.loop-entry-test.false
    ∙ listed_same (length c.args.work.now) (K g.R.Ring).𝟎
