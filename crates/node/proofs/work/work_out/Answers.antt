use Rattle.std.proofs.Common.{map, ap, ◌∙◌}
use Rattle.curve.specs.Curve.{K, word}
use Rattle.rules.specs.Elements.{known}
use Rattle.curve.proofs.Loops.{map_set}
use Rattle.node.proofs.Working.{worked_by}
use Rattle.node.proofs.work.work_out.Goals as goal

pub returns : goal.returns
returns g c =
    let e = g.R.Ring.element in
    worked_by (K g.R.Ring) (known g.R.Ring.shape g.M.Methods.method c.args.lent.constants.now) c.args.circuit.now.codes c.args.circuit.now.layouts (word g.R.Ring c.args.lent.inputs.now)
    (map e c.args.work.now) _ c.args.gate c.gate.result c.layout.result (e c.args.opened.value) (e c.args.opened.low) (e c.entry_of-entry.result)
    c.gate.ensures c.layout.ensures c.entry_of-entry.ensures (ap (map e) c.put.ensures ∙ map_set e c.args.work.now c.args.gate c.entry_of-entry.result)
