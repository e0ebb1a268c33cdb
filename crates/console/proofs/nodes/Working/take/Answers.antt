use Rattle.std.proofs.Common.{length, sym, refl, ap, ◌∙◌}
use Rattle.std.proofs.lemmas.List.{with_items_is}
use Rattle.encoding.specs.Encodings.{standard}
use Rattle.node.specs.Nodes.{node_opening}
use Rattle.node.specs.Tables.{tables}
use Rattle.console.proofs.Refused.{refused_unchanged, on_err}
use Rattle.console.proofs.nodes.Working.take.Goals as goal

pub returns-in_err-fault : goal.returns-in_err-fault
returns-in_err-fault g c =
    let l = tables c.lent.result in
    let x = c.args.self.now.node in
    let W = c.as_mut_slice.result.now in
    let n = refused_unchanged g.R.Ring standard l c.args.row.now x W c.in_err-fault.field-0.0 c.take.new.self c.take.new.work (node_opening x l W) c.in_err-fault.ensures in
    let same = n.1 ∙ c.as_mut_slice.ensures.value in
    on_err c.from_residual.result (refl, n.0, with_items_is c.args.self.now.work c.take.new.work (ap length same ∙ sym c.args.self.now.work.ok.0) ∙ same)
