use Rattle.std.proofs.Common.{sym, refl, ap, ◌∙◌, subst, arith}
use Rattle.node.specs.Nodes.{State, node_opening, keeping, Takes}
use Rattle.node.specs.Tables.{tables}
use Rattle.node.proofs.Taking.{took}
use Rattle.node.proofs.Node.take.Goals as goal

pub returns : goal.returns
returns g c =
    let n = c.self.inside in
    let x : State g.row.R.Denot = record { seats = n.seats; threshold = n.threshold; number = n.number; plan = n.circuit; keeps = n.seat } in
    let l = tables c.args.lent in
    let W = c.args.work.now in
    subst (λ s. Takes g.R.Ring g.M.Methods.method l c.args.row.now s W c.take.result (keeping x c.take.new.self) c.take.new.work) c.self.view_is
    (took g.R.Ring g.M.Methods.method l c.args.row.now x W c.take.result c.take.new.self c.take.new.work c.in_ok-opening.opening
    (sym c.in_ok-opening.was ∙ c.opening.ensures ∙ ap (λ s. node_opening s l W) (sym c.self.view_is))
    (omega arith)
    (sym c.word_of_seat.ensures ∙ c.if-not-same.ensures.0 refl ∙ c.shown_word-own.ensures)
    c.take.ensures)
