use Rattle.std.proofs.Common.{◌+◌, ◌*◌, ◌≤◌, Ok, ap, ◌∙◌, pred, arith}
use Rattle.std.proofs.lemmas.Grind.{common_steps}
use Rattle.std.proofs.lemmas.List.{with_items_is}
use Rattle.exchange.specs.Tables.{lines_page}
use Rattle.exchange.proofs.Pages.{seats_taken}
use Rattle.exchange.proofs.lines.LinesExchange.set_seats.Goals as goal

pub returns : goal.returns
returns g c =
    let few : c.args.n ≤ 31 = grind (arith, common_steps) in
    ap (λ l. (Ok tt, lines_page c.args.n l)) (with_items_is c.args.self.now.table c.clear_for.new.table (grind (arith, common_steps)))
    ∙ seats_taken g.R.Ring.points.count c.args.n _ (λ n. n * n) (λ r s. pred s * c.args.n + pred r) (lines_page c.args.self.now.seats c.args.self.now.table.items) c.deref_mut.result.now c.clear_for.new.table c.clear_for.ensures c.in_ok-clear_for.was (grind (arith, common_steps)) (grind (arith, common_steps))
