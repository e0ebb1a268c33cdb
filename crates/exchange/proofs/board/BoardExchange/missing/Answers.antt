use Rattle.std.proofs.Common.{◌*◌, ap, ◌∙◌, take, arith}
use Rattle.exchange.specs.Tables.{empties}
use Rattle.exchange.proofs.Counts.{empties_of_part}
use Rattle.exchange.proofs.Pages.{board_missing}
use Rattle.exchange.proofs.board.BoardExchange.missing.Goals as goal

pub returns : goal.returns
returns g c =
    let n = c.args.self.now.seats in
    let table = c.args.self.now.table.items in
    ap (λ k. n * k) (c.count_empty.ensures.sum ∙ ap (λ l. empties (take n l)) c.deref.ensures.value ∙ empties_of_part table n (omega arith)) ∙ board_missing n table
