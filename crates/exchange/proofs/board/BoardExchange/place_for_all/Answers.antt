use Rattle.std.proofs.Common.{◌+◌, ◌-◌, ◌≤◌, length, Some, ap, ◌∙◌, sub-one, arith}
use Rattle.std.proofs.lemmas.List.{with_items_is}
use Rattle.std.proofs.lemmas.Bool.Decides.{nat_tests}
use borrow.Rule.Slice.PartMut.{put_mid, same_len_mid}
use Rattle.exchange.specs.Sheet.{place_all}
use Rattle.exchange.specs.Tables.{board_page}
use Rattle.exchange.proofs.Counts.{part_placed}
use Rattle.exchange.proofs.Places.{seated}
use Rattle.exchange.proofs.Pages.{board_all}
use Rattle.exchange.proofs.board.BoardExchange.place_for_all.Goals as goal

pub returns : goal.returns
returns g c =
    let n = c.args.self.now.seats in
    let s = c.args.sender in
    let square = s - 1 in
    let table = c.deref_mut.result.now in
    let sends = seated n s c.test_seat.ensures c.in_ok-test_seat.was in
    let within : square + 1 ≤ length table = grind (arith, nat_tests) in
    ap (λ l. (c.place.result, board_page n l))
    (with_items_is c.args.self.now.table (put_mid square (square + 1 - square) table c.place.new.squares) (same_len_mid square (square + 1 - square) table c.place.new.squares (omega arith) ∙ omega arith))
    ∙ board_all n s table _ square c.args.word c.place.result sends (omega arith) (sub-one s)
    (part_placed table square 1 (Some c.args.word) c.place.result c.place.new.squares within c.place.ensures)
    ∙ ap (λ l. place_all (board_page n l) s c.args.word) c.deref_mut.ensures.value
