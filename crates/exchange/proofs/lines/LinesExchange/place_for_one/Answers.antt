use Rattle.std.proofs.Common.{◌+◌, ◌-◌, ◌≤◌, length, Some, false, ap, ◌∙◌, arith}
use Rattle.std.proofs.lemmas.List.{with_items_is}
use borrow.Rule.Slice.PartMut.{put_mid, same_len_mid}
use Rattle.exchange.specs.Sheet.{place_one}
use Rattle.exchange.specs.Tables.{lines_page}
use Rattle.exchange.proofs.Counts.{part_placed}
use Rattle.exchange.proofs.Places.{seated}
use Rattle.exchange.proofs.Pages.{lines_one}
use Rattle.exchange.proofs.lines.LinesExchange.place_for_one.Goals as goal

pub returns : goal.returns
returns g c =
    let n = c.args.self.now.seats in
    let s = c.args.sender in
    let t = c.args.receiver in
    let square = c.place_of-square.result in
    let table = c.deref_mut.result.now in
    let within : square + 1 ≤ length table = omega arith in
    ap (λ l. (c.place.result, lines_page n l))
    (with_items_is c.args.self.now.table (put_mid square (square + 1 - square) table c.place.new.squares) (same_len_mid square (square + 1 - square) table c.place.new.squares (omega arith) ∙ omega arith))
    ∙ lines_one n s t table _ square c.args.word c.place.result (seated n s c.test_seat.ensures c.in_ok-test_seat.was) (seated n t c.test_seat-2.ensures c.in_ok-test_seat-2.was) (omega arith) c.place_of-square.ensures.is
    (part_placed table square 1 (Some c.args.word) c.place.result c.place.new.squares within c.place.ensures)
    ∙ ap (λ l. place_one false (lines_page n l) s t c.args.word) c.deref_mut.ensures.value
