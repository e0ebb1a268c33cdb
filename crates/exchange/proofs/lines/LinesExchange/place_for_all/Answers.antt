use Rattle.std.proofs.Common.{◌+◌, ◌-◌, ◌≤◌, length, Some, ap, ◌∙◌, arith}
use Rattle.std.proofs.lemmas.List.{with_items_is}
use borrow.Rule.Slice.PartMut.{put_mid, same_len_mid}
use Rattle.exchange.specs.Sheet.{place_all}
use Rattle.exchange.specs.Tables.{lines_page}
use Rattle.exchange.proofs.Counts.{part_placed}
use Rattle.exchange.proofs.Pages.{lines_all}
use Rattle.exchange.proofs.Places.{seated, row_within}
use Rattle.exchange.proofs.lines.LinesExchange.place_for_all.Goals as goal

pub slice_bounds-place-end : goal.slice_bounds-place-end
slice_bounds-place-end g c = omega (arith, row_within c.args.self.now.seats c.args.sender (seated c.args.self.now.seats c.args.sender c.test_seat.ensures c.in_ok-test_seat.was))

pub returns : goal.returns
returns g c =
    let n = c.args.self.now.seats in
    let s = c.args.sender in
    let start = c.place_of-start.result in
    let table = c.deref_mut.result.now in
    let sends = seated n s c.test_seat.ensures c.in_ok-test_seat.was in
    let within : start + n ≤ length table = omega (arith, row_within n s sends) in
    ap (λ l. (c.place.result, lines_page n l))
    (with_items_is c.args.self.now.table (put_mid start (start + n - start) table c.place.new.squares) (same_len_mid start (start + n - start) table c.place.new.squares (omega arith) ∙ omega arith))
    ∙ lines_all n s table _ start c.args.word c.place.result sends (omega arith) c.place_of-start.ensures.is
    (part_placed table start n (Some c.args.word) c.place.result c.place.new.squares within c.place.ensures)
    ∙ ap (λ l. place_all (lines_page n l) s c.args.word) c.deref_mut.ensures.value
