use Rattle.std.proofs.Common.{Result, Ok, Err, cond, ◌≡◌, ℕ, true, Some, sym, ap, ◌∙◌, arith}
use Rattle.curve.proofs.Loops.{filled_more, filled_all}
use Rattle.curve.specs.declared.refusal.Refusal.{Refusal}
use Rattle.curve.specs.declared.refusal.Refusal.TheVariants.{Seat}
use Rattle.exchange.specs.Sheet.{seat}
use Rattle.exchange.proofs.Places.{seated}
use Rattle.exchange.proofs.Rows.{seen_there, never_lacks, collected_all}
use Rattle.exchange.proofs.collect_row.Goals as goal

-- the seat that was tested is a seat of the page
seated_in : (n m k : ℕ) {r : Result (Unit {0}) Refusal} {u : Unit {0}} → n ≡ m → r ≡ cond (seat n k) (Ok tt) (Err Seat) → r ≡ Ok u → seat m k ≡ true
seated_in n m k same is ok = ap (λ j. seat j k) (sym same) ∙ seated n k is ok

pub returns-in_err-place : goal.returns-in_err-place
returns-in_err-place g c =
    let z : ⊥ =
    never_lacks g.X.Exchange.veiled (g.X.Exchange.page c.args.exchange.now) c.args.receiver (seated_in _ _ c.args.receiver c.seats-n.ensures c.test_seat.ensures c.in_ok-test_seat.was) c.loop-k.k c.in_err-place.field-0.0
    (omega arith)
    (sym c.in_err-place.was ∙ c.word_seen.ensures)
    (sym c.in_ok-test_row.was ∙ c.test_row.ensures)
    in absurd z

pub loop-k-preserved : goal.loop-k-preserved
loop-k-preserved g c =
    filled_more Some c.loop-k.row c.loop-k.invariant (omega arith) c.in_ok-place.field-0
    (sym
    (seen_there g.X.Exchange.veiled (g.X.Exchange.page c.args.exchange.now) c.args.receiver (seated_in _ _ c.args.receiver c.seats-n.ensures c.test_seat.ensures c.in_ok-test_seat.was) c.loop-k.k c.in_ok-place.field-0 (omega arith)
    (sym c.in_ok-place.was ∙ c.word_seen.ensures)))

pub returns : goal.returns
returns g c =
    let x = g.X.Exchange.page c.args.exchange.now in
    collected_all g.X.Exchange.veiled x c.args.receiver (seated_in _ _ c.args.receiver c.seats-n.ensures c.test_seat.ensures c.in_ok-test_seat.was) c.args.row.now c.loop-k.row (omega arith)
    (filled_all Some c.loop-k.row x.seats c.loop-k.invariant (omega arith) (omega arith))
