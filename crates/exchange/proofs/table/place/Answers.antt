use Rattle.std.proofs.Common.{◌≡◌, Ok, set, zero-add, arith, length, replicate, is_some, true, false, Some, None, cond, sym, ap, ◌∙◌, rules, tests}
use Rattle.std.proofs.lemmas.Iterator.{cases_from_any, YieldsList-from_slice}
use Rattle.std.proofs.lemmas.List.Edits.{fill_from_more}
use lib.Seq.{paste}
use Rattle.curve.specs.declared.refusal.Refusal.TheVariants.{Placed}
use Rattle.exchange.specs.Sheet.{outcome}
use Rattle.exchange.proofs.Counts.{held_is, all_filled}
use Rattle.exchange.proofs.table.place.Goals as goal

pub returns-then-any : goal.returns-then-any
returns-then-any g c =
    ap (λ b. outcome (cond b (Some Placed) None) c.args.squares.now (replicate (length c.args.squares.now) (Some c.args.word)))
    (sym c.if-any.true
    ∙ held_is c.args.squares.now _
    (cases_from_any _ _ _ (λ o. is_some o ≡ true) (λ o. is_some o ≡ false) c.any.ensures.ran (YieldsList-from_slice _ c.iter.ensures.rest) (λ x q k. search (rules, tests))
    (λ x q k. search (rules, tests))))

pub loop-square-preserved : goal.loop-square-preserved
loop-square-preserved g c =
    ap (λ l. set l c.loop-square.square-index (Some c.args.word)) c.loop-square.invariant
    ∙ ap (λ i. set (paste c.args.squares.now 0 (replicate c.loop-square.square-index (Some c.args.word)) c.loop-square.square-index) i (Some c.args.word)) (sym (zero-add c.loop-square.square-index))
    ∙ fill_from_more _ 0 c.loop-square.square-index (Some c.args.word) (omega (arith, c.loop-square-test.true))

pub returns : goal.returns
returns g c =
    ap (λ l. (Ok tt, l)) (all_filled c.args.squares.now c.loop-square.square-index c.loop-square.square-items (Some c.args.word) c.loop-square.invariant (omega arith))
    ∙ ap (λ b. outcome (cond b (Some Placed) None) c.args.squares.now (replicate (length c.args.squares.now) (Some c.args.word)))
    (sym c.if-any.false
    ∙ held_is c.args.squares.now _
    (cases_from_any _ _ _ (λ o. is_some o ≡ true) (λ o. is_some o ≡ false) c.any.ensures.ran (YieldsList-from_slice _ c.iter.ensures.rest) (λ x q k. search (rules, tests))
    (λ x q k. search (rules, tests))))
