use Rattle.std.proofs.Common.{suc, ◌<◌, Err, sym, ap, ◌∙◌, arith, is_some, inl, inr}
use Rattle.std.proofs.lemmas.Bool.{cases_eq}
use Rattle.std.proofs.lemmas.Result.{err_from_is_err_and}
use Rattle.exchange.specs.Sheet.{seen}
use Rattle.exchange.proofs.Rows.{row_there, there_at, lacks_at}
use Rattle.exchange.proofs.test_row.Goals as goal

pub returns-in_err-word_seen : goal.returns-in_err-word_seen
returns-in_err-word_seen g c =
    let p = err_from_is_err_and c.from_residual.result c.from_residual.ensures.1 in
    p.1
    ∙ ap Err p.2
    ∙ lacks_at g.X.Exchange.veiled (g.X.Exchange.page c.args.exchange.now) c.args.receiver c.requires c.loop-k.k c.in_err-word_seen.field-0.0
    (omega arith)
    (omega arith)
    (sym c.in_err-word_seen.was ∙ c.word_seen.ensures)

pub returns-in_ok-word_seen : goal.returns-in_ok-word_seen
returns-in_ok-word_seen g c =
    row_there g.X.Exchange.veiled (g.X.Exchange.page c.args.exchange.now) c.args.receiver c.requires
    (λ k below.
    elim (cases_eq (suc k) c.loop-k.k) [
      | inl last ↦
          ap (λ j. is_some (seen g.X.Exchange.veiled (g.X.Exchange.page c.args.exchange.now) c.args.receiver j)) last
          ∙ there_at g.X.Exchange.veiled (g.X.Exchange.page c.args.exchange.now) c.args.receiver c.requires c.loop-k.k _ (omega arith) (omega arith) (sym c.in_ok-word_seen.was ∙ c.word_seen.ensures)
      | inr other ↦ let under : suc k < c.loop-k.k = omega arith in c.loop-k.invariant k under
    ])
