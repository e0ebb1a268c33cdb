use Rattle.std.proofs.Common.{rules, ◌+◌, ◌*◌, ◌%◌, ap, ◌∙◌, arith, zero-add}
use Rattle.std.proofs.lemmas.Iterator.{YieldsList-from_slice, YieldsList-from_zip}
use Rattle.std.proofs.lemmas.Iterator.Consumers.{fold_from_yields_List}
use borrow.Author.Tests.{tests}
use Rattle.encoding.specs.Encodings.{dot}
use Rattle.encoding.specs.Laying.{dot_by_fold}
use Rattle.encoding.proofs.encodings.dot_of.Goals as goal

pub returns : goal.returns
returns g c =
    let q = g.R.Ring.shape.q in
    fold_from_yields_List _ (λ sum p. (sum + (p.0 * p.1) % q) % q) 0 c.fold.result c.fold.ensures.ran
    (YieldsList-from_zip (YieldsList-from_slice c.args.left.now (search rules)) (YieldsList-from_slice c.args.right.now (search rules)))
    (λ sum x r f k. search (rules, tests))
    ∙ dot_by_fold q 0 c.args.left.now c.args.right.now (omega (arith, g.R.Ring.shape.two))
    ∙ ap (λ n. n % q) (zero-add (dot c.args.left.now c.args.right.now))
