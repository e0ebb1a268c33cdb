use Rattle.std.proofs.Common.{not, cond, is_some, ◌∙◌, rules, tests, arith}
use Rattle.std.proofs.lemmas.Iterator.{YieldsList-from_slice, YieldsList-from_map}
use Rattle.std.proofs.lemmas.Iterator.Consumers.{sum_by_from_yields_List, fits_by_from_yields_list}
use Rattle.std.proofs.lemmas.List.Sums.{count_by-le-length}
use Rattle.exchange.proofs.Counts.{empties_is}
use Rattle.exchange.proofs.table.count_empty.Goals as goal

pub sum-requires-clause-fits : goal.sum-requires-clause-fits
sum-requires-clause-fits g c =
    fits_by_from_yields_list _ _ c.map.result _
    (YieldsList-from_map _ (λ o. cond (not (is_some o)) 1 0) (YieldsList-from_slice c.args.squares.now cc) c.map.ensures.closure (λ x r q k. search (rules, tests)))
    (omega (arith, count_by-le-length (λ o. not (is_some o)) c.args.squares.now, c.iter.ensures.bound))

pub returns-clause-sum : goal.returns-clause-sum
returns-clause-sum g c =
    sum_by_from_yields_List _ _ c.map.result _ c.sum.ensures.ran
    (YieldsList-from_map _ (λ o. cond (not (is_some o)) 1 0) (YieldsList-from_slice c.args.squares.now cc) c.map.ensures.closure (λ x r q k. search (rules, tests)))
    ∙ empties_is c.args.squares.now

pub returns-clause-few : goal.returns-clause-few
returns-clause-few g c =
    omega (arith, returns-clause-sum g c, empties_is c.args.squares.now, count_by-le-length (λ o. not (is_some o)) c.args.squares.now)
