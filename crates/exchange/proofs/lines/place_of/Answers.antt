use Rattle.std.proofs.Common.{sub-one, arith}
use Rattle.std.proofs.lemmas.Bool.Decides.{nat_tests}
use Rattle.exchange.proofs.Places.{row_within}
use Rattle.exchange.proofs.lines.place_of.Goals as goal

pub returns-clause-inside : goal.returns-clause-inside
returns-clause-inside c =
    let low = sub-one c.args.sender in
    let row = row_within c.args.n c.args.sender c.requires.sends in
    grind (arith, nat_tests)
