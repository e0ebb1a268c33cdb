use Rattle.encoding.proofs.layout.+lacks_two.Given as goal

abbrev pub decreases-lacks_two : goal.decreases-lacks_two
decreases-lacks_two l = l.number
