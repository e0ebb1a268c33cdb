use Rattle.std.proofs.Common.{◌≡◌, ◌≤◌}
use Rattle.circuit.specs.Openings.{products}
use Rattle.circuit.proofs.openings.count_products.Given as goal

abbrev pub invariant-loop-code : goal.invariant-loop-code
invariant-loop-code l = (l.count ≡ products l.codes l.code-index) × (l.count ≤ l.code-index)
