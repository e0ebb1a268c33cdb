use Rattle.std.proofs.Common.{rules}
use Rattle.circuit.proofs.gates.check_gate.Goals as goal

pub returns-in-In : goal.returns-in-In
returns-in-In g c = search (rules, c.check_in.ensures g.M.Methods.method)

pub returns-in-Add : goal.returns-in-Add
returns-in-Add g c = search (rules, c.check_sum.ensures g.M.Methods.method)

pub returns-in-Scale : goal.returns-in-Scale
returns-in-Scale g c = search (rules, c.check_constant.ensures g.M.Methods.method)

pub returns-in-Place : goal.returns-in-Place
returns-in-Place g c = search (rules, c.check_place.ensures g.M.Methods.method)

pub returns-in-Out : goal.returns-in-Out
returns-in-Out g c = search (rules, c.check_out.ensures g.M.Methods.method)
