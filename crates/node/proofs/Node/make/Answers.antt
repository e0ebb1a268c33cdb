use Rattle.std.proofs.Common.{◌≡◌, Ok, [], length, None, sym, refl, ap, ◌∙◌}
use Rattle.circuit.specs.Circuits.{circuit_of}
use Rattle.circuit.specs.Gates.{setting}
use Rattle.curve.specs.Curve.{K, word}
use Rattle.curve.proofs.Theory.{tests_passed}
use Rattle.ring.specs.Model.{degree}
use Rattle.rules.specs.Elements.{known}
use Rattle.node.specs.Nodes.{lengths}
use Rattle.node.specs.Seats.{keeps}
use Rattle.node.specs.Tables.{tables}
use Rattle.node.proofs.Making.{work_fits, planned_codes, first_worked}
use Rattle.node.proofs.Node.make.Goals as goal

pub returns : goal.returns
returns g c =
    let G = g.R.Ring in
    let codes = c.args.codes.now in
    let inputs = c.args.lent.inputs.now in
    let constants = c.args.lent.constants.now in
    let passed = tests_passed _ c.in_ok-making_tests.ensures in
    let S = setting (degree G.shape) (length inputs) (length constants) g.M.Methods.method in
    let planned : circuit_of S codes ≡ Ok c.in_ok-circuit.circuit =
    ap (λ d. circuit_of (setting d (length inputs) (length constants) g.M.Methods.method) codes) (sym (c.DEGREE.ensures ∙ g.met.R.Ring.counts.degree)) ∙ c.in_ok-circuit.ensures
    in
    record {
      taken = passed;
      seats = refl;
      threshold = refl;
      number = refl;
      planned = planned;
      keeps = c.in_ok-seat.ensures ∙ ap (λ n. keeps [] n None) (ap length c.openings.ensures.value);
      worked =
          first_worked (K G) (known G.shape g.M.Methods.method constants) c.in_ok-circuit.circuit.layouts (word G inputs) codes _
          (planned_codes S codes _ planned) _ _ _ c.stage-first.result c.clear.ensures (work_fits G.points.count c.args.seats c.args.threshold c.args.number codes (lengths (tables c.args.lent) c.args.work.now) passed) c.stage-first.ensures c.settle.ensures;
    }
