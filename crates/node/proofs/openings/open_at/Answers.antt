use Rattle.node.proofs.Opening.{value_opened}
use Rattle.node.proofs.openings.open_at.Goals as goal

pub returns-in-Ok : goal.returns-in-Ok
returns-in-Ok g c =
    value_opened g.R.Ring c.args.circuit.now.layouts c.args.threshold c.args.row.now c.args.opening
    c.saturating_mul-degree.result c.thresholds.result c.thresholds.ensures c.saturating_mul-degree.ensures
    _ c.in-Ok.value c.in-Ok.is c.in_ok-value.ensures c.taken.result c.taken.ensures
