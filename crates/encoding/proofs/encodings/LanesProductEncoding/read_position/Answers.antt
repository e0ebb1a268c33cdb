use Rattle.std.proofs.Common.{rules}
use Rattle.encoding.specs.Sound.{doubled_low, doubled_out}
use Rattle.encoding.proofs.encodings.LanesProductEncoding.read_position.Goals as goal

pub overflow_mul-result : goal.overflow_mul-result
overflow_mul-result c = let low = doubled_low c.args.degree c.args.lane _ c.position-position.ensures c.if-position-degree.true in search rules

pub returns-else-position-degree : goal.returns-else-position-degree
returns-else-position-degree c = doubled_out c.args.degree c.args.lane _ c.position-position.ensures c.if-position-degree.false
