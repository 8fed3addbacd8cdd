use Rattle.std.proofs.Common.{ap}
use Rattle.order.specs.Tables.{is_set}
use Rattle.order.proofs.marks.is_marked.Goals as goal

pub returns : goal.returns
returns c = ap (is_set c.args.marks.now) c.index.ensures
