use Rattle.links.proofs.Lends.{kept_lent}
use Rattle.links.proofs.table.LinkTable.has_leaving.Goals as goal

pub leaves-requires-clause-sound : goal.leaves-requires-clause-sound
leaves-requires-clause-sound g c = kept_lent c.args.self.now _ _ c.deref.ensures.value c.deref-2.ensures.value

pub returns : goal.returns
returns g c = rw c.deref.ensures.value at c.leaves.ensures
