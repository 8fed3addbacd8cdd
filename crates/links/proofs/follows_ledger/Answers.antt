use Rattle.links.proofs.Ties.{follows}
use Rattle.links.proofs.follows_ledger.Goals as goal

pub returns : goal.returns
returns g c = follows _ _ _
