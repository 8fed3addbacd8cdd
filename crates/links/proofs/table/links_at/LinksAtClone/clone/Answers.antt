use Rattle.links.proofs.Rests.{same_walk}
use Rattle.links.proofs.table.links_at.LinksAtClone.clone.Goals as goal

pub returns : goal.returns
returns g c = record { cases = same_walk c.args.self.now _ }
