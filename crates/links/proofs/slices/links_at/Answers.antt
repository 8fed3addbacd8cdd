use Rattle.links.proofs.Onward.{climbing_of}
use Rattle.links.proofs.Props.{opened}
use Rattle.links.proofs.Rests.{rest_all}
use Rattle.links.proofs.slices.links_at.Goals as goal

pub invariant_of-result : goal.invariant_of-result
invariant_of-result g c = record { climbing = climbing_of c.args.side c.args.rows.now c.args.heads.now _ _ (opened c.args.rows.now c.args.heads.now c.args.tally c.requires.sound) }

pub returns : goal.returns
returns g c = rest_all _ c.args.heads.now _ _ (opened c.args.rows.now c.args.heads.now c.args.tally c.requires.sound) c.args.p.0 c.requires.inside c.head-at.ensures
