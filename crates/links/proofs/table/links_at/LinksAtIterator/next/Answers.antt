use Rattle.links.specs.LinksAt.{rest}
use Rattle.links.proofs.Onward.{progress}
use Rattle.links.proofs.Rests.{rest_none, rest_some}
use Rattle.links.proofs.table.links_at.LinksAtIterator.next.Goals as goal

pub returns-in_err-link-clause-steps : goal.returns-in_err-link-clause-steps
returns-in_err-link-clause-steps g c = let e = rest_none c.args.self.now c.in_err-link.ensures in rw c.from_residual.ensures (e, e)

pub returns-clause-steps : goal.returns-clause-steps
returns-clause-steps g c = rest_some c.args.self.now c.in_ok-link.link c.in_ok-link.heads c.on-self.result _ c.in_ok-link.ensures c.on-self.ensures

pub returns-clause-goes : goal.returns-clause-goes
returns-clause-goes g c = progress rest _ _ c.in_ok-link.link _ tt (returns-clause-steps g c)
