use Rattle.std.proofs.Common.{sym, ap, subst, arith}
use Rattle.links.specs.Table.{Leads}
use Rattle.links.specs.LinkTable.{held}
use Rattle.order.specs.Graph.{size, linked, ranks_of, order_of}
use Rattle.order.proofs.Stays.{keeps_order}
use Rattle.order.proofs.graph.Graph.link.Goals as goal

pub insert-requires-clause-fresh : goal.insert-requires-clause-fresh
insert-requires-clause-fresh g c = subst (λ xs. Leads xs c.args.u.0 c.args.v.0 → ⊥) (sym (ap held c.admit.ensures.links)) c.requires.fresh

pub invariant_of-self-clause-ordered : goal.invariant_of-self-clause-ordered
invariant_of-self-clause-ordered g c =
    let b = c.admit.new.self in
    let e = c.in_ok-admit.ensures.answer in
    (keeps_order g.row.R.Denot).gains (size b) (ranks_of b) (order_of b) (linked b) _ _ b.ordered c.insert.ensures.gained (omega (arith, c.admit.ensures.space.size, c.requires.ends.0)) (omega (arith, c.admit.ensures.space.size, c.requires.ends.1)) e.rises
