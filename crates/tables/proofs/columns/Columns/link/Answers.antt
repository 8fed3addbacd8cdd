use Rattle.std.proofs.Common.{◌≡◌, length, ap, ◌∙◌, subst, arith, rules}
use Rattle.links.specs.Table.{Leads, links, link}
use Rattle.links.specs.Links.{Gained}
use Rattle.order.specs.Tables.{Ordered}
use Rattle.order.proofs.Stays.{keeps_order}
use Rattle.tables.specs.Graph.{size, linked, ranks_of, order_of}
use Rattle.tables.proofs.Lends.{over, kept_back}
use Rattle.tables.proofs.columns.Columns.link.Goals as goal

pub insert-requires-clause-fresh : goal.insert-requires-clause-fresh
insert-requires-clause-fresh g c = λ h. c.requires.fresh (subst (λ rows. Leads (links rows) c.args.u.0 c.args.v.0) (c.as_mut_slice-rows.ensures.value ∙ ap (λ v. v.items) c.admit.ensures.links.0) h)

pub invariant_of-self-clause-kept : goal.invariant_of-self-clause-kept
invariant_of-self-clause-kept g c = λ _. kept_back c.admit.new.self.tables.now.links c.admit.new.self.tables.now.heads c.insert.new.rows c.insert.new.heads c.insert.new.tally (search rules) (search rules) c.insert.ensures.sound

pub invariant_of-self-clause-ordered : goal.invariant_of-self-clause-ordered
invariant_of-self-clause-ordered g c =
    let mid = c.admit.new.self in
    let last = c.insert.new.rows in
    let e = c.in_ok-admit.ensures.answer in
    let long : length last ≡ mid.tables.now.links.len = search rules in
    let gained = subst (λ rows. Gained (links rows) (links last) (link c.args.u c.args.v c.args.passage)) c.as_mut_slice-rows.ensures.value c.insert.ensures.gained in
    λ some. over mid.tables.now.links last (λ rows. Ordered (size mid) (ranks_of mid) (order_of mid) (links rows)) long
    ((keeps_order g.row.S.Denot).gains (size mid) (ranks_of mid) (order_of mid) (linked mid) _ _ (mid.ordered some) gained (omega (arith, c.admit.ensures.space.size, c.requires.ends.0)) (omega (arith, c.admit.ensures.space.size, c.requires.ends.1)) e.rises)
