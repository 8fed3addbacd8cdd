use Rattle.std.proofs.Common.{◌≡◌, length, subst, rules}
use Rattle.links.specs.Table.{links}
use Rattle.links.specs.Links.{Shut}
use Rattle.order.specs.Tables.{Ordered}
use Rattle.order.proofs.Stays.{keeps_order}
use Rattle.tables.specs.Graph.{size, ranks_of, order_of}
use Rattle.tables.proofs.Lends.{over, kept_back}
use Rattle.tables.proofs.columns.Columns.unlink_entering.Goals as goal

pub invariant_of-self-clause-kept : goal.invariant_of-self-clause-kept
invariant_of-self-clause-kept g c =
    λ _. kept_back c.args.self.now.tables.now.links c.args.self.now.tables.now.heads c.remove_entering.new.rows c.remove_entering.new.heads c.remove_entering.new.tally (search rules) (search rules) c.remove_entering.ensures.sound

pub invariant_of-self-clause-ordered : goal.invariant_of-self-clause-ordered
invariant_of-self-clause-ordered g c =
    let old = c.args.self.now in
    let last = c.remove_entering.new.rows in
    let long : length last ≡ old.tables.now.links.len = search rules in
    λ some. over old.tables.now.links last (λ rows. Ordered (size old) (ranks_of old) (order_of old) (links rows)) long
    ((keeps_order g.row.S.Denot).shuts _ _ _ _ _ c.args.p.0 (old.ordered some) (subst (λ rows. Shut (links rows) (links last) c.args.p.0) c.as_mut_slice-rows.ensures.value c.remove_entering.ensures.shut))
