use Rattle.std.proofs.Common.{◌≡◌, List, length, sym, subst, arith, rules}
use Rattle.links.specs.declared.row.Link.{Link}
use Rattle.links.specs.Table.{links}
use Rattle.order.specs.Tables.{Ordered}
use Rattle.order.proofs.Stays.{keeps_order}
use Rattle.tables.proofs.Lends.{over, kept_back}
use Rattle.owned.proofs.owner.OwnedTables.new.Goals as goal

pub invariant_of-result-clause-kept : goal.invariant_of-result-clause-kept
invariant_of-result-clause-kept g c =
    let last = c.reset-tally.new in
    kept_back c.args.links c.args.heads last.rows last.heads c.reset-tally.result (search rules) (search rules) c.reset-tally.ensures.sound

pub invariant_of-result-clause-ordered : goal.invariant_of-result-clause-ordered
invariant_of-result-clause-ordered g c =
    let rows = c.reset-tally.new.rows in
    let S = g.row.S.Denot in
    let none : length rows ≡ c.args.links.len = search rules in
    over c.args.links rows (λ xs. Ordered 0 c.args.ranks.items c.args.order.items (links xs)) none
    (subst (λ (ls : List (Link S)). Ordered 0 c.args.ranks.items c.args.order.items ls) (sym c.reset-tally.ensures.empty)
    ((keeps_order S).first 0 c.args.ranks.items c.args.order.items (omega arith) (omega arith) (omega arith) (λ p l. absurd (omega arith)) (λ r l. absurd (omega arith))))
