use Rattle.std.proofs.Common.{◌≡◌, length, sym, subst, rules}
use Rattle.std.proofs.lemmas.List.{with_items_is}
use Rattle.links.specs.Table.{Leads, links}
use Rattle.links.proofs.Lends.{kept_lent, kept_back}
use Rattle.links.proofs.table.LinkTable.insert.Goals as goal

pub insert-requires-clause-sound : goal.insert-requires-clause-sound
insert-requires-clause-sound g c = kept_lent c.args.self.now _ _ c.as_mut_slice-rows.ensures.value c.as_mut_slice-heads.ensures.value

pub invariant_of-self : goal.invariant_of-self
invariant_of-self g c = record { kept = kept_back c.args.self.now c.insert.new.rows c.insert.new.heads c.insert.new.tally (search rules) (search rules) c.insert.ensures.sound }

pub insert-requires-clause-fresh : goal.insert-requires-clause-fresh
insert-requires-clause-fresh g c = subst (λ rows. Leads (links rows) c.args.source.0 c.args.target.0 → ⊥) (sym c.as_mut_slice-rows.ensures.value) c.requires.fresh

pub returns-clause-gained : goal.returns-clause-gained
returns-clause-gained g c =
    let long : length c.insert.new.rows ≡ c.args.self.now.rows.len = search rules in
    rw (with_items_is c.args.self.now.rows c.insert.new.rows long) (rw c.as_mut_slice-rows.ensures.value at c.insert.ensures.gained)

pub returns-clause-counted : goal.returns-clause-counted
returns-clause-counted g c =
    let long : length c.insert.new.rows ≡ c.args.self.now.rows.len = search rules in
    rw (with_items_is c.args.self.now.rows c.insert.new.rows long) (rw c.as_mut_slice-rows.ensures.value at c.insert.ensures.counted)
