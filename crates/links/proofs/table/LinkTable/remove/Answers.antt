use Rattle.std.proofs.Common.{◌≡◌, length, rules}
use Rattle.std.proofs.lemmas.List.{with_items_is}
use Rattle.links.proofs.Lends.{kept_lent, kept_back}
use Rattle.links.proofs.table.LinkTable.remove.Goals as goal

pub remove-requires-clause-sound : goal.remove-requires-clause-sound
remove-requires-clause-sound g c = kept_lent c.args.self.now _ _ c.as_mut_slice-rows.ensures.value c.as_mut_slice-heads.ensures.value

pub invariant_of-self : goal.invariant_of-self
invariant_of-self g c = record { kept = kept_back c.args.self.now c.remove.new.rows c.remove.new.heads c.remove.new.tally (search rules) (search rules) c.remove.ensures.sound }

pub returns-clause-lost : goal.returns-clause-lost
returns-clause-lost g c =
    let long : length c.remove.new.rows ≡ c.args.self.now.rows.len = search rules in
    rw (with_items_is c.args.self.now.rows c.remove.new.rows long) (rw c.as_mut_slice-rows.ensures.value at c.remove.ensures.lost)

pub returns-clause-counted : goal.returns-clause-counted
returns-clause-counted g c =
    let long : length c.remove.new.rows ≡ c.args.self.now.rows.len = search rules in
    rw (with_items_is c.args.self.now.rows c.remove.new.rows long) (rw c.as_mut_slice-rows.ensures.value at c.remove.ensures.counted)

pub returns-clause-told : goal.returns-clause-told
returns-clause-told g c = rw c.as_mut_slice-rows.ensures.value at c.remove.ensures.told
