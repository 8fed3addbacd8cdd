use Rattle.std.proofs.Common.{◌≡◌, length, rules}
use Rattle.std.proofs.lemmas.List.{with_items_is}
use Rattle.links.proofs.Lends.{kept_lent, kept_back}
use Rattle.links.proofs.table.LinkTable.remove_entering.Goals as goal

pub remove_entering-requires-clause-sound : goal.remove_entering-requires-clause-sound
remove_entering-requires-clause-sound g c = kept_lent c.args.self.now _ _ c.as_mut_slice-rows.ensures.value c.as_mut_slice-heads.ensures.value

pub invariant_of-self : goal.invariant_of-self
invariant_of-self g c = record { kept = kept_back c.args.self.now c.remove_entering.new.rows c.remove_entering.new.heads c.remove_entering.new.tally (search rules) (search rules) c.remove_entering.ensures.sound }

pub returns-clause-shut : goal.returns-clause-shut
returns-clause-shut g c =
    let long : length c.remove_entering.new.rows ≡ c.args.self.now.rows.len = search rules in
    rw (with_items_is c.args.self.now.rows c.remove_entering.new.rows long) (rw c.as_mut_slice-rows.ensures.value at c.remove_entering.ensures.shut)

pub returns-clause-counted : goal.returns-clause-counted
returns-clause-counted g c =
    let long : length c.remove_entering.new.rows ≡ c.args.self.now.rows.len = search rules in
    rw (with_items_is c.args.self.now.rows c.remove_entering.new.rows long) (rw c.as_mut_slice-rows.ensures.value at c.remove_entering.ensures.counted)
