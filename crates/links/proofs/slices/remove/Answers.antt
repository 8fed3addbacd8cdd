use Rattle.links.proofs.Members.{kept_lost, taken_kept, absent_kept, taken_fewer}
use Rattle.links.proofs.Props.{opened}
use Rattle.links.proofs.slices.remove.Goals as goal

pub returns-in-Some-clause-lost : goal.returns-in-Some-clause-lost
returns-in-Some-clause-lost g c =
    let rows = c.args.rows.now in
    let heads = c.args.heads.now in
    kept_lost _ _ c.args.source.0 c.args.target.0
    (taken_kept rows c.remove_slot.new.rows heads _ _ c.args.source.0 c.args.target.0 c.in-Some.s (opened rows heads c.args.tally.now c.requires.sound) c.in-Some.ensures c.remove_slot.ensures.taken)

pub returns-in-Some-clause-counted : goal.returns-in-Some-clause-counted
returns-in-Some-clause-counted g c =
    let f = c.in-Some.ensures in
    λ _. taken_fewer c.args.rows.now c.remove_slot.new.rows c.in-Some.s.0 f.0 f.1.1 c.remove_slot.ensures.taken

pub returns-in-None-clause-lost : goal.returns-in-None-clause-lost
returns-in-None-clause-lost g c = kept_lost _ _ c.args.source.0 c.args.target.0 (absent_kept c.args.rows.now c.args.source.0 c.args.target.0 c.in-None.ensures)
