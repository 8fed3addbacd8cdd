use Rattle.std.proofs.Common.{◌+◌, ◌∙◌, arith, rules, length-set}
use Rattle.links.specs.Table.{Sound, Put, link}
use Rattle.links.proofs.Members.{put_gained}
use Rattle.links.proofs.Holding.{used_set, used_spliced}
use Rattle.links.proofs.Props.{opened}
use Rattle.links.proofs.Whole.{has_room, hung}
use Rattle.links.proofs.slices.insert.Given.{Over}
use Rattle.links.proofs.slices.insert.Goals as goal
use Rattle.links.proofs.slices.insert.Goals.{After-splice-2}

pub seek-a-requires-clause-sorted : goal.seek-a-requires-clause-sorted
seek-a-requires-clause-sorted g c = (opened c.args.rows.now c.args.heads.now c.args.tally.now c.requires.sound).leaving

pub seek-b-requires-clause-sorted : goal.seek-b-requires-clause-sorted
seek-b-requires-clause-sorted g c = (opened c.args.rows.now c.args.heads.now c.args.tally.now c.requires.sound).entering

pub below-free-requires : goal.below-free-requires
below-free-requires g c =
    let room = has_room c.args.rows.now c.args.heads.now c.args.tally.now c.requires.sound c.requires.room in
    let top = (opened c.args.rows.now c.args.heads.now c.args.tally.now c.requires.sound).unused.top room.0 in
    (room.1, λ e. omega (arith, top.1))

pub offset_bounds-rows-s : goal.offset_bounds-rows-s
offset_bounds-rows-s g c =
    let h = (has_room c.args.rows.now c.args.heads.now c.args.tally.now c.requires.sound c.requires.room).1 in
    search rules

pub bounds-rows-s : goal.bounds-rows-s
bounds-rows-s g c =
    let h = (has_room c.args.rows.now c.args.heads.now c.args.tally.now c.requires.sound c.requires.room).1 in
    search rules

pub splice-requires-clause-behind : goal.splice-requires-clause-behind
splice-requires-clause-behind g c = used_set c.args.rows.now c.args.tally.now.free.0 _ _ c.seek-a.result.prev c.seek-a.ensures.behind

pub splice-requires-2-clause-behind : goal.splice-requires-2-clause-behind
splice-requires-2-clause-behind g c =
    used_spliced _ _ c.splice.new.rows _ _ _ _ _ c.seek-b.result.prev c.splice.ensures c.splice.auto.rows (used_set c.args.rows.now c.args.tally.now.free.0 _ _ c.seek-b.result.prev c.seek-b.ensures.behind)

pub overflow_add-tally : goal.overflow_add-tally
overflow_add-tally g c =
    let h = (has_room c.args.rows.now c.args.heads.now c.args.tally.now c.requires.sound c.requires.room).0 in
    search rules

-- the table once the link hangs on both threads
made : (g : Over) (c : After-splice-2 g) → Sound c.splice-2.new.rows c.splice-2.new.heads (c.args.tally.now.count + 1) c.below-free.result.0
    × Put c.args.rows.now c.splice-2.new.rows c.args.tally.now.free.0 (link c.args.source c.args.target c.args.passage)
made g c =
    let r = c.requires in
    let h = hung c.args.rows.now c.args.heads.now c.args.tally.now r.sound c.splice.new.rows c.splice-2.new.rows c.splice.new.heads c.splice-2.new.heads c.args.source c.args.target c.args.passage c.seek-a.result c.seek-b.result
    r.from r.to r.room r.fresh c.seek-a.ensures.gap c.seek-b.ensures.gap (c.splice.auto.rows ∙ length-set _ _ _) c.splice.auto.heads c.splice-2.auto.rows c.splice-2.auto.heads c.splice.ensures c.splice-2.ensures in
    rw c.below-free.ensures h

pub returns-clause-sound : goal.returns-clause-sound
returns-clause-sound g c = ∣ (made g (goal.at.returns-clause-sound g c).After-splice-2).0 ∣₁

pub returns-clause-gained : goal.returns-clause-gained
returns-clause-gained g c = put_gained c.args.rows.now c.splice-2.new.rows c.args.tally.now.free.0 _ (made g (goal.at.returns-clause-gained g c).After-splice-2).1

pub returns-clause-counted : goal.returns-clause-counted
returns-clause-counted g c =
    omega (arith, (made g (goal.at.returns-clause-counted g c).After-splice-2).0.counted, (opened c.args.rows.now c.args.heads.now c.args.tally.now c.requires.sound).counted)
