use Rattle.std.proofs.Common.{◌-◌, set, arith, rules, ◌<◌, length}
use Rattle.links.specs.declared.row.LinkRow.TheVariants.{Unused}
use Rattle.links.specs.Table.{Sound, Taken}
use Rattle.links.proofs.Holding.{got, used_spliced}
use Rattle.links.proofs.Props.{opened}
use Rattle.links.proofs.Whole.{ends, some_held, unhung}
use Rattle.links.proofs.slices.remove_slot.Given.{Over}
use Rattle.links.proofs.slices.remove_slot.Goals as goal
use Rattle.links.proofs.slices.remove_slot.Goals.{In-Some, After-splice-2}

pub seek-a-requires-clause-sorted : goal.seek-a-requires-clause-sorted
seek-a-requires-clause-sorted g c = (opened c.args.rows.now c.args.heads.now c.args.tally.now c.requires.sound).leaving

pub seek-b-requires-clause-sorted : goal.seek-b-requires-clause-sorted
seek-b-requires-clause-sorted g c = (opened c.args.rows.now c.args.heads.now c.args.tally.now c.requires.sound).entering

-- the link leads between places
inside : (g : Over) (c : In-Some g) → let n = length c.args.heads.now in (c.in-Some.link.source.0 < n) × (c.in-Some.link.target.0 < n)
inside g c = ends c.args.rows.now c.args.heads.now c.args.tally.now c.requires.sound c.args.s.0 c.in-Some.link c.in-Some.rest c.in-Some.ensures

pub seek-a-requires-clause-inside : goal.seek-a-requires-clause-inside
seek-a-requires-clause-inside g c = (inside g (goal.at.seek-a-requires-clause-inside g c).In-Some).0

pub seek-b-requires-clause-inside : goal.seek-b-requires-clause-inside
seek-b-requires-clause-inside g c = (inside g (goal.at.seek-b-requires-clause-inside g c).In-Some).1

pub splice-requires-clause-inside : goal.splice-requires-clause-inside
splice-requires-clause-inside g c = (inside g (goal.at.splice-requires-clause-inside g c).In-Some).0

pub splice-requires-2-clause-inside : goal.splice-requires-2-clause-inside
splice-requires-2-clause-inside g c = omega (arith, (inside g (goal.at.splice-requires-2-clause-inside g c).In-Some).1, c.splice.auto.heads)

pub splice-requires-2-clause-behind : goal.splice-requires-2-clause-behind
splice-requires-2-clause-behind g c = used_spliced _ _ c.splice.new.rows _ _ _ _ _ c.seek-b.result.prev c.splice.ensures c.splice.auto.rows c.seek-b.ensures.behind

pub overflow_sub-under : goal.overflow_sub-under
overflow_sub-under g c = (some_held c.args.rows.now c.args.heads.now c.args.tally.now c.requires.sound c.args.s.0 c.in-Some.link c.in-Some.rest c.in-Some.ensures).1

pub overflow_sub-tally : goal.overflow_sub-tally
overflow_sub-tally g c = (some_held c.args.rows.now c.args.heads.now c.args.tally.now c.requires.sound c.args.s.0 c.in-Some.link c.in-Some.rest c.in-Some.ensures).0

pub offset_bounds-rows-s : goal.offset_bounds-rows-s
offset_bounds-rows-s g c =
    let h = (got c.args.rows.now c.args.s.0 c.in-Some.link c.in-Some.rest c.in-Some.ensures).here in
    let here : c.args.s.0 < length c.splice-2.new.rows = omega (arith, h, c.splice.auto.rows, c.splice-2.auto.rows) in
    search rules

-- the table once the link hangs on neither thread
left : (g : Over) (c : After-splice-2 g) → let t = c.args.tally.now in
    let rows = set c.splice-2.new.rows c.args.s.0 (Unused (length c.args.rows.now - t.count) t.free) in Sound rows c.splice-2.new.heads (t.count - 1) c.args.s.0 × Taken c.args.rows.now rows c.args.s.0
left g c =
    unhung c.args.rows.now c.args.heads.now c.args.tally.now c.requires.sound c.args.s.0 c.in-Some.link c.in-Some.rest c.in-Some.ensures c.splice.new.rows c.splice-2.new.rows c.splice.new.heads c.splice-2.new.heads
    c.seek-a.result c.seek-b.result c.seek-a.ensures.gap c.seek-b.ensures.gap c.splice.auto.rows c.splice.auto.heads c.splice-2.auto.rows c.splice-2.auto.heads c.splice.ensures c.splice-2.ensures

pub returns-clause-sound : goal.returns-clause-sound
returns-clause-sound g c = ∣ (left g (goal.at.returns-clause-sound g c).After-splice-2).0 ∣₁

pub returns-clause-taken : goal.returns-clause-taken
returns-clause-taken g c = (left g (goal.at.returns-clause-taken g c).After-splice-2).1

pub returns-clause-counted : goal.returns-clause-counted
returns-clause-counted g c = omega (arith, (some_held c.args.rows.now c.args.heads.now c.args.tally.now c.requires.sound c.args.s.0 c.in-Some.link c.in-Some.rest c.in-Some.ensures).0)
