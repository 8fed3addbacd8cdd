use Rattle.std.proofs.Common.{refl, arith}
use Rattle.links.specs.Table.{links}
use Rattle.links.proofs.Members.{kept_lost, taken_kept}
use Rattle.links.proofs.Props.{opened}
use Rattle.links.proofs.Shuts.{thinned_more, thinned_shut, thinned_number}
use Rattle.links.proofs.slices.remove_entering.Goals as goal

pub loop-s-preserved : goal.loop-s-preserved
loop-s-preserved g c =
    let rows = c.loop-s.rows in
    let heads = c.loop-s.heads in
    let e = c.in-Some.ensures in
    let p = c.args.p.0 in
    let was = c.loop-s.invariant in
    let lost = kept_lost _ _ e.0.source.0 p (taken_kept rows c.remove_slot.new.rows heads _ _ e.0.source.0 p c.in-Some.s (opened rows heads c.loop-s.tally was.sound) (e.0, e.1, refl, e.2) c.remove_slot.ensures.taken) in
    record { sound = c.remove_slot.ensures.sound; thinned = thinned_more _ _ p (links c.remove_slot.new.rows) e.0.source.0 was.thinned lost }

pub returns-clause-shut : goal.returns-clause-shut
returns-clause-shut g c = thinned_shut _ _ c.args.p.0 c.loop-s.invariant.thinned (λ m h e. c.in_default.ensures m h e (omega arith))

pub returns-clause-counted : goal.returns-clause-counted
returns-clause-counted g c = thinned_number _ _ c.args.p.0 c.loop-s.invariant.thinned (λ m h e. c.in_default.ensures m h e (omega arith))
