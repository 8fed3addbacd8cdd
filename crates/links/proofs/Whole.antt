-- A link table before a call, and after it. Assumes nothing.
use Rattle.std.proofs.Common.{◌≡◌, ℕ, ◌+◌, ◌-◌, ◌<◌, ◌≤◌, List, length, set, Some, refl, subst, subst₂, arith, length-set}
use Rattle.std.specs.List.{slice_get, ContainsAt as Has}
use Rattle.paths.specs.Ledger.{OneEach}
use Rattle.links.specs.Theory.{arrows}
use Rattle.links.proofs.Ends.{one_link, inside}
use Rattle.links.proofs.Ties.{follows}
use Rattle.common.specs.declared.number.PlaceNumber.{PlaceNumber}
use Rattle.links.specs.declared.row.Link.{Link}
use Rattle.links.specs.declared.row.LinkRow.{LinkRow}
use Rattle.links.specs.declared.row.Heads.{Heads}
use Rattle.links.specs.declared.row.Tally.{Tally}
use Rattle.links.specs.declared.row.LinkRow.TheVariants.{Used, Unused}
use Rattle.links.specs.declared.row.Side.TheVariants.{Leaving, Entering}
use Rattle.links.specs.declared.threads.Spot.{Spot}
use Rattle.links.specs.declared.table.LinkTable.{LinkTable}
use Rattle.links.specs.Threads.{Gap}
use Rattle.links.specs.Table.{at, view, number_or, link, links, Leads, Spliced, Sound, Kept, Put, Taken, linked}
use Rattle.links.specs.LinkTable.{held, places, capacity}
use Rattle.links.proofs.Props.{opened}
use Rattle.links.proofs.Holding.{got}
use Rattle.links.proofs.Held.{somes_take}
use Rattle.links.proofs.Removes.{removed}
use Rattle.links.proofs.Inserts.{top_row, fresh_row, inserted}

module _ {R : Type 0} (rows : List (LinkRow R)) (heads : List Heads) (tally : Tally) (kept : Kept rows heads tally) where
  whole : Sound rows heads tally.count tally.free.0
  whole = opened rows heads tally kept

  -- where there is room, the topmost unused row is there
  pub has_room : length (links rows) < length rows → (tally.count < length rows) × (tally.free.0 < length rows)
  has_room room = top_row rows heads _ _ whole room

  -- a link put into the topmost unused row, and then hung on both threads
  pub hung : (b d : List (LinkRow R)) (hb hd : List Heads) (u v : PlaceNumber) (r : R) (x y : Spot) →
      u.0 < length heads → v.0 < length heads → length (links rows) < length rows → (Leads (links rows) u.0 v.0 → ⊥) →
      Gap (view Leaving rows heads) u.0 v.0 (number_or (length rows) x.prev) x.at.0 →
      Gap (view Entering rows heads) v.0 u.0 (number_or (length rows) y.prev) y.at.0 →
      length b ≡ length rows → length hb ≡ length heads → length d ≡ length b → length hd ≡ length hb →
      (let row = fresh_row u v x.at.0 y.at.0 r in let rows' = set rows tally.free.0 row in
      Spliced Leaving rows' b heads hb (number_or (length rows') x.prev) u.0 tally.free.0) →
      Spliced Entering b d hb hd (number_or (length b) y.prev) v.0 tally.free.0 →
      Sound d hd (tally.count + 1) (at rows tally.free.0).leaving × Put rows d tally.free.0 (link u v r)
  hung b d hb hd u v r x y from to room fresh gx gy lb lhb ld lhd sx sy =
      let s = tally.free.0 in
      let row = fresh_row u v x.at.0 y.at.0 r in
      inserted rows b d heads hb hd tally.count s u v (number_or (length rows) x.prev) x.at.0 (number_or (length rows) y.prev) y.at.0 r
      whole from to (has_room room).0 fresh gx gy lb ld lhb lhd
      (subst (λ n. Spliced Leaving (set rows s row) b heads hb (number_or n x.prev) u.0 s) (length-set rows s row) sx)
      (subst (λ n. Spliced Entering b d hb hd (number_or n y.prev) v.0 s) lb sy)

  -- the link in the slot s, with the heads h of the rest of its threads
  module _ (s : ℕ) (l : Link R) (h : Heads) (e : slice_get rows s ≡ Some (Used l h)) where
    pub ends : (l.source.0 < length heads) × (l.target.0 < length heads)
    ends =
        let r = got rows s l h e in
        let i = whole.inside s r.live in
        (omega (arith, i.0, r.source), omega (arith, i.1, r.target))

    pub some_held : (0 < tally.count) × (tally.count ≤ length rows)
    some_held =
        let r = got rows s l h e in
        let o = somes_take (linked rows) s l r.link in
        (omega (arith, whole.counted), whole.unused.within)

    -- both threads led past it, and then the row laid on the unused ones
    pub unhung : (b d : List (LinkRow R)) (hb hd : List Heads) (x y : Spot) →
        Gap (view Leaving rows heads) l.source.0 l.target.0 (number_or (length rows) x.prev) x.at.0 →
        Gap (view Entering rows heads) l.target.0 l.source.0 (number_or (length rows) y.prev) y.at.0 →
        length b ≡ length rows → length hb ≡ length heads → length d ≡ length b → length hd ≡ length hb →
        Spliced Leaving rows b heads hb (number_or (length rows) x.prev) l.source.0 h.leaving.0 →
        Spliced Entering b d hb hd (number_or (length b) y.prev) l.target.0 h.entering.0 →
        (let rows' = set d s (Unused (length rows - tally.count) tally.free) in Sound rows' hd (tally.count - 1) s × Taken rows rows' s)
    unhung b d hb hd x y gx gy lb lhb ld lhd sx sy =
        let r = got rows s l h e in
        let pa = number_or (length rows) x.prev in
        let pb = number_or (length rows) y.prev in
        let held = some_held in
        let done = removed rows b d heads hb hd tally.count tally.free.0 s pa x.at.0 pb y.at.0
        (Unused (length rows - tally.count) tally.free) whole r.live
        (subst₂ (λ (u v : ℕ). Gap (view Leaving rows heads) u v pa x.at.0) r.source r.target gx)
        (subst₂ (λ (u v : ℕ). Gap (view Entering rows heads) v u pb y.at.0) r.source r.target gy)
        lb ld lhb lhd
        (subst₂ (λ (u k : ℕ). Spliced Leaving rows b heads hb pa u k) r.source (r.goes Leaving) sx)
        (subst₂ (λ (v k : ℕ). Spliced Entering b d hb hd pb v k) r.target (r.goes Entering) (subst (λ n. Spliced Entering b d hb hd (number_or n y.prev) l.target.0 h.entering.0) lb sy))
        (omega (arith, held.0, held.1)) refl in
        (done.0, done.1)

-- what always holds of a table
module _ {R : Type 0} (t : LinkTable R) where
  sound : Sound t.rows.items t.heads.items t.tally.count t.tally.free.0
  sound = opened t.rows.items t.heads.items t.tally t.kept

  -- there is room for its links, which lead between its places, at most one for each source and target
  pub held_fits : length (held t) ≤ capacity t
  held_fits = omega (arith, sound.counted, sound.unused.within, t.rows.ok.0)

  pub held_inside : (l : Link R) → Has (held t) l → (l.source.0 < places t) × (l.target.0 < places t)
  held_inside l h = let i = inside t.rows.items t.heads.items _ _ sound l h in (omega (arith, t.heads.ok.0, i.0), omega (arith, t.heads.ok.0, i.1))

  pub held_once : (l m : Link R) → Has (held t) l → Has (held t) m → l.source.0 ≡ m.source.0 → l.target.0 ≡ m.target.0 → l ≡ m
  held_once = one_link t.rows.items t.heads.items _ _ sound

  pub held_one_each : {P : Type 0} (leads : R → P) → OneEach (arrows leads (held t))
  held_one_each {P} leads = (follows R P P).one_each leads t.rows.items t.heads.items t.tally t.kept
