use Rattle.std.proofs.Common.{◌≡◌, ℕ, ◌+◌, ◌-◌, ◌≤◌, List, get_or, take, drop, set, sym, refl, ap, ◌∙◌, subst, inl, inr, ⊎_elim, arith}
use Rattle.std.proofs.lemmas.Bool.{both_ways, eqb-true, eq-eqb}
use Rattle.common.specs.declared.number.PlaceNumber.{PlaceNumber}
use Rattle.paths.specs.Ledger.{Path}
use Rattle.links.specs.Table.{links as row_links}
use Rattle.order.specs.Tables.{rank_in, links_in, marked_in, Entered}
use Rattle.order.specs.Marks.{Beyond}
use Rattle.order.specs.Forward.{Reached}
use Rattle.order.proofs.Deals.{in_range, ranged}
use Rattle.order.proofs.Ways.{Here, sound_rank, here_at, place_at, walked_none, walked_skip, walked_set, beyond_set, path_to, path_from}
use Rattle.order.proofs.search.mark_forward.Given.{Over}
use Rattle.order.proofs.search.mark_forward.Goals as goal
use Rattle.order.proofs.search.mark_forward.Goals.{In-loop-p, then-eq, then-eq-via-then-eq, then-eq-via-else-eq+then-is_entered, else-eq+else-is_entered}

-- the place at hand, and its rank
here : (g : Over) (c : In-loop-p g) → let rank = rank_in c.args.rank_of.now in
    Here c.args.marks.now.n rank (rank c.args.v.0 + c.loop-p.p-index) (get_or (take (c.index-2.result + 1 - c.index.result) (drop c.index.result c.args.place_at.now)) c.loop-p.p-index (record { 0 = 0 })).0
here g c =
    let n = c.args.marks.now.n in
    let ranks = c.args.rank_of.now in
    let places = c.args.place_at.now in
    let links = row_links c.args.rows.now in
    let s = c.requires.sound in
    let r = rank_in ranks c.args.v.0 + c.loop-p.p-index in
    let top = sound_rank n ranks places links s c.args.u.0 c.requires.places.0 in
    let low = c.index.ensures ∙ c.rank_at.ensures in
    let high = c.index-2.ensures ∙ c.rank_at-2.ensures in
    let wide = s.wide in
    let h = in_range places c.index.result c.index-2.result c.loop-p.p-index (omega (arith, high)) c.loop-p-test.true in
    let le : r ≤ rank_in ranks c.args.u.0 = omega (arith, h.0) in
    here_at n ranks places links s c.args.u.0 c.requires.places.0 r _ le
    (ap (λ (x : PlaceNumber). x.0) h.1 ∙ ap (λ (k : ℕ). (get_or places (k + c.loop-p.p-index) (record { 0 = 0 })).0) low ∙ sym (place_at places r (record { 0 = 0 }) (omega arith)))

pub loop-p-init : goal.loop-p-init
loop-p-init g c =
    let n = c.args.marks.now.n in
    let links = links_in (row_links c.args.rows.now) in
    let rank = rank_in c.args.rank_of.now in
    let marks = c.args.marks.now.bytes.now in
    let start = walked_none links rank c.requires.sound.rising n c.args.v.0 marks c.requires.clean in
    let from : rank c.args.v.0 ≡ rank c.args.v.0 + 0 = omega arith in
    (subst (λ (r : ℕ). Reached links rank n c.args.v.0 r (marked_in n marks)) from start, λ k h. refl, refl, refl)

pub is_entered-requires-clause-inside : goal.is_entered-requires-clause-inside
is_entered-requires-clause-inside g c = let h = here g (goal.at.is_entered-requires-clause-inside g c).In-loop-p in omega (arith, h.low, c.requires.heads)

pub set-requires : goal.set-requires
set-requires g c = let h = here g (goal.at.set-requires g c).In-loop-p in omega (arith, h.low, c.loop-p.invariant.2)

pub loop-p-preserved : goal.loop-p-preserved
loop-p-preserved g c =
    let n = c.args.marks.now.n in
    let links = links_in (row_links c.args.rows.now) in
    let rank = rank_in c.args.rank_of.now in
    let v = c.args.v.0 in
    let r = rank v + c.loop-p.p-index in
    let next : r + 1 ≡ rank v + (c.loop-p.p-index + 1) = omega arith in
    let marks = c.loop-p.marks.bytes.now in
    let p = (get_or (take (c.index-2.result + 1 - c.index.result) (drop c.index.result c.args.place_at.now)) c.loop-p.p-index (record { 0 = 0 })).0 in
    let s = c.requires.sound in
    let h = here g (goal.at.loop-p-preserved g c).In-loop-p in
    let reached = c.loop-p.invariant.0 in
    let places = c.loop-p.invariant.2 in
    let lent = c.loop-p.invariant.3 in
    let top : rank p ≤ r = omega (arith, h.rank_is) in
    elim c.if-eq.branch [
      | then-eq w ↦
          let to : Path links v p = elim w.then-eq.branch [
            | then-eq-via-then-eq w' ↦ path_to links rank s.rising n v r marks reached s.inside p top (inl (eqb-true p v (sym c.eq.ensures ∙ w'.if-eq.true)))
            | then-eq-via-else-eq+then-is_entered w' ↦ path_to links rank s.rising n v r marks reached s.inside p top (inr (subst (λ (k : ℕ). Entered links (marked_in k marks) p) places (w'.is_entered.ensures.yes w'.if-is_entered.true)))
          ] in
          let is : c.if-eq.marks.bytes.now ≡ set marks p 1 = ap (λ m. m.bytes.now) w.marks-is ∙ w.set.ensures.marked in (
            subst (λ (ms : List ℕ). Reached links rank n v (rank v + (c.loop-p.p-index + 1)) (marked_in n ms)) (sym is) (subst (λ (b : ℕ). Reached links rank n v b (marked_in n (set marks p 1))) next
                (walked_set links rank s.rising n v r marks reached p h (let f = c.loop-p.marks.fits in omega (arith, places)) to)),
            subst (λ (ms : List ℕ). Beyond n c.args.marks.now.bytes.now ms) (sym is) (beyond_set links rank s.rising n v r marks reached p h c.args.marks.now.bytes.now c.loop-p.invariant.1),
            ap (λ m. m.n) w.marks-is ∙ w.set.ensures.same.0 ∙ places,
            ap (λ m. m.bytes.ghost_name) w.marks-is ∙ w.set.ensures.same.1 ∙ lent,
          )
      | else-eq+else-is_entered w ↦
          let none : Path links v p → ⊥ = λ π. ⊎_elim {C = ⊥} (λ e. both_ways _ w.if-eq.false (c.eq.ensures ∙ eq-eqb p v e)) (λ e. both_ways _ w.if-is_entered.false (w.is_entered.ensures.no (subst (λ (k : ℕ). Entered links (marked_in k marks) p) (sym places) e)))
          (path_from links rank s.rising n v r marks reached s.inside p top π) in
          let is : c.if-eq.marks.bytes.now ≡ marks = ap (λ m. m.bytes.now) w.marks-is in (
            subst (λ (ms : List ℕ). Reached links rank n v (rank v + (c.loop-p.p-index + 1)) (marked_in n ms)) (sym is) (subst (λ (b : ℕ). Reached links rank n v b (marked_in n marks)) next (walked_skip links rank s.rising n v r marks reached p h none)),
            subst (λ (ms : List ℕ). Beyond n c.args.marks.now.bytes.now ms) (sym is) c.loop-p.invariant.1,
            ap (λ m. m.n) w.marks-is ∙ places,
            ap (λ m. m.bytes.ghost_name) w.marks-is ∙ lent,
          )
    ]

pub returns-clause-reached : goal.returns-clause-reached
returns-clause-reached g c =
    let n = c.args.marks.now.n in
    let ranks = c.args.rank_of.now in
    let places = c.args.place_at.now in
    let links = row_links c.args.rows.now in
    let u = c.args.u.0 in
    let v = c.args.v.0 in
    let s = c.requires.sound in
    let wide = s.wide in
    let top = sound_rank n ranks places links s u c.requires.places.0 in
    let all = ranged places c.index.result c.index-2.result (omega (arith, c.index-2.ensures, c.rank_at-2.ensures)) in
    let end : rank_in ranks v + c.loop-p.p-index ≡ rank_in ranks u + 1 =
    omega (arith, all, c.loop-p.auto.p-index-end, c.loop-p-test.false, c.index.ensures, c.index-2.ensures, c.rank_at.ensures, c.rank_at-2.ensures, c.requires.turn) in
    subst (λ (r : ℕ). Reached (links_in links) (rank_in ranks) n v r (marked_in n c.loop-p.marks.bytes.now)) end c.loop-p.invariant.0
