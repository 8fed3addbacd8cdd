use Rattle.std.proofs.Common.{◌≡◌, ℕ, ◌<◌, get_or, set, sym, ap, ◌∙◌, ⊎_elim, arith}
use Rattle.std.proofs.lemmas.Bool.{eqb-true, eqb-false}
use Rattle.order.specs.Tables.{rank_in, is_set}
use Rattle.recompute.specs.Lent.{size, linked, ranks_of, order_of}
use Rattle.order.proofs.Bytes.{marked_is}
use Rattle.recompute.proofs.Lents.{sound_of, linked_inside}
use Rattle.order.proofs.Ways.{sound_rank}
use Rattle.recompute.proofs.Rows.{one_told}
use Rattle.recompute.proofs.Grounds.{place_rank, place_only, rising, within}
use Rattle.recompute.proofs.Steps.{passed, stayed, turned}
use Rattle.recompute.proofs.walk.step.Given as Given
use Rattle.recompute.proofs.walk.step.Goals as goal
use Rattle.recompute.proofs.walk.step.Goals.{After-has}

-- the place at hand: it alone has the rank r, and its mark is set exactly when the guard says so
at : (g : Given.Over) (c : After-has g) → rank_in (ranks_of c.args.graph.now) c.place-p.result.0 ≡ c.args.r.0
at g c =
    let G = c.args.graph.now in
    ap (rank_in (ranks_of G)) c.place-p.ensures.at ∙ place_rank (size G) (ranks_of G) (order_of G) (linked G) (sound_of G) c.args.r.0 c.requires.rank

only : (g : Given.Over) (c : After-has g) → (q : ℕ) → q < size c.args.graph.now → rank_in (ranks_of c.args.graph.now) q ≡ c.args.r.0 → q ≡ c.place-p.result.0
only g c q b e =
    let G = c.args.graph.now in
    place_only (size G) (ranks_of G) (order_of G) (linked G) (sound_of G) c.args.r.0 q c.requires.rank b e ∙ sym c.place-p.ensures.at

mark : (g : Given.Over) (c : After-has g) → is_set c.args.marks.now.bytes.now c.place-p.result.0 ≡ c.has.result
mark g c =
    sym (marked_is c.args.marks.now.n c.args.marks.now.bytes.now c.place-p.result.0 (let l = (c.place-p.ensures.inside) in omega (arith, c.requires.places))) ∙ sym c.has.ensures

pub returns-then-not-has-clause-climbed : goal.returns-then-not-has-clause-climbed
returns-then-not-has-clause-climbed g c =
    let G = c.args.graph.now in
    let s = sound_of G in
    let a = (goal.at.returns-then-not-has-clause-climbed g c).After-has in
    let m = g.K.LabelKind.means in
    let p = c.place-p.result.0 in
    let not_marked : get_or c.args.marks.now.bytes.now p 0 ≡ 1 → ⊥ = eqb-false (get_or c.args.marks.now.bytes.now p 0) 1 (mark g a ∙ c.if-not-has.true) in
    λ e before h w. passed m g.met.K.LabelKind.lawful.laws (size G) c.args.own.now (ranks_of G) (linked G) e before (rising m (size G) (ranks_of G) (linked G) s.rising) (within m (size G) (ranks_of G) (linked G) s.inside)
    c.args.r.0 p (c.place-p.ensures.inside) (at g a) (only g a) c.args.climb c.args.labels.now c.args.marks.now.bytes.now c.args.list.now not_marked w

pub returns-then-not-relabel-clause-climbed : goal.returns-then-not-relabel-clause-climbed
returns-then-not-relabel-clause-climbed g c =
    let G = c.args.graph.now in
    let s = sound_of G in
    let a = (goal.at.returns-then-not-relabel-clause-climbed g c).After-has in
    let m = g.K.LabelKind.means in
    let p = c.place-p.result.0 in
    let climb = c.args.climb in
    let list = c.args.list.now in
    let marked : get_or c.args.marks.now.bytes.now p 0 ≡ 1 = eqb-true (get_or c.args.marks.now.bytes.now p 0) 1 (mark g a ∙ c.if-not-has.false) in
    λ e before h w. stayed m g.met.K.LabelKind.lawful.laws (size G) c.args.own.now (ranks_of G) (linked G) e before (rising m (size G) (ranks_of G) (linked G) s.rising) (within m (size G) (ranks_of G) (linked G) s.inside)
    c.args.r.0 p (c.place-p.ensures.inside) (at g a) (only g a) climb c.args.labels.now c.relabel.new.labels c.args.marks.now.bytes.now list (set list climb.reported c.place-p.result) marked
    c.relabel.ensures.put (one_told list climb.reported c.place-p.result c.requires.room.0) w (c.relabel.ensures.kept c.if-not-relabel.true)

pub returns-clause-climbed : goal.returns-clause-climbed
returns-clause-climbed g c =
    let G = c.args.graph.now in
    let s = sound_of G in
    let a = (goal.at.returns-clause-climbed g c).After-has in
    let m = g.K.LabelKind.means in
    let p = c.place-p.result.0 in
    let climb = c.args.climb in
    let list = c.args.list.now in
    let t = c.mark_targets-last.ensures in
    let marked : get_or c.args.marks.now.bytes.now p 0 ≡ 1 = eqb-true (get_or c.args.marks.now.bytes.now p 0) 1 (mark g a ∙ c.if-not-has.false) in
    λ e before h w. turned m g.met.K.LabelKind.lawful.laws (size G) c.args.own.now (ranks_of G) (linked G) e before (rising m (size G) (ranks_of G) (linked G) s.rising) (within m (size G) (ranks_of G) (linked G) s.inside)
    c.args.r.0 p (c.place-p.ensures.inside) (at g a) (only g a) climb c.args.labels.now c.relabel.new.labels c.args.marks.now.bytes.now list (set list climb.reported c.place-p.result) marked
    c.relabel.ensures.put (one_told list climb.reported c.place-p.result c.requires.room.0) w
    c.mark_targets-last.new.marks.bytes.now c.mark_targets-last.result (c.relabel.ensures.changed c.if-not-relabel.false) t.all t.only t.rises

pub returns-clause-beyond : goal.returns-clause-beyond
returns-clause-beyond g c =
    λ k h. ⊎_elim (λ e. e) (λ d. let b = (linked_inside c.args.graph.now d.1.0 d.1.1).1 in absurd (omega (arith, b, d.1.3))) (c.mark_targets-last.ensures.only k)

pub returns-clause-counts : goal.returns-clause-counts
returns-clause-counts g c =
    let G = c.args.graph.now in
    let n = size G in
    let high : c.mark_targets-last.result.0 < n =
    ⊎_elim (λ e. omega (arith, e, c.requires.room.1.1))
    (λ d. let b = (linked_inside G d.1.0 d.1.1).1 in
    let k = sound_rank n (ranks_of G) (order_of G) (linked G) (sound_of G) d.0 (omega (arith, b, d.1.3)) in omega (arith, k, d.2)) c.mark_targets-last.ensures.reach in
    (omega (arith, c.requires.room.1.0), (omega arith, (omega arith, high)))
