use Rattle.std.proofs.Common.{◌≡◌, ℕ, ◌+◌, ◌-◌, ◌≤◌, length, set, sym, ◌∙◌, subst, arith}
use Rattle.recompute.specs.Lent.{size, linked, ranks_of, order_of}
use Rattle.recompute.proofs.Lents.{sound_of}
use Rattle.recompute.specs.declared.climb.Climb.{Climb}
use Rattle.recompute.specs.Pending.{Climbed}
use Rattle.recompute.proofs.Rows.{drop_further}
use Rattle.recompute.proofs.Ends.{starts, skips}
use Rattle.recompute.proofs.walk.walk.Goals as goal

pub loop-r-preserved : goal.loop-r-preserved
loop-r-preserved g c =
    let m = g.K.LabelKind.means in
    let G = c.args.graph.now in
    let e = c.step-climb.ensures in
    let inv = c.loop-r.invariant in
    let r : c.new.result.0 ≡ c.loop-r.r = c.new.ensures in (
      omega (arith, inv.1, c.loop-r-test.true, c.index.ensures),
      e.counts.1.1.1,
      e.counts.0,
      omega (arith, e.counts.1.1.0, inv.3),
      e.rest ∙ drop_further c.loop-r.list c.args.list.now c.loop-r.climb.reported c.step-climb.result.reported e.counts.1.0 inv.4,
      (λ k h. e.beyond k h ∙ inv.5 k h),
      (λ f before h w.
          subst (λ (j : ℕ). Climbed m (size G) c.args.own.now (ranks_of G) (linked G) f before (j + 1) c.step-climb.result c.step-climb.new.labels c.step-climb.new.marks.bytes.now c.step-climb.new.list) r
          (e.climbed f before h (subst (λ (j : ℕ). Climbed m (size G) c.args.own.now (ranks_of G) (linked G) f before j c.loop-r.climb c.loop-r.labels c.loop-r.marks.bytes.now c.loop-r.list) (sym r) (inv.6 f before h w)))),
      e.same.0 ∙ inv.7,
      e.same.1 ∙ inv.8,
    )

pub returns-clause-climbed : goal.returns-clause-climbed
returns-clause-climbed g c =
    let m = g.K.LabelKind.means in
    let laws = g.met.K.LabelKind.lawful.laws in
    let G = c.args.graph.now in
    let n = size G in
    let own = c.args.own.now in
    let e = c.args.e.0 in
    let before = c.args.labels.now in
    let inv = c.loop-r.invariant in
    let none : Climb = record { reported = 0; changed = 0; last = c.rank-first.result } in
    let long : n ≤ length c.args.marks.now.bytes.now = let f = c.args.marks.now.fits in omega (arith, c.requires.places) in
    let start : Climbed m n own (ranks_of G) (linked G) e before c.index-r.result none before c.set.new.self.bytes.now c.args.list.now =
    subst (λ ms. Climbed m n own (ranks_of G) (linked G) e before c.index-r.result none before ms c.args.list.now) (sym c.set.ensures.marked)
    (subst (λ (j : ℕ). Climbed m n own (ranks_of G) (linked G) e before j none before (set c.args.marks.now.bytes.now e 1) c.args.list.now) (sym (c.index-r.ensures ∙ c.rank-first.ensures))
    (starts m laws n own (ranks_of G) (order_of G) (linked G) (sound_of G) e before c.requires.place c.rank-first.result c.args.marks.now.bytes.now c.args.list.now c.requires.clean long c.rank-first.ensures)) in
    let same : c.loop-r.r + (n - c.loop-r.r) ≡ n = omega (arith, inv.0) in
    subst (λ (j : ℕ). Climbed m n own (ranks_of G) (linked G) e before j c.loop-r.climb c.loop-r.labels c.loop-r.marks.bytes.now c.loop-r.list) same
    (skips m laws n own (ranks_of G) (order_of G) (linked G) (sound_of G) e before c.requires.place c.loop-r.r c.loop-r.climb c.loop-r.labels c.loop-r.marks.bytes.now c.loop-r.list
    (omega (arith, c.loop-r-test.false, c.index.ensures)) (n - c.loop-r.r) (omega (arith, inv.0)) (inv.6 e before c.requires.place start))
