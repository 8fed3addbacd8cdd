use Rattle.std.proofs.Common.{◌≡◌, ℕ, ◌+◌, ◌-◌, ◌<◌, ◌≤◌, Bool, List, [], ◌∷◌, ◌++◌, length, get_or, take, drop, set, sym, ap, ◌∙◌, subst, arith}
use mathlib.Core.Bool.{beq}
use Rattle.std.proofs.lemmas.List.{length_push}
use Rattle.common.specs.declared.number.Rank.{Rank}
use Rattle.common.specs.declared.number.PlaceNumber.{PlaceNumber}
use Rattle.order.specs.Tables.{rank_in, order_in, marked_in}
use Rattle.order.specs.Sharing.{met, Dealt}
use Rattle.order.proofs.Ways.{order_length, order_here}
use Rattle.order.proofs.Deals.{dealt_push, test, met_take, met_skip, not_met, met_length, same_test, in_range, ranged}
use Rattle.order.proofs.ranks.deal.Goals as goal
use Rattle.order.proofs.ranks.deal.Goals.{then-has-inside, else-has-inside, In-loop-p}

-- the place at hand, and its rank
here : (c : In-loop-p) → let n = c.args.marks.now.n in let r = c.args.window.low.0 + c.loop-p.p-index in
    (r < n) × ((get_or (take (c.index-2.result + 1 - c.index.result) (drop c.index.result c.args.order.now)) c.loop-p.p-index (record { 0 = 0 })).0 ≡ get_or (order_in n c.args.order.now) r 0)
here c =
    let h = in_range c.args.order.now c.index.result c.index-2.result c.loop-p.p-index (omega (arith, c.index-2.ensures, c.requires.window, c.requires.sizes.1)) c.loop-p-test.true in
    let below : c.args.window.low.0 + c.loop-p.p-index < c.args.marks.now.n = omega (arith, h.0, c.index.ensures, c.index-2.ensures, c.requires.window) in (
      below,
      ap (λ (x : PlaceNumber). x.0) h.1 ∙ ap (λ (k : ℕ). (get_or c.args.order.now (k + c.loop-p.p-index) (record { 0 = 0 })).0) c.index.ensures
          ∙ order_here c.args.marks.now.n c.args.order.now (c.args.window.low.0 + c.loop-p.p-index) below c.requires.sizes.1,
    )

pub overflow_cast-next : goal.overflow_cast-next
overflow_cast-next c =
    let h = here (goal.at.overflow_cast-next c).In-loop-p in
    let a = met_length c.args.inside (marked_in c.args.marks.now.n c.args.marks.now.bytes.now) c.args.window.low.0 (c.args.window.low.0 + c.loop-p.p-index) (order_in c.args.marks.now.n c.args.order.now) in
    omega (arith, h.0, c.loop-p.invariant.1, c.requires.few.0, c.requires.few.1)

pub offset_bounds-ranks-index : goal.offset_bounds-ranks-index
offset_bounds-ranks-index c =
    let h = here (goal.at.offset_bounds-ranks-index c).In-loop-p in
    omega (arith, c.index-then-has-inside.ensures, h.1, c.requires.order.1 _ h.0, c.requires.few.0)

pub bounds-ranks-index : goal.bounds-ranks-index
bounds-ranks-index c =
    let h = here (goal.at.bounds-ranks-index c).In-loop-p in
    omega (arith, c.index-then-has-inside.ensures, h.1, c.requires.order.1 _ h.0, c.requires.sizes.0)

pub loop-p-preserved : goal.loop-p-preserved
loop-p-preserved c =
    let inside = c.args.inside in
    let n = c.args.marks.now.n in
    let marked = marked_in n c.args.marks.now.bytes.now in
    let order = order_in n c.args.order.now in
    let low = c.args.window.low.0 in
    let r = low + c.loop-p.p-index in
    let p = get_or order r 0 in
    let len = order_length n c.args.order.now c.requires.sizes.1 in
    let above : low ≤ r = omega arith in
    let h = here (goal.at.loop-p-preserved c).In-loop-p in
    let start = c.args.start in
    let old = rank_in c.args.ranks.now in
    let ps = met inside marked low r order in
    let next : r + 1 ≡ low + (c.loop-p.p-index + 1) = omega arith in
    let is_test : test inside marked low r n order len above h.0 p ≡ beq c.has.result inside =
    sym (same_test (marked p) inside) ∙ ap (λ (q : ℕ). beq (marked q) inside) (sym h.1) ∙ ap (λ (b : Bool). beq b inside) (sym c.has.ensures) in
    elim c.if-has-inside.branch [
      | then-has-inside w ↦
          let more = subst (λ (b : ℕ). met inside marked low b order ≡ ps ++ (p ∷ [])) next (met_take inside marked low r n order len above h.0 (is_test ∙ w.if-has-inside.true)) in
          let ix : w.index-then-has-inside.result ≡ p = w.index-then-has-inside.ensures ∙ h.1 in
          let lower : p < length c.loop-p.ranks = let b = c.requires.order.1 r h.0 in omega (arith, c.requires.sizes.0) in
          let is : c.if-has-inside.ranks ≡ set c.loop-p.ranks p w.new.result = w.ranks-is ∙ ap (λ (i : ℕ). set c.loop-p.ranks i w.new.result) ix in
          let dealt = dealt_push ps start old c.loop-p.ranks c.loop-p.invariant.0 p (not_met inside marked low r n order len above h.0 c.requires.order.0) lower w.new.result (w.new.ensures ∙ c.loop-p.invariant.1) in
          let lens = ap length more ∙ length_push ps p in (
            subst (λ (ranks : List Rank). Dealt (met inside marked low (low + (c.loop-p.p-index + 1)) order) start old (rank_in ranks)) (sym is) (subst (λ (qs : List ℕ). Dealt qs start old (rank_in (set c.loop-p.ranks p w.new.result))) (sym more) dealt),
            omega (arith, w.next-is, c.loop-p.invariant.1, lens),
          )
      | else-has-inside w ↦
          let more = subst (λ (b : ℕ). met inside marked low b order ≡ ps) next (met_skip inside marked low r n order len above h.0 (is_test ∙ w.if-has-inside.false)) in (
            subst (λ (ranks : List Rank). Dealt (met inside marked low (low + (c.loop-p.p-index + 1)) order) start old (rank_in ranks)) (sym w.ranks-is) (subst (λ (qs : List ℕ). Dealt qs start old (rank_in c.loop-p.ranks)) (sym more) c.loop-p.invariant.0),
            w.next-is ∙ c.loop-p.invariant.1 ∙ ap (λ (qs : List ℕ). start + length qs) (sym more),
          )
    ]

pub returns-clause-dealt : goal.returns-clause-dealt
returns-clause-dealt c =
    let order = order_in c.args.marks.now.n c.args.order.now in
    let marked = marked_in c.args.marks.now.n c.args.marks.now.bytes.now in
    let all = ranged c.args.order.now c.index.result c.index-2.result (omega (arith, c.index-2.ensures, c.requires.window, c.requires.sizes.1)) in
    let end : c.args.window.low.0 + c.loop-p.p-index ≡ c.args.window.high.0 + 1 = omega (arith, all, c.loop-p.auto.p-index-end, c.loop-p-test.false, c.index.ensures, c.index-2.ensures, c.args.window.rises) in
    subst (λ (b : ℕ). Dealt (met c.args.inside marked c.args.window.low.0 b order) c.args.start (rank_in c.args.ranks.now) (rank_in c.loop-p.ranks)) end c.loop-p.invariant.0
