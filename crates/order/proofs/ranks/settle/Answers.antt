use Rattle.std.proofs.Common.{◌≡◌, ℕ, ◌+◌, ◌<◌, length, get_or, sym, ap, ◌∙◌, subst₂, arith}
use Rattle.order.specs.Tables.{rank_in, place_in}
use Rattle.order.specs.Sharing.{Shuffled, Settled}
use Rattle.order.proofs.Settles.{Turn, turn_at, swap_is, settled_none, settled_more, settled_at, swap_shuffled, swap_settled, swap_falls}
use Rattle.order.proofs.ranks.settle.Goals as goal
use Rattle.order.proofs.ranks.settle.Goals.{In-loop-r}

pub loop-r-init : goal.loop-r-init
loop-r-init c =
    let rank = rank_in c.args.ranks.now in
    let place = place_in c.args.order.now in (
      omega arith,
      subst₂ (λ (a b : ℕ). Shuffled a b rank place) (sym c.index-from.ensures) (sym c.index-top.ensures) c.requires.shuffled,
      settled_none c.index-from.result c.index-top.result rank place,
    )

turn : (c : In-loop-r) → Turn c.args.ranks.now c.loop-r.order c.index-from.result c.index-top.result c.loop-r.r
turn c =
    turn_at c.args.ranks.now c.args.order.now c.loop-r.order c.index-from.result c.index-top.result c.loop-r.r (omega (arith, c.index-top.ensures, c.requires.few.0))
    (λ i h. c.requires.places i (omega (arith, c.index-top.ensures))) c.loop-r.invariant.1 c.loop-r.invariant.2 c.loop-r.invariant.0 c.loop-r-test.true

known : (c : In-loop-r) → (get_or c.loop-r.order c.loop-r.r (record { 0 = 0 })).0 < length c.args.ranks.now
known c = (turn c).known

pub offset_bounds-ranks-index : goal.offset_bounds-ranks-index
offset_bounds-ranks-index c = omega (arith, c.index.ensures, known (goal.at.offset_bounds-ranks-index c).In-loop-r)

pub bounds-ranks-index : goal.bounds-ranks-index
bounds-ranks-index c = omega (arith, c.index.ensures, known (goal.at.bounds-ranks-index c).In-loop-r)

pub loop-r-preserved-then-own-r : goal.loop-r-preserved-then-own-r
loop-r-preserved-then-own-r c =
    let rank = rank_in c.args.ranks.now in
    let t = turn (goal.at.loop-r-preserved-then-own-r c).In-loop-r in
    let is : c.index-own.result ≡ rank (place_in c.loop-r.order c.loop-r.r) =
    c.index-own.ensures ∙ ap (λ (i : ℕ). (get_or c.args.ranks.now i (record { 0 = 0 })).0) c.index.ensures ∙ t.own_is in (
      omega (arith, c.loop-r.invariant.0),
      c.loop-r.invariant.1,
      settled_more c.index-from.result c.index-top.result rank (place_in c.args.order.now) (place_in c.loop-r.order) c.loop-r.invariant.1 c.loop-r.r c.loop-r.invariant.0 c.loop-r-test.true
          c.loop-r.invariant.2 (sym is ∙ c.if-own-r.true),
    )

pub swap-requires-clause-b_in_bounds : goal.swap-requires-clause-b_in_bounds
swap-requires-clause-b_in_bounds c =
    let t = turn (goal.at.swap-requires-clause-b_in_bounds c).In-loop-r in
    let is : c.index-own.result ≡ rank_in c.args.ranks.now (place_in c.loop-r.order c.loop-r.r) =
    c.index-own.ensures ∙ ap (λ (i : ℕ). (get_or c.args.ranks.now i (record { 0 = 0 })).0) c.index.ensures ∙ t.own_is in
    omega (arith, is, t.within.1, c.index-top.ensures, c.requires.few.0)

pub loop-r-smaller : goal.loop-r-smaller
loop-r-smaller c =
    let rank = rank_in c.args.ranks.now in
    let t = turn (goal.at.loop-r-smaller c).In-loop-r in
    let is : c.index-own.result ≡ rank (place_in c.loop-r.order c.loop-r.r) =
    c.index-own.ensures ∙ ap (λ (i : ℕ). (get_or c.args.ranks.now i (record { 0 = 0 })).0) c.index.ensures ∙ t.own_is in
    let lt : c.index-own.result < length c.loop-r.order = omega (arith, is, t.within.1, c.index-top.ensures, c.requires.few.0) in
    let e = swap_is c.loop-r.order c.swap.new.self c.loop-r.r c.index-own.result c.swap.ensures.by_index t.here lt c.if-own-r.false in
    let f = swap_falls c.index-from.result c.index-top.result rank (place_in c.args.order.now) (place_in c.loop-r.order) c.loop-r.invariant.1 c.loop-r.r c.loop-r.invariant.0 c.loop-r-test.true c.loop-r.invariant.2
    c.index-own.result is c.if-own-r.false (place_in c.swap.new.self) e in
    omega (arith, f)

pub loop-r-preserved : goal.loop-r-preserved
loop-r-preserved c =
    let rank = rank_in c.args.ranks.now in
    let old = place_in c.args.order.now in
    let t = turn (goal.at.loop-r-preserved c).In-loop-r in
    let is : c.index-own.result ≡ rank (place_in c.loop-r.order c.loop-r.r) =
    c.index-own.ensures ∙ ap (λ (i : ℕ). (get_or c.args.ranks.now i (record { 0 = 0 })).0) c.index.ensures ∙ t.own_is in
    let lt : c.index-own.result < length c.loop-r.order = omega (arith, is, t.within.1, c.index-top.ensures, c.requires.few.0) in
    let e = swap_is c.loop-r.order c.swap.new.self c.loop-r.r c.index-own.result c.swap.ensures.by_index t.here lt c.if-own-r.false in (
      c.loop-r.invariant.0,
      swap_shuffled c.index-from.result c.index-top.result rank old (place_in c.loop-r.order) c.loop-r.invariant.1 c.loop-r.r c.loop-r.invariant.0 c.loop-r-test.true c.loop-r.invariant.2
          c.index-own.result is c.if-own-r.false (place_in c.swap.new.self) e,
      swap_settled c.index-from.result c.index-top.result rank old (place_in c.loop-r.order) c.loop-r.invariant.1 c.loop-r.r c.loop-r.invariant.0 c.loop-r-test.true c.loop-r.invariant.2
          c.index-own.result is c.if-own-r.false (place_in c.swap.new.self) e,
    )

pub returns : goal.returns
returns c =
    let rank = rank_in c.args.ranks.now in
    let old = place_in c.args.order.now in
    let new = place_in c.loop-r.order in
    let end = c.loop-r-test.false in
    subst₂ (λ (a b : ℕ). Settled a b (c.args.window.high.0 + 1) rank old new) c.index-from.ensures c.index-top.ensures
    (settled_at c.index-from.result c.index-top.result c.loop-r.r (c.args.window.high.0 + 1) rank old new (omega (arith, c.index-top.ensures)) c.loop-r.invariant.2)
