use Rattle.std.proofs.Common.{ℕ, ◌+◌, ◌≤◌, true, false, List, length, sym, ◌∙◌, subst, arith, rules}
use Rattle.paths.specs.Order.{Ranked}
use Rattle.order.specs.Tables.{rank_in, place_in, order_in, marked_in}
use Rattle.order.specs.Sharing.{Below}
use Rattle.order.proofs.Ways.{order_length}
use Rattle.order.proofs.Deals.{order_at, met_length, met_below}
use Rattle.order.proofs.Shares.{shared, settled_is}
use Rattle.order.proofs.ranks.share_out.Goals as goal

pub deal-requires-clause-few : goal.deal-requires-clause-few
deal-requires-clause-few c =
    let len = order_length c.args.marks.now.n c.args.order.now c.requires.sizes.1.1 in
    let few = met_length false (marked_in c.args.marks.now.n c.args.marks.now.bytes.now) c.args.window.low.0 (c.args.window.high.0 + 1) (order_in c.args.marks.now.n c.args.order.now) in
    (c.requires.sizes.0, omega (arith, c.deal-left.ensures.next, c.index-start.ensures, c.args.window.rises, c.requires.window))

pub settle-requires-clause-shuffled : goal.settle-requires-clause-shuffled
settle-requires-clause-shuffled c =
    let s = shared (rank_in c.args.ranks.now) (order_in c.args.marks.now.n c.args.order.now) c.args.marks.now.n (order_length c.args.marks.now.n c.args.order.now c.requires.sizes.1.1) c.requires.ranked c.requires.below
    (marked_in c.args.marks.now.n c.args.marks.now.bytes.now) c.args.window.low.0 c.args.window.high.0 c.args.window.rises c.requires.window (rank_in c.deal-left.new.ranks) (rank_in c.deal.new.ranks)
    c.index-start.result c.index-start.ensures c.deal-left.ensures.dealt c.deal-left.result c.deal-left.ensures.next c.deal.ensures.dealt in
    s.shuffled (place_in c.args.order.now) (λ i h. order_at c.args.marks.now.n c.args.order.now i h)

pub returns : goal.returns
returns c =
    let n = c.args.marks.now.n in
    let places = c.args.order.now in
    let places' = c.settle.new.order in
    let order = order_in n places in
    let marked = marked_in n c.args.marks.now.bytes.now in
    let len = order_length n places c.requires.sizes.1.1 in
    let s = shared (rank_in c.args.ranks.now) (order_in c.args.marks.now.n c.args.order.now) c.args.marks.now.n (order_length c.args.marks.now.n c.args.order.now c.requires.sizes.1.1) c.requires.ranked c.requires.below
    (marked_in c.args.marks.now.n c.args.marks.now.bytes.now) c.args.window.low.0 c.args.window.high.0 c.args.window.rises c.requires.window (rank_in c.deal-left.new.ranks) (rank_in c.deal.new.ranks)
    c.index-start.result c.index-start.ensures c.deal-left.ensures.dealt c.deal-left.result c.deal-left.ensures.next c.deal.ensures.dealt in
    let wide : c.args.marks.now.n ≤ length c.settle.new.order = search rules in
    let rank = rank_in c.deal.new.ranks in
    let is = settled_is rank order _ n c.args.window.low.0 c.args.window.high.0 s c.requires.below c.requires.window (place_in places) (place_in places') (λ i h. order_at n places i h) c.settle.ensures
    (order_in n places') (order_length n places' wide) (λ i h. order_at n places' i h) in
    record {
      order = is;
      ranked = subst (λ (o : List ℕ). Ranked rank o) (sym is) s.ranked;
      below = subst (λ (o : List ℕ). Below n o) (sym is) s.below;
      past = record {
        ranks_stay = λ p h.
            c.deal.ensures.dealt.kept p (λ i. let l = met_below true marked c.args.window.low.0 (c.args.window.high.0 + 1) n order len c.requires.below p i in omega arith)
            ∙ c.deal-left.ensures.dealt.kept p (λ i. let l = met_below false marked c.args.window.low.0 (c.args.window.high.0 + 1) n order len c.requires.below p i in omega arith);
        places_stay = λ r h. c.settle.ensures.above r (omega (arith, c.requires.window));
      };
    }
