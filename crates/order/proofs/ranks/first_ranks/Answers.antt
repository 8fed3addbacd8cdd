use Rattle.std.proofs.Common.{◌≡◌, ◌<◌, length, ◌∙◌, arith, below_more, length-take}
use Rattle.common.specs.declared.number.PlaceNumber.{PlaceNumber}
use Rattle.common.specs.declared.number.Rank.{Rank}
use Rattle.order.proofs.Deals.{rank_set_same, rank_set_other, place_put, place_kept, rest_kept}
use Rattle.order.proofs.ranks.first_ranks.Goals as goal

pub loop-p-preserved : goal.loop-p-preserved
loop-p-preserved c =
    let p = c.loop-p.p in
    let ranks = c.loop-p.rank-items in
    let long : c.loop-p.p < length c.loop-p.rank-items = omega (arith, c.loop-p-test.true, c.loop-p.auto.rank-items) in
    below_more _ _ (λ q h. rank_set_other ranks p q c.new.result (λ e. omega arith) ∙ c.loop-p.invariant q h) (rank_set_same ranks p c.new.result long ∙ c.new.ensures)

pub loop-r-preserved : goal.loop-r-preserved
loop-r-preserved c =
    let r = c.loop-r.r in
    let places = c.loop-r.place-items in
    let place = c.new-in-loop-r.result in
    let wide : c.loop-r.r < length c.loop-r.place-items = omega (arith, c.loop-r-test.true, c.loop-r.auto.place-items) in
    below_more _ _ (λ q h. place_kept places r q place (λ e. omega arith) ∙ c.loop-r.invariant q h) (place_put places r place wide ∙ c.new-in-loop-r.ensures)

pub returns-clause-past : goal.returns-clause-past
returns-clause-past c =
    let n = c.args.n in
    let long = length-take c.args.n c.args.rank_of.now in
    let wide = length-take c.args.n c.args.place_at.now in
    let all : length c.loop-p.rank-items ≡ c.args.n = omega (arith, c.loop-p.auto.rank-items, c.requires.1.0) in
    let all' : length c.loop-r.place-items ≡ c.args.n = omega (arith, c.loop-r.auto.place-items, c.requires.1.1) in
    record {
      ranks_stay = λ p h. rest_kept (λ (r : Rank). r.0) c.loop-p.rank-items c.args.rank_of.now n p all c.requires.1.0 h;
      places_stay = λ r h. rest_kept (λ (p : PlaceNumber). p.0) c.loop-r.place-items c.args.place_at.now n r all' c.requires.1.1 h;
    }
