use Rattle.std.proofs.Common.{◌≡◌, false, sym, ◌∙◌, subst, subst₂, rules}
use Rattle.paths.specs.Order.{Ranked, moved}
use Rattle.links.specs.Table.{links as row_links}
use Rattle.order.specs.Tables.{rank_in, order_in, marked_in, Past}
use Rattle.order.specs.Sharing.{Below}
use Rattle.order.proofs.Admits.{admitted_moved}
use Rattle.order.proofs.search.reorder.Goals as goal

pub returns-clause-answer : goal.returns-clause-answer
returns-clause-answer g c =
    let n = c.args.marks.now.n in
    let ranks = c.args.rank_of.now in
    let places = c.args.place_at.now in
    let u = c.args.u.0 in
    let v = c.args.v.0 in
    let m = c.mark_forward.new.marks.n in
    let marks = c.mark_forward.new.marks.bytes.now in
    let ranks' = c.share_out.new.ranks in
    let places' = c.share_out.new.order in
    let same : m ≡ n = c.mark_forward.ensures.same.0 in
    let e = c.share_out.ensures in
    let clear = subst (λ k. marked_in k marks u ≡ false) same (sym c.has.ensures ∙ c.if-has.false) in
    let order = subst (λ k. order_in k places' ≡ moved (marked_in k marks) (rank_in ranks v) (rank_in ranks u) (order_in k places)) same
    (subst₂ (λ a b. order_in m places' ≡ moved (marked_in m marks) a b (order_in m places)) c.rank_at.ensures c.rank_at-2.ensures e.order) in
    admitted_moved n ranks places (row_links c.args.rows.now) c.requires.sound u v c.requires.places.0 c.requires.places.1 c.requires.turn marks c.mark_forward.ensures.reached clear ranks' places' (search rules) (search rules)
    order (subst (λ k. Ranked (rank_in ranks') (order_in k places')) same e.ranked) (subst (λ k. Below k (order_in k places')) same e.below) (subst (λ k. Past k ranks ranks' places places') same e.past)
