-- Tables stay in order as links come and go. Assumes nothing.
use Rattle.std.proofs.Common.{◌≡◌, ℕ, ◌^◌, ◌<◌, ◌≤◌, List, [], length, get_or, sym, ap, ◌∙◌, subst, subst₂, ⊎_elim, arith}
use Rattle.std.specs.List.{ContainsAt as Has}
use Rattle.common.specs.declared.number.PlaceNumber.{PlaceNumber}
use Rattle.common.specs.declared.number.Rank.{Rank}
use Rattle.paths.specs.Ledger.{Leads}
use Rattle.paths.proofs.Lists.{has_none}
use Rattle.links.specs.declared.row.Link.{Link}
use Rattle.links.specs.Links.{Gained}
use Rattle.links.proofs.Ties.{leads_of, of_leads}
use Rattle.order.specs.Tables.{rank_in, place_in, order_in, links_in, Ordered}
use Rattle.order.specs.Theorems.{KeepsOrder}
use Rattle.order.proofs.Deals.{order_at}
use Rattle.order.proofs.Ways.{order_length}
use Rattle.order.proofs.Props.{opened}

first : {R : Type 0} (n : ℕ) (ranks : List Rank) (places : List PlaceNumber) → n < 2 ^ 31 → n ≤ length ranks → n ≤ length places →
    ((p : ℕ) → p < n → rank_in ranks p ≡ p) → ((r : ℕ) → r < n → place_in places r ≡ r) → Ordered {R = R} n ranks places []
first n ranks places few long wide by_place by_rank =
    let len = order_length n places wide in
    let at : (r : ℕ) → r < n → get_or (order_in n places) r 0 ≡ r = λ r h. order_at n places r h ∙ by_rank r h in
    ∣ record {
      few = few;
      long = long;
      wide = wide;
      ranked = record {
        at = λ i h. let k : i < n = omega arith in ap (rank_in ranks) (at i k) ∙ by_place i k;
        held = λ p h. let k : p < n = omega arith in let e = by_place p k in (omega arith, ap (λ (i : ℕ). get_or (order_in n places) i 0) e ∙ at p k);
      };
      below = λ r h. let e = at r h in omega arith;
      inside = λ p q t m. absurd (has_none _ m);
      rising = λ p q t m. absurd (has_none _ m);
    } ∣₁

-- tables in order for the links xs are so for any links that lie inside and rise
module _ {R : Type 0} (n : ℕ) (ranks : List Rank) (places : List PlaceNumber) (xs ys : List (Link R)) (ordered : Ordered n ranks places xs) where
  anew : ((m : Link R) → Has ys m → (m.source.0 < n) × (m.target.0 < n) × (rank_in ranks m.source.0 < rank_in ranks m.target.0)) → Ordered n ranks places ys
  anew all =
      let s = opened n ranks places xs ordered in
      let each : (p q : ℕ) (t : R) → Leads (links_in ys) p q t → (p < n) × (q < n) × (rank_in ranks p < rank_in ranks q) = λ p q t h.
      let l = of_leads (λ t. t) ys p q t h in
      subst₂ (λ (a b : ℕ). (a < n) × (b < n) × (rank_in ranks a < rank_in ranks b)) l.2 l.3 (all l.0 l.1) in
      ∣ record {
        few = s.few;
        long = s.long;
        wide = s.wide;
        ranked = s.ranked;
        below = s.below;
        inside = λ p q t h. let e = each p q t h in (e.0, e.1);
        rising = λ p q t h. (each p q t h).2;
      } ∣₁

  old : (m : Link R) → Has xs m → (m.source.0 < n) × (m.target.0 < n) × (rank_in ranks m.source.0 < rank_in ranks m.target.0)
  old m h =
      let s = opened n ranks places xs ordered in
      let l = leads_of (λ t. t) xs m h in
      let i = s.inside _ _ _ l in
      (i.0, i.1, s.rising _ _ _ l)

  fewer : ((m : Link R) → Has ys m → Has xs m) → Ordered n ranks places ys
  fewer from = anew (λ m h. old m (from m h))

  gains : (l : Link R) → Gained xs ys l → l.source.0 < n → l.target.0 < n → rank_in ranks l.source.0 < rank_in ranks l.target.0 → Ordered n ranks places ys
  gains l gain a b up = anew (λ m h. ⊎_elim {C = (m.source.0 < n) × (m.target.0 < n) × (rank_in ranks m.source.0 < rank_in ranks m.target.0)}
      (λ e. subst (λ (k : Link R). (k.source.0 < n) × (k.target.0 < n) × (rank_in ranks k.source.0 < rank_in ranks k.target.0)) (sym e) (a, b, up))
      (λ i. old m i)
      ((gain.members m).0 h))

pub keeps_order : (R : Type 0) → KeepsOrder R
keeps_order R =
    record {
      first = first;
      gains = λ n ranks places xs ys l o gain a b up. gains n ranks places xs ys o l gain a b up;
      loses = λ n ranks places xs ys u v o lost. fewer n ranks places xs ys o (λ m h. ((lost.members m).0 h).0);
      shuts = λ n ranks places xs ys p o shut. fewer n ranks places xs ys o (λ m h. ((shut.members m).0 h).0);
    }
