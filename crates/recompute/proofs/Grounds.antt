-- What sound tables say of the place of a rank, and of the links with their passages. Assumes nothing.
use Rattle.std.proofs.Common.{◌≡◌, ℕ, ◌<◌, List, sym, ap, ◌∙◌, subst}
use Rattle.common.specs.declared.number.PlaceNumber.{PlaceNumber}
use Rattle.common.specs.declared.number.Rank.{Rank}
use Rattle.paths.specs.Ledger.{Leads, Inside}
use Rattle.paths.specs.Equations.{Topological}
use Rattle.kinds.specs.Meanings.{Meaning}
use Rattle.links.specs.declared.row.Link.{Link}
use Rattle.links.proofs.Ties.{leads_of, of_leads}
use Rattle.order.specs.Tables.{rank_in, place_in, links_in, Sound}
use Rattle.order.proofs.Deals.{order_at}
use Rattle.order.proofs.Ways.{sound_at, sound_one}
use Rattle.recompute.specs.Tables.{arrows_in}

module _ {S : Type 0} (n : ℕ) (ranks : List Rank) (places : List PlaceNumber) (xs : List (Link S)) (sound : Sound n ranks places xs) where
  pub place_low : (r : ℕ) → r < n → place_in places r < n
  place_low r l = subst (λ (p : ℕ). p < n) (order_at n places r l) (sound.below r l)

  pub place_rank : (r : ℕ) → r < n → rank_in ranks (place_in places r) ≡ r
  place_rank r l = ap (rank_in ranks) (sym (order_at n places r l)) ∙ sound_at n ranks places xs sound r l

  pub place_only : (r q : ℕ) → r < n → q < n → rank_in ranks q ≡ r → q ≡ place_in places r
  place_only r q l k e = sound_one n ranks places xs sound r q k e ∙ order_at n places r l

module _ {L P R S : Type 0} (m : Meaning L P R S) (n : ℕ) (ranks : List Rank) (xs : List (Link S)) where
  plain : (u v : ℕ) (t : P) → Leads (arrows_in m xs) u v t → (s : S) × Leads (links_in xs) u v s
  plain u v t h =
      let o = of_leads m.leads xs u v t h in
      let l = o.0 in (
        l.passage,
        subst (λ (a : ℕ). Leads (links_in xs) a v l.passage) o.2 (subst (λ (b : ℕ). Leads (links_in xs) l.source.0 b l.passage) o.3 (leads_of (λ (s : S). s) xs l o.1)),
      )

  pub rising : Topological (rank_in ranks) (links_in xs) → Topological (rank_in ranks) (arrows_in m xs)
  rising up u v t h = let o = plain u v t h in up u v o.0 o.1

  pub within : Inside n (links_in xs) → Inside n (arrows_in m xs)
  within inside u v t h = let o = plain u v t h in inside u v o.0 o.1
