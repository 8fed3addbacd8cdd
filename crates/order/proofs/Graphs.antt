-- What always holds of links that tables in order hold, and of a graph. Assumes nothing.
use Rattle.std.proofs.Common.{ℕ, ◌<◌, List, subst}
use Rattle.std.specs.List.{ContainsAt as Has}
use Rattle.common.specs.declared.number.PlaceNumber.{PlaceNumber}
use Rattle.common.specs.declared.number.Rank.{Rank}
use Rattle.links.specs.declared.row.Link.{Link}
use Rattle.links.specs.declared.row.Side.{Side}
use Rattle.links.specs.LinksAt.{LinksOf}
use Rattle.links.proofs.Ties.{leads_of}
use Rattle.order.specs.declared.graph.Graph.{Graph}
use Rattle.order.specs.Tables.{place_in, Sound}
use Rattle.order.specs.Graph.{size, linked, ranks_of, order_of}
use Rattle.order.proofs.Props.{opened}
use Rattle.order.proofs.Deals.{order_at}

module _ {R : Type 0} (n : ℕ) (ranks : List Rank) (places : List PlaceNumber) (xs : List (Link R)) (sound : Sound n ranks places xs) where
  -- links lead between the places
  pub sound_inside : (l : Link R) → Has xs l → (l.source.0 < n) × (l.target.0 < n)
  sound_inside l h = sound.inside _ _ _ (leads_of (λ (t : R). t) xs l h)

  pub sound_links : (side : Side) (m p : ℕ) (ys : List (Link R)) → LinksOf side xs m p ys → LinksOf side xs n p ys
  sound_links side m p ys e = record { members = e.members; rising = e.rising; inside = λ l h. sound_inside l ((e.members l).0 h).0 }

pub sound_of : {R : Type 0} (g : Graph R) → Sound (size g) (ranks_of g) (order_of g) (linked g)
sound_of g = opened (size g) (ranks_of g) (order_of g) (linked g) g.ordered

pub links_of_graph : {R : Type 0} (g : Graph R) (side : Side) (n p : ℕ) (ys : List (Link R)) → LinksOf side (linked g) n p ys → LinksOf side (linked g) (size g) p ys
links_of_graph g = sound_links (size g) (ranks_of g) (order_of g) (linked g) (sound_of g)

pub place_below : {R : Type 0} (g : Graph R) (r : ℕ) → r < size g → place_in (order_of g) r < size g
place_below g r h = subst (λ (p : ℕ). p < size g) (order_at (size g) (order_of g) r h) ((sound_of g).below r h)
