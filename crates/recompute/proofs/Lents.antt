-- What always holds of a lent graph. Assumes nothing.
use Rattle.std.proofs.Common.{ℕ, ◌<◌, ◌≤◌, List, length}
use Rattle.std.specs.List.{ContainsAt as Has}
use Rattle.links.specs.declared.row.Link.{Link}
use Rattle.links.specs.declared.row.Side.{Side}
use Rattle.links.specs.LinksAt.{LinksOf}
use Rattle.order.specs.Tables.{Sound}
use Rattle.order.proofs.Graphs.{sound_inside, sound_links}
use Rattle.order.proofs.Props.{opened}
use Rattle.recompute.specs.declared.lent.LentGraph.{LentGraph}
use Rattle.recompute.specs.Lent.{size, linked, ranks_of, order_of}

module _ {R : Type 0} (g : LentGraph R) where
  pub sound_of : Sound (size g) (ranks_of g) (order_of g) (linked g)
  sound_of = opened (size g) (ranks_of g) (order_of g) (linked g) g.ordered

  -- the places of the graph are all in its table of ranks
  pub ranked_long : size g ≤ length (ranks_of g)
  ranked_long = sound_of.long

  -- links lead between places of the graph
  pub linked_inside : (l : Link R) → Has (linked g) l → (l.source.0 < size g) × (l.target.0 < size g)
  linked_inside = sound_inside (size g) (ranks_of g) (order_of g) (linked g) sound_of

  pub links_of_lent : (side : Side) (n p : ℕ) (ys : List (Link R)) → LinksOf side (linked g) n p ys → LinksOf side (linked g) (size g) p ys
  links_of_lent = sound_links (size g) (ranks_of g) (order_of g) (linked g) sound_of
