-- What stands of the graph in the columns of a store. Assumes nothing.
use Rattle.std.proofs.Common.{◌≡◌, ℕ, ◌<◌, sym, ap, ◌∙◌, subst}
use Rattle.order.specs.Tables.{Sound}
use Rattle.order.proofs.Props.{opened}
use Rattle.tables.specs.declared.columns.Columns.{Columns}
use Rattle.tables.specs.Graph.{size, linked, ranks_of, order_of, SameGraph, SameSpace}

module _ {R S : Type 0} where
  -- the tables of ranks are in order, and every link leads from a lower rank to a higher
  pub sound_at : (c : Columns R S) (n : ℕ) → size c ≡ n → 0 < n → Sound n (ranks_of c) (order_of c) (linked c)
  sound_at c n e some = subst (λ k. Sound k (ranks_of c) (order_of c) (linked c)) e (opened (size c) (ranks_of c) (order_of c) (linked c) (c.ordered (subst (λ k. 0 < k) (sym e) some)))

  -- the same graph has the same room
  pub same_space : (c d : Columns R S) → SameGraph c d → SameSpace c d
  same_space c d g = record { size = g.size; ranks = ap (λ v. v.len) g.ranks.0; order = ap (λ v. v.len) g.ranks.1; heads = ap (λ v. v.len) g.links.1; links = ap (λ v. v.len) g.links.0 }

  pub space_stays : (b c d : Columns R S) → SameSpace b c → SameSpace c d → SameSpace b d
  space_stays b c d e f = record { size = f.size ∙ e.size; ranks = f.ranks ∙ e.ranks; order = f.order ∙ e.order; heads = f.heads ∙ e.heads; links = f.links ∙ e.links }
