-- What an edit makes of the columns that are lent, it makes of the tables. Assumes nothing.
use Rattle.std.proofs.Common.{◌≡◌, ℕ, ◌≤◌, List, Ok, Err, Result, MatchResult, length, vec_items, vec_len, sym, ap, ◌∙◌, subst, subst₂}
use Rattle.common.specs.declared.number.PlaceNumber.{PlaceNumber}
use Rattle.common.specs.declared.refusal.Refusal.{Refusal}
use Rattle.common.specs.declared.refusal.Refusal.TheVariants.{Circle}
use Rattle.paths.specs.Ledger.{Path}
use Rattle.paths.specs.Walk.{Put}
use Rattle.kinds.specs.Meanings.{Meaning}
use Rattle.links.specs.declared.row.Link.{Link}
use Rattle.links.specs.Links.{Gained, Lost}
use Rattle.links.specs.Table.{links}
use Rattle.order.specs.Admit.{Admitted}
use Rattle.order.specs.Tables.{links_in}
use Rattle.recompute.specs.Tables.{value_in, Recomputes}
use Rattle.tables.specs.declared.tables.Tables.{Tables}
use Rattle.tables.specs.declared.columns.Columns.{Columns}
use Rattle.tables.specs.Graph.{SameGraph, SameSpace, SameRanks}
use Rattle.editing.specs.Edited.{SameRoom, Owned, Unlinked, Linked, Circles}
use Rattle.owned.specs.declared.owner.OwnedTables.{OwnedTables}
use Rattle.owned.specs.Lent.{columns}

-- the columns hold what the tables hold
pub record Holds {R S : Type 0} (c : Columns R S) (t : OwnedTables R S) : Type 0 where
  pub tables : c.tables.now ≡ t.tables
  pub tally : c.tally ≡ t.tally
  pub places : c.places ≡ t.places

module _ {R S : Type 0} (c d : Columns R S) (t u : OwnedTables R S) (old : Holds c t) (new : Holds d u) where
  -- what is alike in the columns is alike in the tables
  alike : {X : Type 0} (f : Tables R S → X) → f d.tables.now ≡ f c.tables.now → f u.tables ≡ f t.tables
  alike f e = sym (ap f new.tables) ∙ e ∙ ap f old.tables

  ranks_by : SameRanks c d → SameRanks (columns t) (columns u)
  ranks_by e = (alike (λ x. x.ranks) e.0, alike (λ x. x.order) e.1)

  space_by : SameSpace c d → SameSpace (columns t) (columns u)
  space_by e = record {
    size = sym new.places ∙ e.size ∙ old.places;
    ranks = alike (λ x. vec_len x.ranks) e.ranks;
    order = alike (λ x. vec_len x.order) e.order;
    heads = alike (λ x. vec_len x.heads) e.heads;
    links = alike (λ x. vec_len x.links) e.links;
  }

  graph_by : SameGraph c d → SameGraph (columns t) (columns u)
  graph_by e = record {
    size = sym new.places ∙ e.size ∙ old.places;
    ranks = ranks_by e.ranks;
    links = (alike (λ x. x.links) e.links.0, alike (λ x. x.heads) e.links.1, sym new.tally ∙ e.links.2 ∙ old.tally);
  }

  room_by : SameRoom c d → SameRoom (columns t) (columns u)
  room_by e = record {
    present = alike (λ x. vec_len x.present) e.present;
    own = alike (λ x. vec_len x.own) e.own;
    labels = alike (λ x. vec_len x.labels) e.labels;
    graph = space_by e.graph;
    marks = alike (λ x. vec_items x.marks) e.marks;
  }

  -- what is said of both
  both : (Q : Tables R S → Tables R S → Type 0) → Q c.tables.now d.tables.now → Q t.tables u.tables
  both Q q = subst₂ Q old.tables new.tables q

  -- what is said of their number of places
  sized : (Q : ℕ → Type 0) → Q c.places → Q t.places
  sized Q q = subst Q old.places q

  circles_by : (a b : ℕ) → Circles a b c d → Circles a b (columns t) (columns u)
  circles_by a b e = record {
    path = both (λ x y. Path (links_in (links (vec_items x.links))) b a) e.path;
    labels = alike (λ x. x.labels) e.labels;
    graph = graph_by e.graph;
  }

  module _ {K P : Type 0} (m : Meaning K P R S) (list : List PlaceNumber) (counts : ℕ × ℕ) where
    pub owned_by : (p : ℕ) (v : m.Value) → Owned m p v c d list counts → Owned m p v (columns t) (columns u) list counts
    owned_by p v e = record {
      room = room_by e.room;
      present = alike (λ x. x.present) e.present;
      graph = graph_by e.graph;
      own = both (λ x y. Put (value_in m t.places (vec_items x.own)) (value_in m t.places (vec_items y.own)) p v)
          (sized (λ n. Put (value_in m n (vec_items c.tables.now.own)) (value_in m n (vec_items d.tables.now.own)) p v) e.own);
      labels = both (λ x y. Recomputes m t.places (vec_items y.own) (links (vec_items x.links)) (vec_items x.ranks) p (vec_items x.labels) (vec_items y.labels) list counts)
          (sized (λ n. Recomputes m n (vec_items d.tables.now.own) (links (vec_items c.tables.now.links)) (vec_items c.tables.now.ranks) p (vec_items c.tables.now.labels) (vec_items d.tables.now.labels) list counts) e.labels);
    }

    pub unlinked_by : (a b : ℕ) → Unlinked m a b c d list counts → Unlinked m a b (columns t) (columns u) list counts
    unlinked_by a b e = record {
      room = room_by e.room;
      present = alike (λ x. x.present) e.present;
      own = alike (λ x. x.own) e.own;
      ranks = ranks_by e.ranks;
      lost = both (λ x y. Lost (links (vec_items x.links)) (links (vec_items y.links)) a b) e.lost;
      fewer = both (λ x y. length (links (vec_items y.links)) ≤ length (links (vec_items x.links))) e.fewer;
      labels = both (λ x y. Recomputes m t.places (vec_items x.own) (links (vec_items y.links)) (vec_items y.ranks) b (vec_items x.labels) (vec_items y.labels) list counts)
          (sized (λ n. Recomputes m n (vec_items c.tables.now.own) (links (vec_items d.tables.now.links)) (vec_items d.tables.now.ranks) b (vec_items c.tables.now.labels) (vec_items d.tables.now.labels) list counts) e.labels);
    }

    linked_by : (l : Link S) → Linked m l c d list counts → Linked m l (columns t) (columns u) list counts
    linked_by l e = record {
      gained = both (λ x y. Gained (links (vec_items x.links)) (links (vec_items y.links)) l) e.gained;
      ranks = both (λ x y. Admitted t.places (links (vec_items x.links)) l.source.0 l.target.0 (vec_items x.ranks) (vec_items y.ranks) (vec_items x.order) (vec_items y.order))
          (sized (λ n. Admitted n (links (vec_items c.tables.now.links)) l.source.0 l.target.0 (vec_items c.tables.now.ranks) (vec_items d.tables.now.ranks) (vec_items c.tables.now.order) (vec_items d.tables.now.order)) e.ranks);
      labels = both (λ x y. Recomputes m t.places (vec_items x.own) (links (vec_items y.links)) (vec_items y.ranks) l.target.0 (vec_items x.labels) (vec_items y.labels) list counts)
          (sized (λ n. Recomputes m n (vec_items c.tables.now.own) (links (vec_items d.tables.now.links)) (vec_items d.tables.now.ranks) l.target.0 (vec_items c.tables.now.labels) (vec_items d.tables.now.labels) list counts) e.labels);
    }

  module _ {K P : Type 0} (m : Meaning K P R S) (l : Link S) (list : List PlaceNumber) where
    pub told_by : (r : Result (ℕ × ℕ) Refusal) → MatchResult r (λ k. Linked m l c d list k) (λ e. (e ≡ Circle) × Circles l.source.0 l.target.0 c d) →
        MatchResult r (λ k. Linked m l (columns t) (columns u) list k) (λ e. (e ≡ Circle) × Circles l.source.0 l.target.0 (columns t) (columns u))
    told_by (Ok k) e = linked_by m list k l e
    told_by (Err x) e = (e.0, circles_by l.source.0 l.target.0 e.1)
