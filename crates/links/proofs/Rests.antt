-- What is still to come of the links at a place. Assumes nothing.
use Rattle.std.proofs.Common.{◌≡◌, ℕ, ◌<◌, List, [], ◌∷◌, length, get_or, None, Some, sym, refl, ◌∙◌, subst}
use Rattle.std.specs.List.{slice_get}
use Rattle.links.specs.declared.row.Slot.{Slot}
use Rattle.links.specs.declared.row.Link.{Link}
use Rattle.links.specs.declared.row.Heads.{Heads}
use Rattle.links.specs.declared.row.LinkRow.TheVariants.{Used}
use Rattle.links.specs.declared.table.links_at.LinksAt.{LinksAt}
use Rattle.links.specs.Table.{link_at, links, head_of, no_heads, above, Climbing, Sound}
use Rattle.links.specs.LinksAt.{LinksOf, onward, rest}
use Rattle.links.proofs.Onward.{stop, step_on, all_above}
use Rattle.links.proofs.Holding.{got}
use Rattle.links.proofs.Props.{climbing_prop}

-- nothing, where the slot at hand holds no link
pub rest_none : {R : Type 0} (it : LinksAt R) → link_at it.rows.now it.at.0 ≡ None → rest it ≡ []
unfolding rest
rest_none it e = stop it.side it.rows.now (above it.side it.rows.now) it.at.0 e

-- its link, and what is to come from the next slot on
pub rest_some : {R : Type 0} (it : LinksAt R) (l : Link R) (h : Heads) (s : Slot) (climbing : Climbing it.side it.rows.now) → slice_get it.rows.now it.at.0 ≡ Some (Used l h) → s.0 ≡ head_of it.side h →
    rest it ≡ l ∷ rest (record { rows = it.rows; side = it.side; at = s; climbing = climbing })
unfolding rest
rest_some it l h s climbing e f =
    let rows = it.rows.now in
    let r = got rows it.at.0 l h e in
    let n = above it.side rows in
    subst (λ k. onward it.side rows n it.at.0 ≡ l ∷ onward it.side rows n k) (sym (f ∙ r.goes it.side)) (step_on it.side rows it.climbing it.at.0 l r.link)

-- every link there, from the head of the thread on
pub rest_all : {R : Type 0} (it : LinksAt R) (heads : List Heads) (count free : ℕ) → Sound it.rows.now heads count free → (p : ℕ) → p < length heads → it.at.0 ≡ head_of it.side (get_or heads p no_heads) →
    LinksOf it.side (links it.rows.now) (length heads) p (rest it)
unfolding rest
rest_all it heads count free so p i e =
    let rows = it.rows.now in
    subst (λ k. LinksOf it.side (links rows) (length heads) p (onward it.side rows (above it.side rows) k)) (sym e) (all_above it.side rows heads count free so (length heads) p refl i)

-- that the links climb is one fact, so that a walk at the same slot of the same rows is the same
pub same_walk : {R : Type 0} (it : LinksAt R) (climbing : Climbing it.side it.rows.now) → record { rows = it.rows; side = it.side; at = it.at; climbing = climbing } ≡ it
same_walk it climbing = λ i. record { rows = it.rows; side = it.side; at = it.at; climbing = climbing_prop it.side it.rows.now climbing it.climbing i }
