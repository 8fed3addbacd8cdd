-- Where the links of a table lead. Assumes nothing.
use Rattle.std.proofs.Common.{◌≡◌, ℕ, ◌<◌, List, length, Some, sym, ap, ◌∙◌, arith}
use Rattle.std.specs.List.{ContainsAt as Has}
use Rattle.links.specs.declared.row.LinkRow.{LinkRow}
use Rattle.links.specs.declared.row.Heads.{Heads}
use Rattle.links.specs.declared.row.Link.{Link}
use Rattle.links.specs.Table.{link_at, linked, links, Sound}
use Rattle.links.proofs.Held.{link_live}
use Rattle.links.proofs.Haves.{slot_having}

module _ {R : Type 0} (rows : List (LinkRow R)) (heads : List Heads) (count free : ℕ) (so : Sound rows heads count free) where
  -- two links between the same places are one
  pub one_link : (l m : Link R) → Has (links rows) l → Has (links rows) m → l.source.0 ≡ m.source.0 → l.target.0 ≡ m.target.0 → l ≡ m
  one_link l m hl hm e f =
      let a = slot_having (linked rows) l hl in
      let b = slot_having (linked rows) m hm in
      let w = link_live rows a.0 l a.1 in
      let v = link_live rows b.0 m b.1 in
      let k = so.single a.0 b.0 w.1 v.1 (w.2 ∙ e ∙ sym v.2) (w.3 ∙ f ∙ sym v.3) in
      let x : link_at rows b.0 ≡ Some l = ap (link_at rows) (sym k) ∙ a.1 in
      let y : link_at rows b.0 ≡ Some m = b.1 in
      cc

  -- a link leads from a place of the table to another
  pub inside : (l : Link R) → Has (links rows) l → (l.source.0 < length heads) × (l.target.0 < length heads)
  inside l h =
      let a = slot_having (linked rows) l h in
      let w = link_live rows a.0 l a.1 in
      let i = so.inside a.0 w.1 in
      (omega (arith, i.0, w.2), omega (arith, i.1, w.3))
