-- A table whose rows and heads are lent to a call, and given back. Assumes nothing.
use Rattle.std.proofs.Common.{◌≡◌, List, length, sym, subst₂}
use Rattle.std.specs.Vec.{with_items}
use Rattle.std.proofs.lemmas.List.{with_items_is}
use Rattle.links.specs.declared.row.LinkRow.{LinkRow}
use Rattle.links.specs.declared.row.Heads.{Heads}
use Rattle.links.specs.declared.row.Tally.{Tally}
use Rattle.links.specs.declared.table.LinkTable.{LinkTable}
use Rattle.links.specs.Table.{Kept}

module _ {R : Type 0} (t : LinkTable R) (rows : List (LinkRow R)) (heads : List Heads) where
  -- what is lent is in order
  pub kept_lent : rows ≡ t.rows.items → heads ≡ t.heads.items → Kept rows heads t.tally
  kept_lent e f = subst₂ (λ rs hs. Kept rs hs t.tally) (sym e) (sym f) t.kept

  -- and so is what comes back
  pub kept_back : (tally : Tally) → length rows ≡ t.rows.len → length heads ≡ t.heads.len → Kept rows heads tally → Kept (with_items t.rows rows).items (with_items t.heads heads).items tally
  kept_back tally e f k = subst₂ (λ rs hs. Kept rs hs tally) (sym (with_items_is t.rows rows e)) (sym (with_items_is t.heads heads f)) k
