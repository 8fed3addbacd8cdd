-- Tables that are lent to a call, and given back. Assumes nothing.
use Rattle.std.proofs.Common.{◌≡◌, List, length, Vec, sym, ap, ◌∙◌, subst, subst₂}
use mathlib.Core.HLevel.{is_prop→PathP}
use native.Mathlib.Nat.{ℕ_set}
use Rattle.std.specs.Vec.{with_items}
use Rattle.std.proofs.lemmas.List.{with_items_is}
use Rattle.links.specs.declared.row.LinkRow.{LinkRow}
use Rattle.links.specs.declared.row.Heads.{Heads}
use Rattle.links.specs.declared.row.Tally.{Tally}
use Rattle.links.specs.Table.{Kept}

-- what a table holds that was lent: the entries as they came back
pub over : {X Z : Type 0} (v : Vec X Z) (ws : List X) (Q : List X → Type 0) → length ws ≡ v.len → Q ws → Q (with_items v ws).items
over v ws Q e q = subst Q (sym (with_items_is v ws e)) q

-- a table that came back as it was
pub same_table : {X Z : Type 0} (v : Vec X Z) (ws : List X) → ws ≡ v.items → with_items v ws ≡ v
same_table v ws e =
    let long : length ws ≡ v.len = ap length e ∙ sym v.ok.0 in
    let items : (with_items v ws).items ≡ v.items = with_items_is v ws long ∙ e in
    let ok = is_prop→PathP (λ i. v.len ≡ length (items i)) (λ i. ℕ_set v.len (length (items i))) (with_items v ws).ok.0 v.ok.0 in
    λ i. record { ptr = v.ptr; len = v.len; cap = v.cap; alloc = v.alloc; items = items i; ok = (ok i, v.ok.1); small = v.small }

-- rows and heads that came back in order
pub kept_back : {S Y Z : Type 0} (v : Vec (LinkRow S) Y) (w : Vec Heads Z) (rows : List (LinkRow S)) (heads : List Heads) (tally : Tally) → length rows ≡ v.len → length heads ≡ w.len → Kept rows heads tally →
    Kept (with_items v rows).items (with_items w heads).items tally
kept_back v w rows heads tally e f k = subst₂ (λ rs hs. Kept rs hs tally) (sym (with_items_is v rows e)) (sym (with_items_is w heads f)) k
