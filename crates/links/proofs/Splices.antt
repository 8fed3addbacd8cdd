-- One step of a thread set anew. Assumes nothing.
use Rattle.std.proofs.Common.{◌≡◌, ℕ, List, set, Some, sym, refl, ap, ◌∙◌, arith}
use Rattle.std.specs.List.{slice_get}
use Rattle.links.specs.declared.row.Slot.{Slot}
use Rattle.links.specs.declared.row.Link.{Link}
use Rattle.links.specs.declared.row.LinkRow.{LinkRow}
use Rattle.links.specs.declared.row.LinkRow.TheVariants.{Used}
use Rattle.links.specs.declared.row.Heads.{Heads}
use Rattle.links.specs.declared.row.Side.{Side}
use Rattle.links.specs.declared.row.Side.TheVariants.{Leaving, Entering}
use Rattle.links.specs.Table.{Shape, shape, at, next, other_side, head_of, with_head, Spliced}
use Rattle.links.proofs.Rows.{at_same, at_other, field_kept, linked_kept}
use Rattle.links.proofs.Held.{row_got}

head_new : (side : Side) (h : Heads) (s : Slot) → head_of side (with_head side h s) ≡ s.0
head_new Leaving h s = refl
head_new Entering h s = refl

head_old : (side : Side) (h : Heads) (s : Slot) → head_of (other_side side) (with_head side h s) ≡ head_of (other_side side) h
head_old Leaving h s = refl
head_old Entering h s = refl

-- what comes next after a link is the head of the rest
pub next_is : {R : Type 0} (side : Side) (l : Link R) (h : Heads) → next side (shape (Used l h)) ≡ head_of side h
next_is Leaving l h = refl
next_is Entering l h = refl

pub spliced_row : {R : Type 0} (side : Side) (rows : List (LinkRow R)) (heads : List Heads) (prev p : ℕ) (s : Slot) (l : Link R) (h : Heads) →
    slice_get rows prev ≡ Some (Used l h) → Spliced side rows (set rows prev (Used l (with_head side h s))) heads heads prev p s.0
spliced_row side rows heads prev p s l h e =
    let y = Used l (with_head side h s) in
    let r = row_got rows prev (Used l h) e in
    let keep : (F : Shape → ℕ) → F (shape y) ≡ F (shape (Used l h)) → (k : ℕ) → F (at (set rows prev y) k) ≡ F (at rows k) =
    λ F f. field_kept F rows prev y r.0 (f ∙ ap F (sym r.1)) in
    record {
      same_links = linked_kept rows prev y (sym r.2);
      kept = λ k. (keep (λ z. z.unused) refl k, keep (λ z. z.source) refl k, keep (λ z. z.target) refl k);
      same_next = λ k ne. ap (next side) (at_other rows prev k y ne);
      behind = λ _. ap (next side) (at_same rows prev y r.0) ∙ next_is side l (with_head side h s) ∙ head_new side h s;
      other_next = keep (next (other_side side)) (next_is (other_side side) l (with_head side h s) ∙ head_old side h s ∙ sym (next_is (other_side side) l h));
      same_head = λ q _. refl;
      stays_head = λ _. refl;
      new_head = λ ge. absurd (omega (arith, r.0));
      other_head = λ q. refl;
    }
