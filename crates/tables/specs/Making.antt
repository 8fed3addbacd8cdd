-- The checks of the lent tables, and what the columns say once cleared for a new store. Assumes nothing.
use Rattle.std.specs.Prelude.{◌≡◌, ℕ, false, List, [], ◌∷◌, drop, vec_items}
use Rattle.common.specs.Checks.{Check, ◌when◌}
use Rattle.common.specs.declared.refusal.Refusal.{Refusal}
use Rattle.common.specs.declared.refusal.Refusal.TheVariants.{BadSize, ShortTable}
use Rattle.paths.specs.Order.{upto}
use Rattle.kinds.specs.Meanings.{Meaning}
use Rattle.order.specs.Tables.{order_in}
use Rattle.tables.specs.declared.columns.Columns.{Columns}
use Rattle.tables.specs.declared.tables.Tables.{Tables}
use Rattle.tables.specs.Room.{Limits, Room}
use Rattle.tables.specs.Graph.{size, linked, order_of, SameLoan}
use Rattle.tables.specs.Columns.{present_in, values_in}

-- the checks of making, in order
abbrev pub making : {R S : Type 0} → Tables R S → ℕ → ℕ → List (Check Refusal)
making t n m = (BadSize when (Limits n m → ⊥)) ∷ (ShortTable when (Room t n m → ⊥)) ∷ []

-- new are the columns old, cleared for a new store of n places for m links
pub record Cleared {K P R S : Type 0} (means : Meaning K P R S) (n m : ℕ) (old new : Columns R S) : Type 0 where
  pub loan : SameLoan old new
  pub room : Room new.tables.now n m
  pub places : size new ≡ n
  pub present : (p : ℕ) → present_in n (vec_items new.tables.now.present) p ≡ false
  pub own : (p : ℕ) → values_in means n (vec_items new.tables.now.own) p ≡ means.kind.empty
  pub labels : (p : ℕ) → values_in means n (vec_items new.tables.now.labels) p ≡ means.kind.empty
  pub order : order_in n (order_of new) ≡ upto n
  pub unlinked : linked new ≡ []
  pub past : drop n (vec_items new.tables.now.marks) ≡ drop n (vec_items old.tables.now.marks)
