-- What a discard makes of the columns. Assumes nothing.
use Rattle.std.specs.Prelude.{◌≡◌, ℕ, ◌≤◌, false, length, vec_items, vec_len}
use Rattle.paths.specs.Calls.{put}
use Rattle.kinds.specs.Meanings.{Meaning}
use Rattle.links.specs.Links.{Shut}
use Rattle.tables.specs.declared.columns.Columns.{Columns}
use Rattle.tables.specs.Columns.{present_in, values_in}
use Rattle.tables.specs.Graph.{size, linked, SameLoan, SameSpace, SameRanks}

-- p is absent, with an empty own label, an empty label and no link into it, and nothing else is changed
pub record Discarded {K P R S : Type 0} (means : Meaning K P R S) (p : ℕ) (old new : Columns R S) : Type 0 where
  pub loan : SameLoan old new
  pub space : SameSpace old new
  pub sizes : (vec_len new.tables.now.present ≡ vec_len old.tables.now.present) × (vec_len new.tables.now.own ≡ vec_len old.tables.now.own) × (vec_len new.tables.now.labels ≡ vec_len old.tables.now.labels)
  pub present : (q : ℕ) → present_in (size old) (vec_items new.tables.now.present) q ≡ put (present_in (size old) (vec_items old.tables.now.present)) p false q
  pub own : (q : ℕ) → values_in means (size old) (vec_items new.tables.now.own) q ≡ put (values_in means (size old) (vec_items old.tables.now.own)) p means.kind.empty q
  pub labels : (q : ℕ) → values_in means (size old) (vec_items new.tables.now.labels) q ≡ put (values_in means (size old) (vec_items old.tables.now.labels)) p means.kind.empty q
  pub ranks : SameRanks old new
  pub marks : new.tables.now.marks ≡ old.tables.now.marks
  pub shut : Shut (linked old) (linked new) p
  pub fewer : length (linked new) ≤ length (linked old)
