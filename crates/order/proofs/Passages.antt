-- Paths among a table's links and among the ledger's. Assumes nothing.
use Rattle.std.proofs.Common.{ℕ, ◌↔◌, List, subst₂}
use Rattle.paths.specs.Ledger.{Leads, Path, at, over}
use Rattle.paths.specs.Ledger.{Link as Arrow}
use Rattle.paths.specs.Equations.{Topological}
use Rattle.links.specs.declared.row.Link.{Link}
use Rattle.links.specs.Theory.{arrows, Alike}
use Rattle.links.proofs.Ties.{leads_of, of_leads}
use Rattle.order.specs.Tables.{links_in}
use Rattle.order.specs.Admit.{Reordered}
use Rattle.order.specs.Theorems.{SamePaths}

-- a link leads from q to p
abbrev Step : {P : Type 0} → List (Arrow P) → ℕ → ℕ → Type 0
Step {P} links q p = (t : P) × Leads links q p t

path_on : {P Q : Type 0} (xs : List (Arrow P)) (ys : List (Arrow Q)) → ((q p : ℕ) → Step xs q p → Step ys q p) → (v : ℕ) {p : ℕ} → Path xs v p → Path ys v p
path_on xs ys on v at = at
path_on xs ys on v (over {p = q} {q = p} π t h) = let s = on q p (t, h) in over (path_on xs ys on v π) s.0 s.1

module _ {R P : Type 0} (leads : R → P) (xs : List (Link R)) (gs : List (Arrow P)) (alike : Alike (arrows leads xs) gs) where
  to_ledger : (q p : ℕ) → Step (links_in xs) q p → Step gs q p
  to_ledger q p (t, h) =
      let l = of_leads (λ t. t) xs q p t h in
      let m = subst₂ (λ (a b : ℕ). Leads (arrows leads xs) a b (leads l.0.passage)) l.2 l.3 (leads_of leads xs l.0 l.1) in
      (leads l.0.passage, (alike.members q p (leads l.0.passage)).0 m)

  from_ledger : (q p : ℕ) → Step gs q p → Step (links_in xs) q p
  from_ledger q p (t, h) =
      let l = of_leads leads xs q p t ((alike.members q p t).1 h) in
      (l.0.passage, subst₂ (λ (a b : ℕ). Leads (links_in xs) a b l.0.passage) l.2 l.3 (leads_of (λ t. t) xs l.0 l.1))

  same_path : (v p : ℕ) → Path (links_in xs) v p ↔ Path gs v p
  same_path v p = (path_on (links_in xs) gs to_ledger v, path_on gs (links_in xs) from_ledger v)

  same_rise : (rank : ℕ → ℕ) → Topological rank (links_in xs) ↔ Topological rank gs
  same_rise rank = (
    λ up q p t h. let s = from_ledger q p (t, h) in up q p s.0 s.1,
    λ up q p t h. let s = to_ledger q p (t, h) in up q p s.0 s.1,
  )

  same_move : (rank : ℕ → ℕ) (n u v : ℕ) (old new : List ℕ) → Reordered (links_in xs) rank n u v old new ↔ Reordered gs rank n u v old new
  same_move rank n u v old new = (
    λ r. record {
      forward = r.forward;
      reached = λ p h l. let a = r.reached p h l in let b = same_path v p in (λ e. b.0 (a.0 e), λ π. a.1 (b.1 π));
      order = r.order;
    },
    λ r. record {
      forward = r.forward;
      reached = λ p h l. let a = r.reached p h l in let b = same_path v p in (λ e. b.1 (a.0 e), λ π. a.1 (b.0 π));
      order = r.order;
    },
  )

pub same_paths : (R P : Type 0) → SamePaths R P
same_paths R P = record { paths = same_path; rises = same_rise; moves = same_move }
