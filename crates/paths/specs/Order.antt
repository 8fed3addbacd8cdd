-- The places in the order of their ranks, and how a new link moves them. Assumes nothing.
use Rattle.std.specs.Prelude.{◌≡◌, ℕ, zero, suc, ◌+◌, ◌-◌, ◌<◌, Bool, cond, not, ◌⊎◌, List, [], ◌∷◌, ◌++◌, length, take, drop, filter, ◌==◌, slice_index}
use Rattle.std.specs.List.{ContainsAt as Has}

-- the ranks 0 to n - 1, each held by one place: order is the places in rising rank
pub record Ranked (rank : ℕ → ℕ) (order : List ℕ) : Type 0 where
  pub at : (i : ℕ) → i < length order → rank (slice_index order i) ≡ i
  pub held : (p : ℕ) → p < length order → (rank p < length order) × (slice_index order (rank p) ≡ p)

-- the order at first: place p with rank p
abbrev pub upto : ℕ → List ℕ
upto zero = []
upto (suc n) = upto n ++ (n ∷ [])

-- the rank of p in an order: how many places stand before it
abbrev pub rank_in : List ℕ → ℕ → ℕ
rank_in [] p = 0
rank_in (x ∷ xs) p = cond (x == p) 0 (suc (rank_in xs p))

-- p stands before q
abbrev pub Before : List ℕ → ℕ → ℕ → Type 0
Before [] p q = ⊥
Before (x ∷ xs) p q = ((x ≡ p) × Has xs q) ⊎ Before xs p q

-- the places outside the marked set, and then those in it, each in the order met
abbrev pub shared_out : (ℕ → Bool) → List ℕ → List ℕ
shared_out marked walk = filter (λ p. not (marked p)) walk ++ filter marked walk

-- the order after a link from the place of rank u to that of rank v, which is not the higher: the ranks from v to u are shared out again
abbrev pub moved : (ℕ → Bool) → ℕ → ℕ → List ℕ → List ℕ
moved marked v u order = take v order ++ (shared_out marked (take (u + 1 - v) (drop v order)) ++ drop (u + 1) order)
