-- Values made from a number. Assumes nothing.
use Rattle.std.specs.Prelude.{◌≡◌, ℕ, ◌≤◌, min, max, Result, MatchResult}
use Rattle.common.specs.declared.refusal.Refusal.{Refusal}
use Rattle.common.specs.declared.refusal.Refusal.TheVariants.{OutOfRange}

-- n lies from low to high
abbrev pub Between : ℕ → ℕ → ℕ → Type 0
Between low high n = (low ≤ n) × (n ≤ high)

-- the number from low to high that is nearest to n
abbrev pub nearest : ℕ → ℕ → ℕ → ℕ
nearest low high n = min (max n low) high

-- a number in its range gives a value of which P holds, and any other is refused
abbrev pub Ranged : {V : Type 0} → ℕ → ℕ → ℕ → Result V Refusal → (V → Type 0) → Type 0
Ranged low high n r P = MatchResult r (λ v. Between low high n × P v) (λ e. (e ≡ OutOfRange) × (Between low high n → ⊥))
