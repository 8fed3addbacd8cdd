-- Expiries, counts, sets of claims and levels are equal where their numbers are, for a bound has one proof. Assumes nothing.
use Rattle.std.specs.Prelude.{◌≡◌, ℕ, suc, ◌^◌, ◌≤◌, ◌==◌}
use Rattle.std.proofs.Math.Path.{PathP}
use Rattle.std.proofs.Common.{ap}
use Rattle.std.proofs.lemmas.Bool.{eqb-true, eq-eqb}
use Rattle.kinds.specs.Meanings.{Tells}
use mathlib.Core.HLevel.{is_prop→PathP}
use Rattle.std.proofs.Math.Bridge.{le_prop}
use Rattle.house.specs.declared.claims.Claims.{Claims}
use Rattle.house.specs.declared.expiry.Expiry.{Expiry}
use Rattle.house.specs.declared.count.Count.{Count}
use Rattle.house.specs.declared.level.Level.{Level}

-- bounds over equal numbers are equal
abbrev below : {m n : ℕ} (k : ℕ) (e : m ≡ n) (p : m ≤ k) (q : n ≤ k) → PathP (λ i. e i ≤ k) p q
below k e p q = is_prop→PathP (λ i. e i ≤ k) (λ i. le_prop {n = e i} {m = k}) p q

abbrev above : {m n : ℕ} (k : ℕ) (e : m ≡ n) (p : k ≤ m) (q : k ≤ n) → PathP (λ i. k ≤ e i) p q
above k e p q = is_prop→PathP (λ i. k ≤ e i) (λ i. le_prop {n = k} {m = e i}) p q

-- values that their numbers tell apart are told apart by a test of the numbers
pub numbers_tell : {L : Type 0} (number : L → ℕ) → ((a b : L) → number a ≡ number b → a ≡ b) → Tells (λ a b. number a == number b)
numbers_tell number eq = record {
  yes = λ a b e. eq-eqb (number a) (number b) (ap number e);
  only = λ a b t. eq a b (eqb-true (number a) (number b) t);
}

pub expiry_eq : (a b : Expiry) → a.number ≡ b.number → a ≡ b
expiry_eq a b e = λ i. record { number = e i; high = below 84005 e a.high b.high i }

pub count_eq : {most : ℕ} (a b : Count most) → a.count ≡ b.count → a ≡ b
count_eq {most} a b e = λ i. record { count = e i; low = above 1 e a.low b.low i; high = below most e a.high b.high i }

pub claims_eq : (a b : Claims) → a.bits ≡ b.bits → a ≡ b
claims_eq a b e = λ i. record { bits = e i; fits = below (2 ^ 64) (ap suc e) a.fits b.fits i }

pub level_eq : {top : ℕ} (a b : Level top) → a.level ≡ b.level → a ≡ b
level_eq {top} a b e = λ i. record { level = e i; high = below top e a.high b.high i }
