-- Numbers with the greater of two as their join: such a kind keeps the laws. Assumes nothing.
use Rattle.std.specs.Prelude.{◌≡◌, ℕ, ◌<◌, max, nat_lt}
use Rattle.std.proofs.Common.{arith}
use Rattle.std.proofs.lemmas.Bool.Decides.{nat_tests}
use Rattle.paths.specs.Kind.{Kind, Laws, FreeLaws}

-- the greater of two numbers, over passages that carry
abbrev pub chain : {P : Type 0} → (P → ℕ → ℕ) → Kind ℕ P
chain carry = record { empty = 0; join = max; carry = carry }

-- where each passage keeps 0, and the greater of two
pub chain_laws : {P : Type 0} (carry : P → ℕ → ℕ) → ((p : P) → carry p 0 ≡ 0) → ((p : P) (v w : ℕ) → carry p (max v w) ≡ max (carry p v) (carry p w)) → Laws (chain carry)
chain_laws carry zero keeps = record {
  same = λ v. omega arith;
  swap = λ v w. omega arith;
  group = λ u v w. omega arith;
  unit = λ v. omega arith;
  carry_empty = zero;
  carry_join = keeps;
}

-- where the numbers below a bound of the day are free
pub chain_freeing : {P : Type 0} (carry : P → ℕ → ℕ) (bound : ℕ → ℕ) → ((d : ℕ) → 0 < d → 0 < bound d) → FreeLaws (chain carry) (λ d v. nat_lt v (bound d))
chain_freeing carry bound some = record { of_empty = λ d h. let s = some d h in grind (arith, nat_tests); of_join = λ d v w. grind (arith, nat_tests) }
