-- Claims: a set of numbers below 64, and the union of two. Assumes nothing.
use Rattle.std.specs.Prelude.{ℕ, ◌%◌, ◌^◌, Bool, false, ◌&&◌, ◌||◌}
use Rattle.std.proofs.Common.{lit<}
use Rattle.std.proofs.lemmas.Nat.{mod_below}
use Rattle.house.specs.BitSets.{bit, clear}
use Rattle.kinds.specs.Meanings.{Meaning}
use Rattle.house.specs.declared.claims.Claims.{Claims}

-- whether a set has the claim k
abbrev pub member : Claims → ℕ → Bool
member c = bit c.bits

-- any number stands for a set: its lowest 64 bits
abbrev pub claims_of : ℕ → Claims
claims_of n = record { bits = n % 2 ^ 64; fits = mod_below n (2 ^ 64) (lit< tt) }

abbrev pub claims_means : Meaning Claims Claims ℕ ℕ
claims_means = record {
  Value = ℕ → Bool;
  value = member;
  kind = record { empty = λ k. false; join = λ v w. λ k. v k || w k; carry = λ p v. λ k. v k && member p k };
  free = λ d v. clear 64 v;
  stands = claims_of;
  leads = claims_of;
}
