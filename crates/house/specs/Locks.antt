-- Locks: a number 0 to 3, and the higher of two. Assumes nothing.
use Rattle.std.specs.Prelude.{◌≡◌, ℕ, min, max, cond, nat_lt}
use Rattle.std.proofs.Common.{arith}
use Rattle.kinds.specs.Meanings.{Meaning}
use Rattle.house.specs.declared.level.Level.{Level}
use Rattle.house.specs.declared.lock.LockPassage.{LockPassage}
use Rattle.house.specs.declared.lock.LockPassage.TheVariants.{Pass, Most}

abbrev pub lock_carry : LockPassage → ℕ → ℕ
lock_carry Pass v = v
lock_carry (Most c) v = min v c.level

-- the passage is that of at most n
abbrev pub IsMost : ℕ → LockPassage → Type 0
IsMost n Pass = ⊥
IsMost n (Most c) = c.level ≡ n

-- any number stands for a lock: the nearest one
abbrev pub lock_of : ℕ → Level 3
lock_of n = record { level = min n 3; high = omega arith }

abbrev pub ceiling_of : ℕ → Level 2
ceiling_of n = record { level = min n 2; high = omega arith }

-- 0 to 2 is a ceiling, and any other number pass
abbrev pub lock_passage_of : ℕ → LockPassage
lock_passage_of n = cond (nat_lt n 3) (Most (ceiling_of n)) Pass

abbrev pub lock_means : Meaning (Level 3) LockPassage ℕ ℕ
lock_means = record {
  Value = ℕ;
  value = λ lock. lock.level;
  kind = record { empty = 0; join = max; carry = lock_carry };
  free = λ d v. nat_lt v 2;
  stands = lock_of;
  leads = lock_passage_of;
}
