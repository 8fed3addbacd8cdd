-- The lock in text, `(lock R)` with R from 1 to 3, and its passage, `(most S)` with S from 0 to 2. Assumes nothing.
use Rattle.std.specs.Prelude.{ℕ, ◌+◌, Bool, true, false, List, [], ◌∷◌, codes, ◌==◌}
use Rattle.std.specs.Str.{bytes_eq}
use Rattle.reading.specs.Reading.{Read, then, give}
use Rattle.house.specs.declared.level.Level.{Level}
use Rattle.house.specs.declared.lock.LockPassage.{LockPassage}
use Rattle.house.specs.declared.lock.LockPassage.TheVariants.{Pass, Most}
use Rattle.house.specs.Locks.{lock_of, lock_passage_of}
use Rattle.parts.specs.Parts.{Part}
use Rattle.house_text.specs.ExpiryText.{counted}

abbrev pub lock_word : List ℕ → Bool
lock_word w = bytes_eq w (codes "lock")

abbrev pub lock_body : Read (Level 3)
lock_body = then (counted 1 3) (λ n. give (lock_of n))

abbrev pub lock_part : Part (Level 3)
lock_part = record {
  mine = lock_word;
  body = λ _. lock_body;
  none = lock_of 0;
  empty = λ k. (k.level == 0);
  first = λ _. codes "lock";
  args = λ k. 32 ∷ (48 + k.level) ∷ [];
}

abbrev pub most_word : List ℕ → Bool
most_word w = bytes_eq w (codes "most")

abbrev pub most_body : Read LockPassage
most_body = then (counted 0 2) (λ n. give (lock_passage_of n))

abbrev pub passes_all : LockPassage → Bool
passes_all Pass = true
passes_all (Most c) = false

abbrev pub most_first : LockPassage → List ℕ
most_first Pass = []
most_first (Most c) = codes "most"

abbrev pub most_args : LockPassage → List ℕ
most_args Pass = []
most_args (Most c) = 32 ∷ (48 + c.level) ∷ []

abbrev pub most_part : Part LockPassage
most_part = record {
  mine = most_word;
  body = λ _. most_body;
  none = Pass;
  empty = passes_all;
  first = most_first;
  args = most_args;
}
