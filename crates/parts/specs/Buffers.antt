-- Writing into a caller's buffer. Assumes nothing.
use Rattle.std.specs.Prelude.{◌≡◌, ℕ, ◌+◌, ◌<◌, List, ◌++◌, length, take, drop, Some, None, Option, Result, MatchResult}
use Rattle.common.specs.declared.refusal.Refusal.{Refusal}
use Rattle.common.specs.declared.refusal.Refusal.TheVariants.{ShortBuffer}

-- the buffer d with the bytes s in it from the place at
abbrev pub wrote : List ℕ → ℕ → List ℕ → List ℕ
wrote d at s = take at d ++ (s ++ drop (at + length s) d)

-- d became e by writing s at the place at, and end is the place after it
abbrev pub Put : List ℕ → ℕ → List ℕ → List ℕ → ℕ → Type 0
Put d at s e end = (end ≡ at + length s) × (e ≡ wrote d at s)

-- what is left of a room after n bytes, if they fit
abbrev pub Left : ℕ → ℕ → Option ℕ → Type 0
Left room n (Some k) = k + n ≡ room
Left room n None = room < n

-- s stands at the front of the buffer, and its length is answered; a shorter buffer is refused and stays as it was
abbrev pub Writes : List ℕ → List ℕ → List ℕ → Result ℕ Refusal → Type 0
Writes d s e r = MatchResult r (λ n. (n ≡ length s) × (e ≡ wrote d 0 s)) (λ f. (f ≡ ShortBuffer) × (length d < length s) × (e ≡ d))
