-- A room that texts use up is a sink. Assumes nothing.
use Rattle.std.proofs.Common.{◌≡◌, ℕ, List, [], ◌++◌, length, Some, None, Option, refl, arith, length-append}
use Rattle.parts.specs.Buffers.{Left}
use Rattle.parts.specs.Sinks.{SinkLaws}
use Rattle.parts.specs.declared.room.Room.{Room}

-- what is left of a room after the text, if it fits
abbrev pub Lessens : Option ℕ → List ℕ → Option ℕ → Type 0
Lessens (Some room) s r = Left room (length s) r
Lessens None s r = r ≡ None

lessens_none : (r : Option ℕ) → Lessens r [] r
lessens_none (Some n) = omega arith
lessens_none None = refl

lessens_then : (r s t : Option ℕ) (a b : List ℕ) → Lessens r a s → Lessens s b t → Lessens r (a ++ b) t
lessens_then (Some n) (Some m) (Some k) a b p q = omega (arith, length-append a b)
lessens_then (Some n) (Some m) None a b p q = omega (arith, length-append a b)
lessens_then (Some n) None t a b p q = rw q (omega (arith, length-append a b))
lessens_then None s t a b p q = rw p at q

pub room_laws : SinkLaws {S = Room} (λ w s. Unit {0}) (λ w s v. Lessens w.left s v.left)
room_laws = record {
  none = λ w. lessens_none w.left;
  then = λ w v u a b p q. lessens_then w.left v.left u.left a b p q;
  first = λ w a b h. tt;
  second = λ w v a b h p. tt;
}
