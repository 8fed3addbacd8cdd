-- The items that are always the same byte. Assumes nothing.
use Rattle.std.specs.Prelude.{Bool, true, false}
use Rattle.items.specs.Lex.{Piece}
use Rattle.reading.specs.Reading.{Choice, opens, closes, spaces, breaks, by_sort}
use Rattle.reading.specs.declared.item.Mark.{Mark}
use Rattle.reading.specs.declared.item.Mark.TheVariants.{Open, Close, Space, Newline}

abbrev pub marked : Mark → Piece → Choice (Unit {0})
marked Open = opens
marked Close = closes
marked Space = spaces
marked Newline = breaks

abbrev pub is_marked : Mark → Piece → Bool
is_marked Open = by_sort true false false false (λ _. false) (λ _. false) (λ _. false) false
is_marked Close = by_sort false true false false (λ _. false) (λ _. false) (λ _. false) false
is_marked Space = by_sort false false true false (λ _. false) (λ _. false) (λ _. false) false
is_marked Newline = by_sort false false false true (λ _. false) (λ _. false) (λ _. false) false
