-- What an item of the code stands for, and where it stands. Assumes nothing.
use Rattle.std.specs.Prelude.{◌≡◌, ℕ}
use Rattle.items.specs.Lex.{Piece, open_bracket, close_bracket, space, newline, word, number, date}
use Rattle.items.specs.Line.{moved}
use Rattle.items.specs.declared.item.Item.{Item}
use Rattle.items.specs.declared.item.Item.TheVariants.{Open, Close, Space, Newline, Word, Number, Date}

abbrev pub seen : Item → Piece
seen (Open i) = open_bracket
seen (Close i) = close_bracket
seen (Space i) = space
seen (Newline i) = newline
seen (Word i r) = word r.now
seen (Number i r) = number r.now
seen (Date i r) = date r.now

abbrev pub place : Item → ℕ
place (Open i) = i
place (Close i) = i
place (Space i) = i
place (Newline i) = i
place (Word i r) = i
place (Number i r) = i
place (Date i r) = i

-- a run is that part of the text itself, which begins at the address p
abbrev pub Lies : ℕ × ℕ → Item → Type 0
Lies p (Open i) = Unit {0}
Lies p (Close i) = Unit {0}
Lies p (Space i) = Unit {0}
Lies p (Newline i) = Unit {0}
Lies p (Word i r) = r.ref_ptr ≡ moved p i
Lies p (Number i r) = r.ref_ptr ≡ moved p i
Lies p (Date i r) = r.ref_ptr ≡ moved p i
