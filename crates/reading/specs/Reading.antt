-- Reading as a function on lists of bytes: what is read and the rest of the text, or the first fault and the rest that begins at its byte. Assumes nothing.
use Rattle.std.specs.Prelude.{ℕ, Bool, true, false, cond, List, [], ◌∷◌, length, drop, Some, None, Option, nat_le}
use Rattle.common.specs.declared.refusal.Refusal.{Refusal}
use Rattle.common.specs.declared.refusal.Refusal.TheVariants.{OutOfRange, NoItem, NotAllowed, Unfinished}
use Rattle.calendar.specs.Text.{day_in}
use Rattle.items.specs.Lex.{Piece, piece, open_bracket, close_bracket, space, newline, word, number, date, no_item, value_of}
use Rattle.reading.specs.declared.fault.Layer.{Layer}
use Rattle.reading.specs.declared.fault.Layer.TheVariants.{Byte, Value, Form}

-- what is wrong, and in which layer
abbrev pub Flaw : Type 0
Flaw = Layer × Refusal

-- a byte or a run that is no item
abbrev pub no_item_fault : Flaw
no_item_fault = (Byte, NoItem)

-- an allowed item outside its range
abbrev pub range_fault : Flaw
range_fault = (Value, OutOfRange)

-- an item that is not allowed there
abbrev pub form_fault : Flaw
form_fault = (Form, NotAllowed)

-- the text ends inside a line
abbrev pub end_fault : Flaw
end_fault = (Form, Unfinished)

pub data Out (X : Type 0) : Type 0 where
  ok : X → List ℕ → Out X
  bad : Flaw → List ℕ → Out X

abbrev pub Read : Type 0 → Type 0
Read X = List ℕ → Out X

-- one reading after the other
abbrev pub after : {X Y : Type 0} → Out X → (X → Read Y) → Out Y
after (ok x rest) k = k x rest
after (bad f rest) k = bad f rest

abbrev pub then : {X Y : Type 0} → Read X → (X → Read Y) → Read Y
then r k bs = after (r bs) k

abbrev pub give : {X : Type 0} → X → Read X
give x bs = ok x bs

-- what each sort of item gives: brackets, space, newline, word, number, date, and what is no item
abbrev pub by_sort : {X : Type 0} → X → X → X → X → (List ℕ → X) → (List ℕ → X) → (List ℕ → X) → X → Piece → X
by_sort o c s n w k d z open_bracket = o
by_sort o c s n w k d z close_bracket = c
by_sort o c s n w k d z space = s
by_sort o c s n w k d z newline = n
by_sort o c s n w k d z (word r) = w r
by_sort o c s n w k d z (number r) = k r
by_sort o c s n w k d z (date r) = d r
by_sort o c s n w k d z no_item = z

-- how many bytes an item has
abbrev pub size : Piece → ℕ
size = by_sort 1 1 1 1 length length length 0

abbrev pub is_item : Piece → Bool
is_item = by_sort true true true true (λ _. true) (λ _. true) (λ _. true) false

abbrev pub item_by : Piece → Read Piece
item_by p bs = cond (is_item p) (ok p (drop (size p) bs)) (bad no_item_fault bs)

-- the next item, whichever it is
unfoldable pub item : Read Piece
item [] = bad end_fault []
item (b ∷ bs) = item_by (piece (b ∷ bs)) (b ∷ bs)

-- whether an item is allowed, and what it stands for
pub data Choice (X : Type 0) : Type 0 where
  take_it : X → Choice X
  refuse : Flaw → Choice X

abbrev pub chosen : {X : Type 0} → Choice X → List ℕ → List ℕ → Out X
chosen (take_it x) rest bs = ok x rest
chosen (refuse f) rest bs = bad f bs

abbrev pub settled : {X : Type 0} → Out Piece → (Piece → Choice X) → List ℕ → Out X
settled (ok p rest) f bs = chosen (f p) rest bs
settled (bad e rest) f bs = bad e rest

-- the next item, if the choice takes it; a refusal stands at the item
abbrev pub pick : {X : Type 0} → (Piece → Choice X) → Read X
pick f bs = settled (item bs) f bs

abbrev pub not_allowed : {X : Type 0} → Choice X
not_allowed = refuse form_fault

abbrev pub no_run : {X : Type 0} → List ℕ → Choice X
no_run r = refuse form_fault

abbrev pub opens : Piece → Choice (Unit {0})
opens = by_sort (take_it tt) not_allowed not_allowed not_allowed no_run no_run no_run not_allowed

abbrev pub closes : Piece → Choice (Unit {0})
closes = by_sort not_allowed (take_it tt) not_allowed not_allowed no_run no_run no_run not_allowed

abbrev pub spaces : Piece → Choice (Unit {0})
spaces = by_sort not_allowed not_allowed (take_it tt) not_allowed no_run no_run no_run not_allowed

abbrev pub breaks : Piece → Choice (Unit {0})
breaks = by_sort not_allowed not_allowed not_allowed (take_it tt) no_run no_run no_run not_allowed

-- a word of these
abbrev pub words : (List ℕ → Bool) → Piece → Choice (List ℕ)
words names = by_sort not_allowed not_allowed not_allowed not_allowed (λ r. cond (names r) (take_it r) (refuse form_fault)) no_run no_run not_allowed

-- a number, by a choice on its value
abbrev pub numbers : {X : Type 0} → (ℕ → Choice X) → Piece → Choice X
numbers f = by_sort not_allowed not_allowed not_allowed not_allowed no_run (λ r. f (value_of r)) no_run not_allowed

-- a number of any value
abbrev pub counts : Piece → Choice ℕ
counts = numbers take_it

-- a number from low to high
abbrev pub ranged : ℕ → ℕ → ℕ → Choice ℕ
ranged low high n = cond (nat_le low n) (cond (nat_le n high) (take_it n) (refuse range_fault)) (refuse range_fault)

abbrev pub counts_in : ℕ → ℕ → Piece → Choice ℕ
counts_in low high = numbers (ranged low high)

abbrev pub day_choice : Option ℕ → Choice ℕ
day_choice (Some n) = take_it n
day_choice None = refuse range_fault

-- a date, and the number of its day
abbrev pub days : Piece → Choice ℕ
days = by_sort not_allowed not_allowed not_allowed not_allowed no_run no_run (λ r. day_choice (day_in r)) not_allowed

-- a space and a date
abbrev pub dated : Read ℕ
dated = then (pick spaces) (λ _. pick days)

-- whether the next item is a closing bracket
abbrev pub ends : Out Piece → Bool
ends (ok p rest) = by_sort false true false false (λ _. false) (λ _. false) (λ _. false) false p
ends (bad f rest) = false
