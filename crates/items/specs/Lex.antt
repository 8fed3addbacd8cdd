-- What the items of a text are: a bracket, a space, a newline, or a run, which is a word, a number or a date. Assumes nothing.
use Rattle.std.specs.Prelude.{ℕ, ◌+◌, ◌-◌, ◌*◌, Bool, cond, not, ◌&&◌, ◌||◌, List, [], ◌∷◌, length, ◌==◌, nat_le, slice_index}
use Rattle.std.specs.List.{list_all}
use Rattle.calendar.specs.Text.{digit, is_date}

abbrev pub lower : ℕ → Bool
lower b = nat_le 97 b && nat_le b 122

-- a lower-case letter, a digit or a hyphen
abbrev pub in_run : ℕ → Bool
in_run b = lower b || (digit b || b == 45)

-- the longest front of lower-case letters, digits and hyphens
unfoldable pub run : List ℕ → List ℕ
run [] = []
run (b ∷ bs) = cond (in_run b) (b ∷ run bs) []

abbrev pub every : (ℕ → Bool) → List ℕ → Bool
every f bs = list_all f bs

-- 1 to 8 letters
abbrev pub is_word : List ℕ → Bool
is_word r = nat_le 1 (length r) && (nat_le (length r) 8 && every lower r)

-- 1 to 5 digits, no leading zero except 0 alone
abbrev pub is_number : List ℕ → Bool
is_number r = nat_le 1 (length r) && (nat_le (length r) 5 && (every digit r && (length r == 1 || not (slice_index r 0 == 48))))

-- the number that digits write, after n
unfoldable pub value_from : ℕ → List ℕ → ℕ
value_from n [] = n
value_from n (b ∷ bs) = value_from (n * 10 + (b - 48)) bs

abbrev pub value_of : List ℕ → ℕ
value_of r = value_from 0 r

pub data Piece : Type 0 where
  open_bracket : Piece
  close_bracket : Piece
  space : Piece
  newline : Piece
  word : List ℕ → Piece
  number : List ℕ → Piece
  date : List ℕ → Piece
  no_item : Piece

abbrev pub piece_of_run : List ℕ → Piece
piece_of_run r = cond (is_word r) (word r) (cond (is_number r) (number r) (cond (is_date r) (date r) no_item))

-- the item that begins with the byte b, and with the run r if b is no bracket, space or newline
abbrev pub piece_by : ℕ → List ℕ → Piece
piece_by b r = cond (b == 40) open_bracket (cond (b == 41) close_bracket (cond (b == 32) space (cond (b == 10) newline (piece_of_run r))))

-- the item that a text begins with; an empty text begins with none
abbrev pub piece : List ℕ → Piece
piece bs = piece_by (slice_index bs 0) (run bs)
