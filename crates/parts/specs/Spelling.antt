-- The text of a kind: bracketed parts, each begun by a word, with one space between two. Assumes nothing.
use Rattle.std.specs.Prelude.{◌≡◌, ℕ, Bool, true, false, cond, ◌||◌, List, [], ◌∷◌, ◌++◌, drop}
use Rattle.reading.specs.Reading.{ok, Read, then, give, pick, opens, spaces, words}
use Rattle.reading.specs.Locality.{Unbroken, Local}

-- the space before a part, if anything stands before it
abbrev pub gap : Bool → Read (Unit {0})
gap true = pick spaces
gap false = give tt

-- up to the word of the next part, if it is one of the names
abbrev pub entry : (List ℕ → Bool) → Bool → Read (List ℕ)
entry names s = then (gap s) (λ _. then (pick opens) (λ _. pick (words names)))

-- up to the word of the next part, whichever it is
abbrev pub ahead : Bool → Read (List ℕ)
ahead s = entry (λ _. true) s

abbrev pub non_empty : List ℕ → Bool
non_empty [] = false
non_empty (b ∷ bs) = true

-- names: the words that begin its parts. spaced: the parts of a value, a space before each. reading more s: its parts at the front of a text, where parts of
-- others may follow if more holds, and something stands before if s does; with the value comes whether something stands before what follows.
pub record Spelling (V : Type 0) : Type 0 where
  pub names : List ℕ → Bool
  pub spaced : V → List ℕ
  pub reading : Bool → Bool → Read (V × Bool)

-- the first space is left out if nothing stands before
abbrev pub text_by : Bool → List ℕ → List ℕ
text_by s x = cond s x (drop 1 x)

module _ {V : Type 0} (sp : Spelling V) where
  -- what is written for a value
  abbrev pub as_text : Bool → V → List ℕ
  as_text s v = text_by s (sp.spaced v)

  -- whether something stands before what follows it
  abbrev pub begun : Bool → V → Bool
  begun s v = s || non_empty (sp.spaced v)

-- what may follow: a closing bracket, or a part that is begun by no name of these
pub data Onward (names : List ℕ → Bool) (more s : Bool) (tail : List ℕ) : Type 0 where
  shut : (rest : List ℕ) → tail ≡ 41 ∷ rest → Onward names more s tail
  other : (w rest : List ℕ) → more ≡ true → ahead s tail ≡ ok w rest → names w ≡ false → Onward names more s tail

-- the text begins with a part that is begun by one of these names
abbrev pub Fronts : (List ℕ → Bool) → Bool → List ℕ → Type 0
Fronts names s bs = (w : List ℕ) × (rest : List ℕ) × (ahead s bs ≡ ok w rest) × (names w ≡ true)

pub record Spells {V : Type 0} (sp : Spelling V) : Type 0 where
  -- what is written reads back, and the reading stops after it
  pub returns : (v : V) (more s : Bool) (tail : List ℕ) → Onward sp.names more (begun sp s v) tail → sp.reading more s (as_text sp s v ++ tail) ≡ ok (v, begun sp s v) tail
  -- what is written begins with a part of its own
  pub fronts : (v : V) (s : Bool) (tail : List ℕ) → non_empty (sp.spaced v) ≡ true → Fronts sp.names s (as_text sp s v ++ tail)
  -- no newline is written
  pub unbroken : (v : V) → Unbroken (sp.spaced v)
  -- what is read, or its fault, follows from the rest of the line alone
  pub local : (more s : Bool) → Local (sp.reading more s)

-- two kinds that share no name
abbrev pub Apart : (List ℕ → Bool) → (List ℕ → Bool) → Type 0
Apart m n = (w : List ℕ) → n w ≡ true → m w ≡ false

-- read before a closing bracket, what is written gives an equal value, and the reading stops at that bracket
abbrev pub Again : {V : Type 0} → Spelling V → Type 0
Again {V} sp = (v : V) (rest : List ℕ) → sp.reading false false (as_text sp false v ++ 41 ∷ rest) ≡ ok (v, non_empty (sp.spaced v)) (41 ∷ rest)
