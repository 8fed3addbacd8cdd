-- The text of a kind that is one part. Assumes nothing.
use Rattle.std.specs.Prelude.{◌≡◌, ℕ, Bool, true, false, cond, not, ◌&&◌, ◌||◌, List, [], ◌∷◌, ◌++◌}
use Rattle.items.specs.Lex.{word}
use Rattle.reading.specs.Reading.{Out, ok, bad, Read, then, give, item, pick, closes, ends}
use Rattle.reading.specs.Locality.{Unbroken, Local}
use Rattle.parts.specs.Spelling.{Spelling, entry, ahead}

-- mine: the words that may begin the part. body: what stands between such a word and the closing bracket, by the word. none: the value without a part.
-- empty: whether a value is that one. first, args: the word, and what follows it, of any other.
pub record Part (V : Type 0) : Type 0 where
  pub mine : List ℕ → Bool
  pub body : List ℕ → Read V
  pub none : V
  pub empty : V → Bool
  pub first : V → List ℕ
  pub args : V → List ℕ

abbrev pub strange : (List ℕ → Bool) → Out (List ℕ) → Bool
strange mine (ok w rest) = not (mine w)
strange mine (bad f rest) = false

-- no part of these comes: a closing bracket, or the part of another
abbrev pub passes : (List ℕ → Bool) → Bool → Bool → List ℕ → Bool
passes mine more s bs = ends (item bs) || (more && strange mine (ahead s bs))

module _ {V : Type 0} (p : Part V) where
  abbrev pub closing : V → Read (V × Bool)
  closing v = then (pick closes) (λ _. give (v, true))

  abbrev pub filling : List ℕ → Read (V × Bool)
  filling w = then (p.body w) closing

  abbrev pub own_part : Bool → Read (V × Bool)
  own_part s = then (entry p.mine s) filling

  abbrev pub one_reading : Bool → Bool → Read (V × Bool)
  one_reading more s bs = cond (passes p.mine more s bs) (ok (p.none, s) bs) (own_part s bs)

  -- what stands between the brackets
  abbrev pub inside : V → List ℕ
  inside v = p.first v ++ p.args v

  abbrev pub one_spaced : V → List ℕ
  one_spaced v = cond (p.empty v) [] (32 ∷ 40 ∷ (inside v ++ 41 ∷ []))

  abbrev pub one_spells : Spelling V
  one_spells = record { names = p.mine; spaced = one_spaced; reading = one_reading }

  -- what a part owes
  pub record Whole : Type 0 where
    pub is_none : (v : V) → p.empty v ≡ true → p.none ≡ v
    pub own_word : (v : V) → p.empty v ≡ false → p.mine (p.first v) ≡ true
    pub word_back : (v : V) (tail : List ℕ) → p.empty v ≡ false → item (p.first v ++ (p.args v ++ 41 ∷ tail)) ≡ ok (word (p.first v)) (p.args v ++ 41 ∷ tail)
    pub body_back : (v : V) (tail : List ℕ) → p.empty v ≡ false → p.body (p.first v) (p.args v ++ 41 ∷ tail) ≡ ok v (41 ∷ tail)
    pub unbroken_word : (v : V) → Unbroken (p.first v)
    pub unbroken_args : (v : V) → Unbroken (p.args v)
    pub body_local : (w : List ℕ) → Local (p.body w)
