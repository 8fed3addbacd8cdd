-- What the labels of a kind mean. Assumes nothing.
use Rattle.std.specs.Prelude.{◌≡◌, Bool, true, ℕ}
use Rattle.paths.specs.Kind.{Kind, Laws}

-- L are the labels, P the passages, R and S the rows in which these two lie in a table
pub record Meaning (L P R S : Type 0) : Type 1 where
  pub Value : Type 0
  -- the value of each label
  pub value : L → Value
  -- the empty value, the join of two, and what a passage makes of one
  pub kind : Kind Value P
  -- whether a value is free on the day of a number
  pub free : ℕ → Value → Bool
  -- the label and the passage that each row stands for
  pub stands : R → L
  pub leads : S → P

-- a test answers yes for equal labels and for no others
pub record Tells {L : Type 0} (test : L → L → Bool) : Type 0 where
  pub yes : (a b : L) → a ≡ b → test a b ≡ true
  pub only : (a b : L) → test a b ≡ true → a ≡ b

-- labels of one value are equal, and the values keep the laws of join and passage
pub record Lawful {L P R S : Type 0} (m : Meaning L P R S) : Type 0 where
  pub one_value : (a b : L) → m.value a ≡ m.value b → a ≡ b
  pub laws : Laws m.kind
