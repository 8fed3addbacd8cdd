-- What a sink owes. Assumes nothing.
use Rattle.std.specs.Prelude.{ℕ, List, [], ◌++◌}

pub record SinkLaws {S : Type 0} (fits : S → List ℕ → Type 0) (took : S → List ℕ → S → Type 0) : Type 0 where
  -- putting nothing changes nothing
  pub none : (w : S) → took w [] w
  -- one text, and then another
  pub then : (w v u : S) (a b : List ℕ) → took w a v → took v b u → took w (a ++ b) u
  -- where both fit, the first does, and then the second
  pub first : (w : S) (a b : List ℕ) → fits w (a ++ b) → fits w a
  pub second : (w v : S) (a b : List ℕ) → fits w (a ++ b) → took w a v → fits v b
