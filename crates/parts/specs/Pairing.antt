-- The text of a pair: the parts of the first, then those of the second. Assumes nothing.
use Rattle.std.specs.Prelude.{ℕ, Bool, true, ◌||◌, List, ◌++◌}
use Rattle.reading.specs.Reading.{Read, then, give}
use Rattle.kinds.specs.declared.pair.Pair.{Pair}
use Rattle.parts.specs.Spelling.{Spelling}

abbrev pub both : {A B : Type 0} → A → B → Pair A B
both a b = record { first = a; second = b }

abbrev pub pair_names : (List ℕ → Bool) → (List ℕ → Bool) → List ℕ → Bool
pair_names m n w = m w || n w

module _ {A B : Type 0} (a : Spelling A) (b : Spelling B) where
  abbrev pub second_reading : Bool → A × Bool → Read (Pair A B × Bool)
  second_reading more x = then (b.reading more x.1) (λ y. give (both x.0 y.0, y.1))

  abbrev pub pair_spells : Spelling (Pair A B)
  pair_spells = record {
    names = pair_names a.names b.names;
    spaced = λ p. a.spaced p.first ++ b.spaced p.second;
    reading = λ more s. then (a.reading true s) (second_reading more);
  }
