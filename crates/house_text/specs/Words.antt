-- A word is no other word. Assumes nothing.
use Rattle.std.proofs.Common.{◌≡◌, ℕ, Bool, true, false, ◌||◌, List, ap, ◌∙◌}
use Rattle.std.specs.Str.{bytes_eq}
use Rattle.std.proofs.lemmas.Slice.Eq.{bytes_eq-Decides}

pub word_apart : (w u v : List ℕ) → bytes_eq u v ≡ false → bytes_eq w u ≡ true → bytes_eq w v ≡ false
word_apart w u v e h = ap (λ l. bytes_eq l v) ((bytes_eq-Decides w u).0 h) ∙ e

pub neither : (a b : Bool) → a ≡ false → b ≡ false → (a || b) ≡ false
neither true b e f = e
neither false b e f = f
