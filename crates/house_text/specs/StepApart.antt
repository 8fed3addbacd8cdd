-- A word of another part begins no step. Assumes nothing.
use Rattle.std.specs.Prelude.{◌≡◌, ℕ, true, false, List, codes}
use Rattle.std.specs.Str.{bytes_eq}
use Rattle.house_text.specs.ExpiryText.{step_word}
use Rattle.house_text.specs.Words.{word_apart, neither}

-- a word that is none of three
pub no_step : (w u : List ℕ) → bytes_eq u (codes "cap") ≡ false → bytes_eq u (codes "add") ≡ false → bytes_eq u (codes "years") ≡ false → bytes_eq w u ≡ true → step_word w ≡ false
no_step w u a b c h = neither _ _ (word_apart w u (codes "cap") a h) (neither _ _ (word_apart w u (codes "add") b h) (word_apart w u (codes "years") c h))
