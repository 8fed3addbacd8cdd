-- The house label and its passages in text. Assumes nothing.
use Rattle.kinds.specs.declared.pair.Pair.{Pair}
use Rattle.house.specs.declared.claims.Claims.{Claims}
use Rattle.house.specs.declared.expiry.Expiry.{Expiry}
use Rattle.house.specs.declared.expiry.ExpiryPassage.{ExpiryPassage}
use Rattle.house.specs.declared.level.Level.{Level}
use Rattle.house.specs.declared.lock.LockPassage.{LockPassage}
use Rattle.parts.specs.Spelling.{Spelling}
use Rattle.parts.specs.Pairing.{pair_spells}
use Rattle.parts.specs.Parts.{one_spells}
use Rattle.house_text.specs.LockText.{lock_part, most_part}
use Rattle.house_text.specs.ClaimsText.{claims_part, only_part}
use Rattle.house_text.specs.ExpiryText.{until_part, step_part}

abbrev pub house_label : Spelling (Pair Expiry (Pair Claims (Level 3)))
house_label = pair_spells (one_spells until_part) (pair_spells (one_spells claims_part) (one_spells lock_part))

abbrev pub house_passage : Spelling (Pair ExpiryPassage (Pair Claims LockPassage))
house_passage = pair_spells (one_spells step_part) (pair_spells (one_spells only_part) (one_spells most_part))
