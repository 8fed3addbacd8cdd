-- Claims in text, `(claims N ..)` with one number or more, and their passage, `(only N ..)` with any number of them; the numbers rise. Assumes nothing.
use Rattle.std.specs.Prelude.{ℕ, zero, suc, ◌+◌, ◌^◌, cond, List, [], ◌∷◌, ◌++◌, codes, decimal, ◌==◌, nat_le}
use Rattle.std.specs.Str.{bytes_eq}
use Rattle.reading.specs.Reading.{Read, ok, bad, then, give, item, ends, pick, spaces, numbers, Choice, take_it, refuse, form_fault, range_fault}
use Rattle.house.specs.declared.claims.Claims.{Claims}
use Rattle.house.specs.BitSets.{bit}
use Rattle.house.specs.ClaimSets.{claims_of}
use Rattle.parts.specs.Parts.{Part}

-- the set as a number, one bit for each claim
abbrev pub bits_of : Claims → ℕ
bits_of c = c.bits

-- a claim from low on; the range comes first
abbrev pub risen : ℕ → ℕ → Choice ℕ
risen low n = cond (nat_le n 63) (cond (nat_le low n) (take_it n) (refuse form_fault)) (refuse range_fault)

-- rising claims up to a closing bracket, a space before each: low is the least that may come, set what came. Fewer than f may come, and 64 can.
unfoldable pub rising : ℕ → ℕ → ℕ → Read ℕ
rising zero low set bs = bad form_fault bs
rising (suc f) low set bs = cond (ends (item bs)) (ok set bs) (then (pick spaces) (λ _. then (pick (numbers (risen low))) (λ n. rising f (n + 1) (set + 2 ^ n))) bs)

-- any number of claims
abbrev pub any_rising : Read ℕ
any_rising bs = rising 65 0 0 bs

-- one claim or more
abbrev pub some_rising : Read ℕ
some_rising bs = cond (ends (item bs)) (bad form_fault bs) (any_rising bs)

-- a space and the number k, if it is in the set
abbrev pub claim_at : ℕ → ℕ → List ℕ
claim_at bits k = cond (bit bits k) (32 ∷ decimal k) []

-- of the m numbers from k on, those in the set, a space before each
unfoldable pub claims_from : ℕ → ℕ → ℕ → List ℕ
claims_from bits k zero = []
claims_from bits k (suc m) = cond (bit bits k) (32 ∷ (decimal k ++ claims_from bits (k + 1) m)) (claims_from bits (k + 1) m)

-- the part of this word, read so, and left out for one set
abbrev pub set_part : List ℕ → Read ℕ → ℕ → Part Claims
set_part name body none = record {
  mine = λ w. bytes_eq w name;
  body = λ _. then body (λ n. give (claims_of n));
  none = claims_of none;
  empty = λ c. (c.bits == none);
  first = λ _. name;
  args = λ c. claims_from c.bits 0 64;
}

abbrev pub claims_name : List ℕ
claims_name = codes "claims"

abbrev pub claims_part : Part Claims
claims_part = set_part claims_name some_rising 0

abbrev pub only_name : List ℕ
only_name = codes "only"

-- the set of all claims
abbrev pub every_claim : ℕ
every_claim = 18446744073709551615

-- all claims pass where it is left out
abbrev pub only_part : Part Claims
only_part = set_part only_name any_rising every_claim
