use Rattle.house.specs.BitLaws.{bit_all}
use Rattle.house.proofs.claims.Claims.all.Goals as goal

pub returns : goal.returns
returns c = bit_all 64
