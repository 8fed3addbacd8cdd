use Rattle.house.specs.BitLaws.{clear_zero}
use Rattle.house.proofs.claims.label.ClaimsLabelKind.is_free.Goals as goal

pub returns : goal.returns
returns c = clear_zero 64 c.args.self.bits c.args.self.fits
