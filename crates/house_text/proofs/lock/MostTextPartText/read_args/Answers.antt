use Rattle.std.proofs.Common.{arith}
use Rattle.house_text.proofs.Given.{most_given}
use Rattle.house_text.proofs.lock.MostTextPartText.read_args.Goals as goal

pub returns : goal.returns
returns c =
    let told = c.in_ok-take_level.ensures in
    (told.0, (omega (arith, told.1.0), told.1.1, most_given c.in_ok-take_level.field-0 _ _ told.1.2))
