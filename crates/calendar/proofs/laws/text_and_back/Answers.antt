use Rattle.std.proofs.Common.{◌∙◌}
use Rattle.calendar.specs.Texts.{text_tells}
use Rattle.calendar.specs.Values.{ok_is}
use Rattle.calendar.proofs.laws.text_and_back.Goals as goal

pub returns : goal.returns
returns c =
    ok_is c.read.result c.args.day
    (c.read.ensures.computed ∙ (text_tells c.text-text.result c.args.day.number).1 ((c.args.day.low, c.args.day.high), c.text-text.ensures))
