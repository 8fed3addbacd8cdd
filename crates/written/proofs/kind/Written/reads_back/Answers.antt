use Rattle.parts.specs.PairLaws.{again}
use Rattle.written.proofs.kind.Written.reads_back.Goals as goal

pub returns : goal.returns
returns g c = record { label = again g.met.Self.Text.TextForm.spelled; passage = again g.met.Self.PassageText.TextForm.spelled }
