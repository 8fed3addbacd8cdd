use Rattle.house_text.proofs.Given.{lock_taken}
use Rattle.house_text.proofs.lock.LockTextPartText.read_args.Goals as goal

pub returns : goal.returns
returns c = lock_taken c.args.reader.now c.take_level.new.reader c.take_level.result c.take_level.ensures
