use Rattle.std.proofs.Common.{length, sym, subst, arith}
use Rattle.links.specs.Table.{Sound}
use Rattle.links.proofs.Clears.{cleared, no_links}
use Rattle.links.proofs.slices.reset.Goals as goal

pub returns-clause-sound : goal.returns-clause-sound
returns-clause-sound g c =
    let rows = c.stack-free.new.rows in
    let heads = c.behead.new.heads in
    ∣ subst (Sound rows heads 0) (sym c.stack-free.ensures.top) (cleared rows (length rows) c.stack-free.ensures.stacked (omega arith) heads (length rows) (omega arith) c.behead.ensures) ∣₁

pub returns-clause-empty : goal.returns-clause-empty
returns-clause-empty g c = let rows = c.stack-free.new.rows in no_links rows (length rows) c.stack-free.ensures.stacked (omega arith)
