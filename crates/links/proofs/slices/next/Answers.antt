use Rattle.std.proofs.Common.{length, sym, ap, ◌∙◌, subst}
use Rattle.links.specs.Table.{Next, slot_of}
use Rattle.links.proofs.Cursors.{next_lowest}
use Rattle.links.proofs.Held.{none_some}
use Rattle.links.proofs.Holding.{got}
use Rattle.links.proofs.Props.{opened}
use Rattle.links.proofs.slices.next.Goals as goal

pub returns-in_err-rest : goal.returns-in_err-rest
returns-in_err-rest g c = rw c.from_residual.ensures (λ l e. absurd (none_some l (sym c.in_err-rest.ensures ∙ e)))

pub returns : goal.returns
returns g c =
    let rows = c.args.rows.now in
    let heads = c.args.heads.now in
    let side = c.args.side in
    let s = c.args.s.0 in
    let r = got rows s _ c.in_ok-rest.rest c.in_ok-rest.ensures in
    subst (Next side rows s) (sym (c.within.ensures ∙ ap (slot_of (length rows)) (c.on.ensures ∙ r.goes side)))
    (next_lowest side rows heads _ _ s (opened rows heads c.args.tally c.requires))
