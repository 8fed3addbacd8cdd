use Rattle.std.proofs.Common.{length, refl}
use Rattle.links.proofs.Cursors.{first_lowest}
use Rattle.links.proofs.Props.{opened}
use Rattle.links.proofs.slices.first.Goals as goal

pub returns : goal.returns
returns g c =
    let rows = c.args.rows.now in
    let heads = c.args.heads.now in
    first_lowest c.args.side rows heads _ _ (opened rows heads c.args.tally c.requires.sound) c.args.p.0 c.head.result.0 (length rows) _ c.requires.inside c.head.ensures refl c.within.ensures
