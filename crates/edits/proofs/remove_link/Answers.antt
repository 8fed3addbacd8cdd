use Rattle.std.proofs.Common.{◌≡◌, length, arith}
use Rattle.links.specs.Table.{links}
use Rattle.order.proofs.Stays.{keeps_order}
use Rattle.edits.proofs.remove_link.Goals as goal

pub recompute_lent-requires : goal.recompute_lent-requires
recompute_lent-requires g c =
    let s = c.requires.sizes in
    let long : length c.remove.new.heads ≡ length c.args.heads.now = c.remove.auto.heads in
    record {
      kept = c.remove.ensures.sound;
      ordered = (keeps_order g.row.K-PassageRow.Denot).loses c.args.n c.args.rank_of.now c.args.place_at.now (links c.args.rows.now) (links c.remove.new.rows) c.args.u.0 c.args.v.0 c.requires.ordered c.remove.ensures.lost;
      sizes = (s.0, (s.1.0, (omega (arith, long, s.1.1.0), s.1.1.1)));
      place = c.requires.places.1;
      clean = c.requires.clean;
    }

pub returns : goal.returns
returns g c =
    record {
      kept = c.remove.ensures.sound;
      ordered = (keeps_order g.row.K-PassageRow.Denot).loses c.args.n c.args.rank_of.now c.args.place_at.now (links c.args.rows.now) (links c.remove.new.rows) c.args.u.0 c.args.v.0 c.requires.ordered c.remove.ensures.lost;
      lost = c.remove.ensures.lost;
      recomputes = c.recompute_lent.ensures.recomputes;
      marks = c.recompute_lent.ensures.marks;
      rest = c.recompute_lent.ensures.rest;
    }
