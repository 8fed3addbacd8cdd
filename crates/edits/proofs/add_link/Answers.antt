use Rattle.std.proofs.Common.{◌≡◌, length, sym, ◌∙◌, subst, arith}
use Rattle.links.specs.Table.{links, link}
use Rattle.order.specs.Marks.{Clean}
use Rattle.order.proofs.Stays.{keeps_order}
use Rattle.edits.proofs.add_link.Goals as goal

pub recompute_lent-requires : goal.recompute_lent-requires
recompute_lent-requires g c =
    let s = c.requires.sizes in
    let a = c.in_ok-admit.ensures.answer in
    let l = link c.args.u c.args.v c.args.row in
    let long : length c.insert.new.heads ≡ length c.args.heads.now = c.insert.auto.heads in
    let wide : length c.admit.new.marks ≡ length c.args.marks.now = c.admit.auto.marks in
    record {
      kept = c.insert.ensures.sound;
      ordered = (keeps_order g.row.K-PassageRow.Denot).gains c.args.n c.admit.new.rank_of c.admit.new.place_at (links c.args.rows.now) (links c.insert.new.rows) l a.sound c.insert.ensures.gained c.requires.places.0 c.requires.places.1 a.rises;
      sizes = (s.0, (s.1.0, (omega (arith, long, s.1.1.0), (omega (arith, wide, s.1.1.1.0), s.1.1.1.1))));
      place = c.requires.places.1;
      clean = subst (Clean c.args.n) (sym c.admit.ensures.marks) c.requires.clean;
    }

pub returns : goal.returns
returns g c =
    let a = c.in_ok-admit.ensures.answer in
    let l = link c.args.u c.args.v c.args.row in
    record {
      kept = c.insert.ensures.sound;
      ordered = (keeps_order g.row.K-PassageRow.Denot).gains c.args.n c.admit.new.rank_of c.admit.new.place_at (links c.args.rows.now) (links c.insert.new.rows) l a.sound c.insert.ensures.gained c.requires.places.0 c.requires.places.1 a.rises;
      marks = c.recompute_lent.ensures.marks ∙ c.admit.ensures.marks;
      ranks = a;
      links = c.insert.ensures.gained;
      counted = c.insert.ensures.counted;
      labels = c.recompute_lent.ensures.recomputes;
      list = c.recompute_lent.ensures.rest;
    }
