use Rattle.std.proofs.Common.{sym}
use Rattle.parts.proofs.Bracketed.{fits_open, fits_inside, fits_close, put_whole}
use Rattle.parts.proofs.form.AnyTextForm.put.Goals as goal

pub put_open-requires : goal.put_open-requires
put_open-requires g c = fits_open g.P.PartText.part c.args.value c.args.started g.met.S.Sink.laws c.args.out.now (sym c.if-is_none.ensures) c.requires

pub put_inside-requires : goal.put_inside-requires
put_inside-requires g c =
    fits_inside g.P.PartText.part c.args.value c.args.started g.met.S.Sink.laws c.args.out.now (sym c.if-is_none.ensures) c.requires c.put_open.new.out c.put_open.ensures

pub put-requires : goal.put-requires
put-requires g c =
    fits_close g.P.PartText.part c.args.value c.args.started g.met.S.Sink.laws c.args.out.now (sym c.if-is_none.ensures) c.requires c.put_open.new.out c.put_open.ensures c.put_inside.new.out c.put_inside.ensures

pub returns-clause-text : goal.returns-clause-text
returns-clause-text g c =
    put_whole g.P.PartText.part c.args.value c.args.started g.met.S.Sink.laws c.args.out.now (sym c.if-is_none.ensures) c.requires c.put_open.new.out c.put_open.ensures c.put_inside.new.out c.put_inside.ensures c.put.new.self c.put.ensures
