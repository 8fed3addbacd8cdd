use Rattle.std.proofs.Common.{[], ◌∷◌, decimal}
use Rattle.house_text.proofs.args.put_spaced.Goals as goal

pub put-requires : goal.put-requires
put-requires g c = g.met.S.Sink.laws.first c.args.out.now (32 ∷ []) (decimal c.args.n) c.requires

pub put_number-requires : goal.put_number-requires
put_number-requires g c = g.met.S.Sink.laws.second c.args.out.now c.put.new.self (32 ∷ []) (decimal c.args.n) c.requires c.put.ensures

pub returns : goal.returns
returns g c = g.met.S.Sink.laws.then c.args.out.now c.put.new.self c.put_number.new.out (32 ∷ []) (decimal c.args.n) c.put.ensures c.put_number.ensures
