use Rattle.std.proofs.Common.{arith}
use Rattle.recompute.proofs.Lents.{ranked_long}
use Rattle.recompute.proofs.lent.LentGraph.rank.Goals as goal

pub rank_at-requires : goal.rank_at-requires
rank_at-requires g c = let long = ranked_long c.args.self.now in omega (arith, long, c.requires)
