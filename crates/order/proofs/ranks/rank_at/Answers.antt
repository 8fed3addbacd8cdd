use Rattle.std.proofs.Common.{ℕ, get_or, sym, ap, ◌∙◌}
use Rattle.order.proofs.Ways.{rank_at_lem}
use Rattle.order.proofs.ranks.rank_at.Goals as goal

pub returns : goal.returns
returns c = ap (λ (i : ℕ). (get_or c.args.rank_of.now i (record { 0 = 0 })).0) c.index.ensures ∙ sym (rank_at_lem c.args.rank_of.now c.args.p.0 (record { 0 = 0 }) c.requires)
