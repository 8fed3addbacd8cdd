use Rattle.std.proofs.Common.{ℕ, get_or, sym, ap, ◌∙◌}
use Rattle.order.proofs.Ways.{place_at}
use Rattle.order.proofs.ranks.place_with.Goals as goal

pub returns : goal.returns
returns c = ap (λ (i : ℕ). (get_or c.args.place_at.now i (record { 0 = 0 })).0) c.index.ensures ∙ sym (place_at c.args.place_at.now c.args.r.0 (record { 0 = 0 }) c.requires)
