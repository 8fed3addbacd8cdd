use Rattle.std.proofs.Common.{◌∙◌}
use Rattle.std.proofs.lemmas.Result.{MatchResult-weaker}
use Rattle.tables.proofs.Lends.{same_table}
use Rattle.tables.proofs.columns.Columns.admit.Goals as goal

pub returns-clause-still : goal.returns-clause-still
returns-clause-still g c =
    MatchResult-weaker c.admit.result c.admit.ensures.answer (λ _ _. tt)
    (λ _ e. (same_table c.args.self.now.tables.now.ranks c.admit.new.rank_of (e.1.ranks_stay ∙ c.as_mut_slice-ranks.ensures.value), same_table c.args.self.now.tables.now.order c.admit.new.place_at (e.1.places_stay ∙ c.as_mut_slice-order.ensures.value)))
