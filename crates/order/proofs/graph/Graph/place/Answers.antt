use Rattle.std.proofs.Common.{◌≡◌, ◌<◌, sym, ap, ◌∙◌, subst}
use Rattle.order.specs.Tables.{place_in}
use Rattle.order.specs.Graph.{size, order_of}
use Rattle.order.proofs.Graphs.{place_below}
use Rattle.order.proofs.graph.Graph.place.Goals as goal

pub returns : goal.returns
returns g c =
    let at : c.place_with.result.0 ≡ place_in (order_of c.args.self.now) c.args.r.0 = c.place_with.ensures ∙ ap (λ os. place_in os c.args.r.0) c.deref.ensures.value in
    record { at = at; inside = λ h. subst (λ p. p < size c.args.self.now) (sym at) (place_below c.args.self.now c.args.r.0 h) }
