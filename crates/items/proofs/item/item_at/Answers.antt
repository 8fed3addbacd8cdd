use Rattle.std.proofs.Common.{◌≡◌, get_or, drop, sym, refl, ap, ◌∙◌, subst, arith, MatchOption}
use Rattle.items.specs.Lex.{piece, piece_of_run, no_item, Piece}
use Rattle.items.specs.Seen.{seen, place}
use Rattle.items.specs.Steps.{piece_at, piece_rest, past}
use Rattle.items.proofs.item.item_at.Goals as goal

pub returns-in-40 : goal.returns-in-40
returns-in-40 c = record { lies = tt; item = (refl, sym (piece_at c.args.text.now c.args.at 40 c.in-40.is)) }

pub returns-in-41 : goal.returns-in-41
returns-in-41 c = record { lies = tt; item = (refl, sym (piece_at c.args.text.now c.args.at 41 c.in-41.is)) }

pub returns-in-32 : goal.returns-in-32
returns-in-32 c = record { lies = tt; item = (refl, sym (piece_at c.args.text.now c.args.at 32 c.in-32.is)) }

pub returns-in-10 : goal.returns-in-10
returns-in-10 c = record { lies = tt; item = (refl, sym (piece_at c.args.text.now c.args.at 10 c.in-10.is)) }

pub returns-in_default : goal.returns-in_default
returns-in_default c =
    let b = get_or c.args.text.now c.args.at 0 in
    let e : piece_of_run c.run_at.result.now ≡ piece (drop c.args.at c.args.text.now) =
    ap piece_of_run c.run_at.ensures.bytes ∙ sym (piece_rest c.args.text.now c.args.at b refl (λ h. omega arith) (λ h. omega arith) (λ h. omega arith) (λ h. omega arith)) in
    record {
      lies = c.run_item.ensures.lies _ c.run_at.ensures.lies;
      item = subst (λ (p : Piece). MatchOption c.run_item.result (p ≡ no_item) (λ i. (place i ≡ c.args.at) × (seen i ≡ p))) e c.run_item.ensures.item;
    }

pub returns-then-at-text : goal.returns-then-at-text
returns-then-at-text c = record { lies = tt; item = past c.args.text.now c.args.at c.if-at-text.true }
