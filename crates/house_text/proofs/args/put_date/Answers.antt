use Rattle.std.proofs.Common.{◌≡◌, ℕ, List, [], ◌∷◌, length, refl, sym, subst}
use Rattle.calendar.specs.Text.{day_text}
use Rattle.house_text.proofs.args.put_date.Goals as goal

ten : (n : ℕ) → length (day_text n) ≡ 10
unfolding day_text
ten n = refl

pub put-requires : goal.put-requires
put-requires g c = g.met.S.Sink.laws.first c.args.out.now (32 ∷ []) (day_text c.args.day.number) c.requires

pub put-requires-then-not-skip : goal.put-requires-then-not-skip
put-requires-then-not-skip g c =
    subst (λ out. g.S.Sink.fits out c.text.result) (sym (c.skip.ensures.kept c.if-not-skip.true))
    (subst (λ (l : List ℕ). g.S.Sink.fits c.put.new.self l) (sym c.text.ensures) (g.met.S.Sink.laws.second c.args.out.now c.put.new.self (32 ∷ []) (day_text c.args.day.number) c.requires c.put.ensures))

pub returns-then-not-skip : goal.returns-then-not-skip
returns-then-not-skip g c =
    let out = c.put-then-not-skip.new.self in
    g.met.S.Sink.laws.then c.args.out.now c.put.new.self out (32 ∷ []) (day_text c.args.day.number) c.put.ensures
    (subst (λ (l : List ℕ). g.S.Sink.took c.put.new.self l out) c.text.ensures
    (subst (λ w. g.S.Sink.took w c.text.result out) (c.skip.ensures.kept c.if-not-skip.true) c.put-then-not-skip.ensures))

pub returns-else-not-skip : goal.returns-else-not-skip
returns-else-not-skip g c =
    g.met.S.Sink.laws.then c.args.out.now c.put.new.self c.skip.new.self (32 ∷ []) (day_text c.args.day.number) c.put.ensures
    (c.skip.ensures.taken c.if-not-skip.false (day_text c.args.day.number) (ten c.args.day.number))
