use Rattle.std.proofs.Common.{◌≡◌, ℕ, List, ◌∷◌, ◌++◌, codes, sym, ap, ◌∙◌, subst}
use Rattle.calendar.specs.Text.{day_text}
use Rattle.house_text.proofs.NoDay.{no_day}
use Rattle.house_text.proofs.expiry.UntilTextPartText.put_inside.Goals as goal

-- the text of the expiry, which is empty
empty : (n : ℕ) → n ≡ 0 → codes "until" ++ (32 ∷ day_text n) ≡ codes "until 1970-01-01"
empty n e = ap (λ n. codes "until" ++ (32 ∷ day_text n)) e ∙ ap (λ t. codes "until" ++ (32 ∷ t)) (sym no_day)

pub put-requires : goal.put-requires
put-requires g c = subst (λ (t : List ℕ). g.S.Sink.fits c.args.out.now t) (empty c.args.value.number c.in-None.ensures) c.requires

pub returns-in-None : goal.returns-in-None
returns-in-None g c = subst (λ (t : List ℕ). g.S.Sink.took c.args.out.now t c.put.new.self) (sym (empty c.args.value.number c.in-None.ensures)) c.put.ensures
