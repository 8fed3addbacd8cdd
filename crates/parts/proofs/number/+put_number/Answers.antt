use Rattle.std.proofs.Common.{◌≡◌, ℕ, ◌+◌, ◌%◌, ◌<◌, List, [], ◌∷◌, decimal, sym, ap, ◌∙◌, subst, arith}
use Rattle.std.proofs.lemmas.Fmt.{decimal_step, decimal_digit}
use Rattle.parts.proofs.number.+put_number.Goals as goal

one : (n : ℕ) → n < 10 → decimal n ≡ (48 + n % 10) ∷ []
one n h = decimal_digit n h ∙ ap (λ m. (48 + m) ∷ []) (omega arith)

pub put-requires : goal.put-requires
put-requires g t c = subst (λ (l : List ℕ). g.S.Sink.fits c.args.out.now l) (one c.args.n c.if-n-lt10.true) c.requires

pub put_number-requires : goal.put_number-requires
put_number-requires g t c κs within =
    let e = decimal_step c.args.n c.if-n-lt10.false (omega arith) in
    (omega arith, (within, g.met.S.Sink.laws.first c.args.out.now _ _ (subst (λ (l : List ℕ). g.S.Sink.fits c.args.out.now l) e c.requires)))

pub put-requires-else-n-lt10 : goal.put-requires-else-n-lt10
put-requires-else-n-lt10 g t c =
    let e = decimal_step c.args.n c.if-n-lt10.false (omega arith) in
    g.met.S.Sink.laws.second c.args.out.now c.put_number.new.out _ _ (subst (λ (l : List ℕ). g.S.Sink.fits c.args.out.now l) e c.requires) c.put_number.ensures

pub returns-then-n-lt10 : goal.returns-then-n-lt10
returns-then-n-lt10 g t c = subst (λ (l : List ℕ). g.S.Sink.took c.args.out.now l c.put.new.self) (sym (one c.args.n c.if-n-lt10.true)) c.put.ensures

pub returns-else-n-lt10 : goal.returns-else-n-lt10
returns-else-n-lt10 g t c =
    let e = decimal_step c.args.n c.if-n-lt10.false (omega arith) in
    subst (λ (l : List ℕ). g.S.Sink.took c.args.out.now l c.put-else-n-lt10.new.self) (sym e)
    (g.met.S.Sink.laws.then c.args.out.now c.put_number.new.out c.put-else-n-lt10.new.self _ _ c.put_number.ensures c.put-else-n-lt10.ensures)
