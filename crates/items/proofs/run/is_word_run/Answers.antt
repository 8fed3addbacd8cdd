use Rattle.std.proofs.Common.{rules, ◌≡◌, ◌≤◌, length, refl}
use Rattle.std.proofs.lemmas.Iterator.{YieldsList-from_slice}
use Rattle.std.proofs.lemmas.Iterator.Search.{all_from_yields_List}
use Rattle.std.proofs.lemmas.Bool.{le-leb}
use borrow.Author.Tests.{tests}
use Rattle.items.specs.Lex.{lower, every}
use Rattle.items.proofs.run.is_word_run.Goals as goal

pub returns-then-contains : goal.returns-then-contains
returns-then-contains c =
    let all : c.all.result ≡ every lower c.args.r.now =
    all_from_yields_List _ _ _ _ c.all.ensures.ran (YieldsList-from_slice c.args.r.now cc) (λ x b q k. search (rules, tests)) in
    let fits : (1 ≤ length c.args.r.now) × (length c.args.r.now ≤ 8) = search rules in
    rw (all, le-leb 1 (length c.args.r.now) fits.0, le-leb (length c.args.r.now) 8 fits.1) refl
