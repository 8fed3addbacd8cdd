use Rattle.std.proofs.Common.{drop, ap, ◌∙◌}
use Rattle.std.proofs.lemmas.Bool.{both_ways}
use Rattle.std.proofs.lemmas.Option.{MatchOption-at_none}
use Rattle.items.specs.Lex.{is_number}
use Rattle.items.specs.Seen.{seen}
use Rattle.reading.specs.Reading.{ok}
use Rattle.reading.specs.Agree.{rest}
use Rattle.reading.specs.Items.{number_item}
use Rattle.reading.proofs.reader.Reader.number.Goals as goal

-- a number item is a number, so its digits have a value
pub returns-in_err-n-clause-reads : goal.returns-in_err-n-clause-reads
returns-in_err-n-clause-reads c =
    let digits = c.in-Number.digits.now in
    let left = drop c.item.new.self.at c.args.self.now.text.now in
    let read = c.in_ok-digits.ensures.1.2 ∙ ap (λ j. ok (seen j) left) c.in-Number.is in
    absurd (both_ways (is_number digits) (MatchOption-at_none _ _ c.in_err-n.ensures.ok_part c.number_in.ensures) (number_item (rest c.args.self.now) left digits read))
