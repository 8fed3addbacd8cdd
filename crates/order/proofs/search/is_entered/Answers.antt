use Rattle.std.proofs.Common.{◌≡◌, refl, rules}
use Rattle.std.specs.List.{list_any}
use Rattle.std.specs.Iterator.{YieldsFirstBy}
use Rattle.std.proofs.lemmas.Iterator.Consumers.{YieldsList-from_first}
use Rattle.std.proofs.lemmas.Iterator.Search.{any_from_yields_List}
use Rattle.links.specs.declared.row.Link.{Link}
use Rattle.links.specs.declared.table.links_at.LinksAt.{LinksAt}
use Rattle.links.specs.LinksAt.{rest}
use Rattle.links.specs.Table.{links}
use Rattle.order.specs.Tables.{marked_in}
use Rattle.order.proofs.Entries.{entered_yes, entered_no}
use Rattle.order.proofs.search.is_entered.Goals as goal

pub returns : goal.returns
returns g c =
    let L = Link g.row.R.Denot in
    let it : LinksAt g.row.R.Denot = c.links_at.result in
    let marked = marked_in c.args.marks.now.n c.args.marks.now.bytes.now in
    let test : L → _ = λ l. marked l.source.0 in
    let all = YieldsList-from_first {S = LinksAt g.row.R.Denot} {A = L} {B = L} (λ x. x) rest {s = it} (rest it) refl in
    let is : c.any.result ≡ list_any test (rest it) =
    any_from_yields_List {S = LinksAt g.row.R.Denot} {A = L} {B = L} {steps = YieldsFirstBy (λ x. x) rest} {v = λ x. x} {s = it} {all = rest it} test c.any.new.self _ c.any.result c.any.ensures.ran all (λ x b q k. search rules) in
    record {
      yes = entered_yes (links c.args.rows.now) (rest it) _ c.args.p.0 c.links_at.ensures marked c.any.result is;
      no = entered_no (links c.args.rows.now) (rest it) _ c.args.p.0 c.links_at.ensures marked c.any.result is;
    }
