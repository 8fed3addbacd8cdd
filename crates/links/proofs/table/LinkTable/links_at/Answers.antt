use Rattle.std.proofs.Common.{◌≡◌, length, sym, ap, ◌∙◌, subst₂}
use Rattle.links.specs.Table.{links}
use Rattle.links.specs.LinkTable.{places}
use Rattle.links.specs.LinksAt.{LinksOf, rest}
use Rattle.links.proofs.Lends.{kept_lent}
use Rattle.links.proofs.table.LinkTable.links_at.Goals as goal

pub links_at-requires-clause-sound : goal.links_at-requires-clause-sound
links_at-requires-clause-sound g c = kept_lent c.args.self.now _ _ c.deref.ensures.value c.deref-2.ensures.value

pub returns : goal.returns
returns g c =
    let t = c.args.self.now in
    let wide : length c.deref-2.result.now ≡ places t = ap length c.deref-2.ensures.value ∙ sym t.heads.ok.0 in
    subst₂ (λ rows n. LinksOf c.args.side (links rows) n c.args.p.0 (rest c.links_at.result)) c.deref.ensures.value wide c.links_at.ensures
