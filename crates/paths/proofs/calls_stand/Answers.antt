use Rattle.std.proofs.Common.{◌<◌, true, false, refl}
use Rattle.paths.proofs.Calls.{first_ledger, put_both, linked, unlinked, cut, fed, link_one, link_each, kept_each, kept_one, own_edits, link_edits, unlink_edits, bring_keeps, discard_keeps}
use Rattle.paths.proofs.calls_stand.Goals as goal

pub returns : goal.returns
returns g c =
    let k = g.L.Label.kind in
    let laws = g.L.Label.lawful in
    record {
      first = first_ledger k laws;
      change = record {
        bring_present = λ h p. put_both h.present p true;
        bring_leaves = λ h p. (refl, refl);
        own_own = λ h p x. put_both h.own p x;
        own_leaves = λ h p x. (refl, refl);
        link_links = linked k;
        link_leaves = λ h u v t. (refl, refl);
        unlink_links = unlinked k;
        unlink_leaves = λ h u v. (refl, refl);
        discard_present = λ h p. put_both h.present p false;
        discard_own = λ h p. put_both h.own p k.empty;
        discard_links = cut k;
        fed = fed k;
      };
      edit = record { of_own = own_edits k; of_link = link_edits k; of_unlink = unlink_edits k };
      joins = record { of_bring = bring_keeps k laws; of_discard = discard_keeps k laws };
      links = record {
        unlink_rises = λ h rank u v. kept_each (λ a b t. rank a < rank b) _ h.links;
        discard_rises = λ h rank p. kept_each (λ a b t. rank a < rank b) _ h.links;
        unlink_inside = λ h n u v. kept_each (λ a b t. (a < n) × (b < n)) _ h.links;
        discard_inside = λ h n p. kept_each (λ a b t. (a < n) × (b < n)) _ h.links;
        link_inside = λ h n u v t x y. link_each k (λ a b s. (a < n) × (b < n)) h u v t (x, y);
        unlink_one = λ h u v. kept_one _ h.links;
        discard_one = λ h p. kept_one _ h.links;
        link_one = link_one k;
      };
    }
