-- The least that takes in an own label and what the links bring is their join. Assumes nothing.
use Rattle.std.proofs.Common.{◌≡◌, ℕ, List, subst}
use Rattle.paths.specs.Kind.{Laws, Within}
use Rattle.paths.specs.Ledger.{Leads}
use Rattle.paths.proofs.Within.{within_trans, within_both, within_join, within_left, within_right}
use Rattle.paths.proofs.Joins.{inflow_ind, inflow_takes}
use Rattle.kinds.specs.Meanings.{Meaning}
use Rattle.links.specs.declared.row.Link.{Link}
use Rattle.links.proofs.Ties.{leads_of, of_leads}
use Rattle.recompute.specs.Tables.{value_in, arrows_in, gathered}
use Rattle.recompute.specs.Joined.{brought, Takes}

module _ {L P R S : Type 0} (m : Meaning L P R S) (laws : Laws m.kind) (n : ℕ) (own labels : List R) (xs : List (Link S)) (p : ℕ) where
  -- the join takes in what each link brings
  gathered_takes : Takes m n labels xs p (value_in m n own p) (gathered m n own labels xs p)
  gathered_takes =
      record {
        mine = within_left laws _ _;
        each = λ l h e.
            let leads : Leads (arrows_in m xs) l.source.0 p (m.leads l.passage) =
            subst (λ (q : ℕ). Leads (arrows_in m xs) l.source.0 q (m.leads l.passage)) e (leads_of m.leads xs l h) in
            within_trans laws _ _ _ (inflow_takes laws (value_in m n labels) p l.source.0 (m.leads l.passage) (arrows_in m xs) leads) (within_right laws _ _);
      }

  gathered_least : (z : m.Value) → Takes m n labels xs p (value_in m n own p) z → Within m.kind (gathered m n own labels xs p) z
  gathered_least z t =
      within_join laws _ _ z t.mine
      (inflow_ind laws (value_in m n labels) p (λ x. Within m.kind x z) (laws.unit z) (λ x y. within_join laws x y z) (arrows_in m xs)
      (λ q s h.
      let o = of_leads m.leads xs q p s h in
      let l = o.0 in
      let eq : brought m n labels l ≡ m.kind.carry s (value_in m n labels q) = λ i. m.kind.carry (o.4 i) (value_in m n labels (o.2 i)) in
      subst (λ x. Within m.kind x z) eq (t.each l o.1 o.3)))

  pub gathered_is : (v : m.Value) → Takes m n labels xs p (value_in m n own p) v → ((z : m.Value) → Takes m n labels xs p (value_in m n own p) z → Within m.kind v z) →
      v ≡ gathered m n own labels xs p
  gathered_is v takes least = within_both laws v _ (least _ gathered_takes) (gathered_least v takes)
