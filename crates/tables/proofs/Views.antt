-- The links that the columns of a store show. Assumes nothing.
use Rattle.std.proofs.Common.{◌≡◌, ℕ, ◌<◌, Bool, true, false, cond, eqb, List, [], sym, refl, ap, ◌∙◌, subst, arith}
use Rattle.std.proofs.lemmas.Bool.{cond-false, ne_eqb}
use Rattle.paths.specs.Ledger.{Link, Leads}
use Rattle.kinds.specs.Meanings.{Meaning}
use Rattle.links.specs.declared.row.Link.{Link as Row}
use Rattle.links.specs.Table as slots
use Rattle.links.specs.Theory.{arrows}
use Rattle.links.proofs.Ties.{of_leads, leads_of}
use Rattle.law.specs.State.{IsLinked, Leaves}
use Rattle.tables.specs.View.{links_of}

either_way : {X : Type 0} (x : X) (b : Bool) → cond b x x ≡ x
either_way x true = refl
either_way x false = refl

module _ {K P R S : Type 0} (m : Meaning K P R S) (n : ℕ) (xs : List (Row S)) where
  pub no_links : xs ≡ [] → links_of m n xs ≡ []
  no_links e = ap (λ ls. cond (eqb n 0) [] (arrows m.leads ls)) e ∙ either_way [] (eqb n 0)

  -- a store with places has the links of its table
  pub links_are : 0 < n → links_of m n xs ≡ arrows m.leads xs
  links_are l = cond-false (eqb n 0) [] (arrows m.leads xs) (ne_eqb n 0 (λ e. omega arith))

  -- a link of the ledger is one of the table
  pub is_linked : 0 < n → (u v : ℕ) → IsLinked (links_of m n xs) u v → slots.Leads xs u v
  is_linked some u v (t, h) =
      let o = of_leads m.leads xs u v t (subst (λ (ls : List (Link P)). Leads ls u v t) (links_are some) h) in
      (o.0, o.1, o.2, o.3)

  pub linked_by : 0 < n → (u v : ℕ) → slots.Leads xs u v → IsLinked (links_of m n xs) u v
  linked_by some u v (l, h, s, t) = (
    m.leads l.passage,
    subst (λ (ls : List (Link P)). Leads ls u v (m.leads l.passage)) (sym (links_are some))
        (subst (λ (a : ℕ). Leads (arrows m.leads xs) a v (m.leads l.passage)) s
        (subst (λ (b : ℕ). Leads (arrows m.leads xs) l.source.0 b (m.leads l.passage)) t (leads_of m.leads xs l h))),
  )

  -- a link leaves p in the ledger exactly when one does in the table
  pub leaves_in : 0 < n → (p : ℕ) → Leaves (links_of m n xs) p → (v : ℕ) × slots.Leads xs p v
  leaves_in some p (v, t, h) = (v, is_linked some p v (t, h))

  pub leaves_by : 0 < n → (p : ℕ) → ((v : ℕ) × slots.Leads xs p v) → Leaves (links_of m n xs) p
  leaves_by some p (v, h) = let x = linked_by some p v h in (v, x.0, x.1)
