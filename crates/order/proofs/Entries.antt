-- The links into a place, as a walk of their thread finds them. Assumes nothing.
use Rattle.std.proofs.Common.{◌≡◌, ℕ, Bool, true, List, sym, ap, ◌∙◌, subst}
use Rattle.std.specs.List.{ContainsAt as Has, list_any}
use Rattle.std.proofs.lemmas.List.{get_or_default}
use Rattle.std.proofs.lemmas.List.Folds.{Any-from_list_any, list_any_at}
use Rattle.links.specs.declared.row.Link.{Link}
use Rattle.links.specs.declared.row.Side.TheVariants.{Entering}
use Rattle.links.specs.LinksAt.{LinksOf}
use Rattle.links.proofs.Ties.{leads_of, of_leads}
use Rattle.order.specs.Tables.{links_in, Entered}

module _ {R : Type 0} (xs : List (Link R)) (marked : ℕ → Bool) where
  pub entered_by : (m : Link R) → Has xs m → marked m.source.0 ≡ true → Entered (links_in xs) marked m.target.0
  entered_by m h e = (m.source.0, m.passage, leads_of (λ t. t) xs m h, e)

-- some item passes a test, and what the test says where one does
any_has : {X : Type 0} (test : X → Bool) (ys : List X) → list_any test ys ≡ true → (y : X) × Has ys y × (test y ≡ true)
any_has test ys e =
    let a = Any-from_list_any test ys e in
    (a.1, (a.0, a.2, λ d. get_or_default ys a.0 d a.1 a.2 ∙ a.3), a.4)

has_any : {X : Type 0} (test : X → Bool) (ys : List X) (y : X) → Has ys y → test y ≡ true → list_any test ys ≡ true
has_any test ys y h e = list_any_at test ys h.0 y h.1 (ap test (h.2 y) ∙ e)

-- a search of the links into p
module _ {R : Type 0} (xs ys : List (Link R)) (n p : ℕ) (of : LinksOf Entering xs n p ys) (marked : ℕ → Bool) (r : Bool) (is : r ≡ list_any (λ (l : Link R). marked l.source.0) ys) where
  pub entered_yes : r ≡ true → Entered (links_in xs) marked p
  entered_yes e =
      let f = any_has (λ (l : Link R). marked l.source.0) ys (sym is ∙ e) in
      let m = (of.members f.0).0 f.1 in
      subst (λ (q : ℕ). Entered (links_in xs) marked q) m.1 (entered_by xs marked f.0 m.0 f.2)

  pub entered_no : Entered (links_in xs) marked p → r ≡ true
  entered_no (q, t, h, e) =
      let l = of_leads (λ t. t) xs q p t h in
      is ∙ has_any (λ (l : Link R). marked l.source.0) ys l.0 ((of.members l.0).1 (l.1, l.3)) (ap marked l.2 ∙ e)
