-- A loop over the links at a place: what is known of those that it has passed. Assumes nothing.
use Rattle.std.proofs.Common.{◌≡◌, ℕ, ◌⊎◌, List, [], ◌∷◌, sym, subst, inl, inr, ⊎_elim}
use Rattle.std.specs.List.{ContainsAt as Has}
use Rattle.paths.proofs.Lists.{has_none, has_first, has_later, has_cases}
use Rattle.links.specs.declared.row.Link.{Link}
use Rattle.links.specs.declared.row.Side.{Side}
use Rattle.links.specs.Table.{end_of}
use Rattle.links.specs.LinksAt.{LinksOf}

-- of the links xs at p those of ys are still to come, and P holds of the others
pub record Passed {R : Type 0} (side : Side) (xs : List (Link R)) (p : ℕ) (ys : List (Link R)) (P : Link R → Type 0) : Type 0 where
  pub each : (x : Link R) → Has xs x → end_of side x ≡ p → Has ys x ⊎ P x
  pub among : (x : Link R) → Has ys x → Has xs x × (end_of side x ≡ p)

module _ {R : Type 0} (side : Side) (xs : List (Link R)) (p : ℕ) where
  pub passed_none : (n : ℕ) (ys : List (Link R)) (P : Link R → Type 0) → LinksOf side xs n p ys → Passed side xs p ys P
  passed_none n ys P of = record { each = λ x h e. inl ((of.members x).1 (h, e)); among = λ x h. (of.members x).0 h }

  module _ (ys zs : List (Link R)) (l : Link R) (is : ys ≡ l ∷ zs) (P : Link R → Type 0) (w : Passed side xs p ys P) where
    pub passed_here : Has xs l × (end_of side l ≡ p)
    passed_here = w.among l (subst (λ vs. Has vs l) (sym is) (has_first zs l))

    pub passed_on : (Q : Link R → Type 0) → ((x : Link R) → P x → Q x) → Q l → Passed side xs p zs Q
    passed_on Q stays here =
        record {
          each = λ x h e.
              ⊎_elim {C = Has zs x ⊎ Q x}
              (λ i. ⊎_elim {C = Has zs x ⊎ Q x} (λ q. inr (subst Q q here)) (λ j. inl j) (has_cases zs l x (subst (λ vs. Has vs x) is i)))
              (λ q. inr (stays x q))
              (w.each x h e);
          among = λ x h. w.among x (subst (λ vs. Has vs x) (sym is) (has_later zs l x h));
        }

  pub passed_all : (ys : List (Link R)) (P : Link R → Type 0) → ys ≡ [] → Passed side xs p ys P → (x : Link R) → Has xs x → end_of side x ≡ p → P x
  passed_all ys P none w x h e = ⊎_elim {C = P x} (λ i. absurd (has_none x (subst (λ vs. Has vs x) none i))) (λ q. q) (w.each x h e)
