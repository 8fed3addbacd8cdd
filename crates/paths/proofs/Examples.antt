-- The two examples. Assumes nothing.
use Rattle.std.proofs.Common.{◌≡◌, ℕ, ◌<◌, ◌≤◌, Bool, true, false, not, eqb, List, [], ◌∷◌, length, get_or, filter, sym, refl, ap, ◌∙◌, subst, inl, inr, ⊎_elim, arith}
use Rattle.std.specs.List.{ContainsAt as Has}
use Rattle.std.proofs.lemmas.Bool.{both_ways, cases_Bool, eqb-true, eq-eqb}
use Rattle.std.proofs.ByRecursion.{all-has, has_get_or}
use Rattle.paths.specs.Ledger.{Link, Ledger, AreJoins}
use Rattle.paths.specs.Equations.{Topological}
use Rattle.paths.specs.Calls.{unlink, joins, next}
use Rattle.paths.specs.Edits.{Edit}
use Rattle.paths.specs.Reports.{Changed, Reported, IsReport, Number}
use Rattle.paths.specs.Search.{Met, Marks}
use Rattle.paths.specs.Order.{Ranked, upto, moved}
use Rattle.paths.specs.LatestLaws.{latest_laws}
use Rattle.paths.specs.Examples.{latest, arrow, bare, diamond, FootOfDiamond, SixPlaces}
use Rattle.paths.proofs.Lists.{has_none, has_first, has_later, has_cases}
use Rattle.paths.proofs.Calls.{kept_each, own_edits}
use Rattle.paths.proofs.Joins.{join_unique}
use Rattle.paths.proofs.Told.{counted}
use Rattle.paths.proofs.Permutes.{first_rising}
use Rattle.paths.proofs.Exists.{label_of, join_exists}

diamond_rises : Topological (λ p. p) diamond.links
diamond_rises u v t m =
    all-has (λ (l : Link ℕ). l.source < l.target) diamond.links (arrow u v t) (omega arith, (omega arith, (omega arith, (omega arith, tt)))) m

abbrev four : List ℕ
four = 0 ∷ 1 ∷ 2 ∷ 3 ∷ []

-- a label is what the paths give
by_paths : (g : Ledger ℕ ℕ) (up : Topological (λ p. p) g.links) (label : ℕ → ℕ) → AreJoins latest g label → (p x : ℕ) → label_of latest_laws g (λ q. q) up p ≡ x → label p ≡ x
by_paths g up label joins p x e = join_unique latest_laws g p (label p) _ (joins p) (join_exists latest_laws g (λ q. q) up p) ∙ e

module _ (old new : ℕ → ℕ) (was : AreJoins latest bare old) (is : AreJoins latest diamond new) where
  was_empty : (p : ℕ) → label_of latest_laws bare (λ q. q) diamond_rises p ≡ 0 → old p ≡ 0
  was_empty p = by_paths bare diamond_rises old was p 0

  is_full : (p : ℕ) → label_of latest_laws diamond (λ q. q) diamond_rises p ≡ 100 → new p ≡ 100
  is_full p = by_paths diamond diamond_rises new is p 100

  differs : (p : ℕ) → label_of latest_laws bare (λ q. q) diamond_rises p ≡ 0 → label_of latest_laws diamond (λ q. q) diamond_rises p ≡ 100 → Changed old new p
  differs p e f same = let a = was_empty p e in let b = is_full p f in omega arith

  all_reported : IsReport diamond 0 old new (λ p. p) four
  unfolding label_of
  all_reported = record { those = λ p. (to p, from p); rising = first_rising 4 }
    where
      links : List (Link ℕ)
      links = diamond.links

      none : Link ℕ
      none = arrow 0 0 0

      in' : (i : ℕ) → i < 4 → Has four (get_or four i 0)
      in' i l = has_get_or four i 0 l

      to : (p : ℕ) → Has four p → Reported diamond 0 old new p
      to p h =
          all-has (λ p. Reported diamond 0 old new p) four p
          (inl refl, (inr (0, 900, has_get_or links 0 none (omega arith), differs 0 refl refl), (inr (0, 900, has_get_or links 1 none (omega arith), differs 0 refl refl), (inr (1, 50, has_get_or links 2 none (omega arith), differs 1 refl refl), tt)))) h

      from : (p : ℕ) → Reported diamond 0 old new p → Has four p
      from p (inl e) = rw e (in' 0 (omega arith))
      from p (inr (q, t, m, c)) = all-has (λ (l : Link ℕ). Has four l.target) diamond.links (arrow q p t) (in' 1 (omega arith), (in' 2 (omega arith), (in' 3 (omega arith), (in' 3 (omega arith), tt)))) m

  four_changed : Number (Changed old new) 4
  unfolding label_of
  four_changed =
      let edit : Edit latest bare diamond 0 old =
      record { edited = own_edits latest bare 0 100; before = λ p. p; rose = diamond_rises; rank = λ p. p; rises = diamond_rises; was = was } in
      let number = counted latest_laws bare diamond 0 old new edit eqb (λ x y. (eqb-true x y, eq-eqb x y)) is (λ p. p) four all_reported in
      let size : length (filter (λ p. not (eqb (new p) (old p))) four) ≡ 4 =
      simp (is_full 0 refl, is_full 1 refl, is_full 2 refl, is_full 3 refl, was_empty 0 refl, was_empty 1 refl, was_empty 2 refl, was_empty 3 refl) in
      subst (Number (Changed old new)) size number

pub foot_label : FootOfDiamond
unfolding label_of
foot_label =
    record {
      both = join_exists latest_laws diamond (λ p. p) diamond_rises 3;
      one = join_exists latest_laws (next latest diamond (unlink 2 3)) (λ p. p) (kept_each (λ a b t. a < b) (λ l. not (joins 2 3 l)) diamond.links diamond_rises) 3;
      reported = all_reported;
      changed = four_changed;
    }

abbrev last : List (Link ℕ)
last = arrow 1 3 900 ∷ []

module _ (marked : ℕ → Bool) (marks : Marks (arrow 0 4 900 ∷ last) (λ p. p) 1 4 marked) where
  one_in : marked 1 ≡ true
  one_in = (marks.within 1 (omega arith) (omega arith)).1 (inl refl)

  three_in : marked 3 ≡ true
  three_in = (marks.within 3 (omega arith) (omega arith)).1 (inr (1, 900, has_later last (arrow 0 4 900) (arrow 1 3 900) (has_first [] (arrow 1 3 900)), one_in))

  -- no other link than that from 0 leads into 2 or 4, and 0 has a rank below 1's
  out : (p : ℕ) → 1 < p → p ≤ 4 → ¬ (p ≡ 3) → marked p ≡ false
  out p low high other = ⊎_elim {C = marked p ≡ false} (λ e. absurd (not_met ((marks.within p (omega arith) high).0 e))) (λ e. e) (cases_Bool (marked p))
    where
      not_met : Met (arrow 0 4 900 ∷ last) 1 marked p → ⊥
      not_met (inl e) = omega arith
      not_met (inr (q, t, m, e)) =
          ⊎_elim {C = ⊥} (λ s. let a : 0 ≡ q = ap (λ (l : Link ℕ). l.source) s in both_ways (marked q) (marks.below q (omega arith)) e)
          (λ n. ⊎_elim {C = ⊥} (λ s. other (sym (ap (λ (l : Link ℕ). l.target) s))) (has_none (arrow q p t)) (has_cases [] (arrow 1 3 900) (arrow q p t) n))
          (has_cases last (arrow 0 4 900) (arrow q p t) m)

  order_is : moved marked 1 4 (upto 6) ≡ 0 ∷ 2 ∷ 4 ∷ 1 ∷ 3 ∷ 5 ∷ []
  order_is =
      let two = out 2 (omega arith) (omega arith) (λ e. omega arith) in
      let four = out 4 (omega arith) (omega arith) (λ e. omega arith) in
      simp (one_in, two, three_in, four)

pub six_places : SixPlaces
six_places marked marks new ranked =
    let r : Ranked new (0 ∷ 2 ∷ 4 ∷ 1 ∷ 3 ∷ 5 ∷ []) = subst (Ranked new) (order_is marked marks) ranked in
    (r.at 0 (omega arith), r.at 1 (omega arith), r.at 2 (omega arith), r.at 3 (omega arith), r.at 4 (omega arith), r.at 5 (omega arith))
