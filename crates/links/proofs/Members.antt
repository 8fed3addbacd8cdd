-- What a call makes of the links, from what it makes of the slots. Assumes nothing.
use Rattle.std.proofs.Common.{◌≡◌, ℕ, zero, suc, ◌+◌, ◌<◌, Bool, true, false, cond, not, ◌⊎◌, ◌↔◌, List, [], ◌∷◌, length, get_or, set, Some, None, filter, Option, sym, refl, ap, ◌∙◌, subst, inl, inr, ⊎_elim, arith, length-set, get_or-set_other, get_or-set_same}
use lib.ListN.{length-map}
use Rattle.std.proofs.lemmas.Bool.{cases_eq, cond-true, cond-false}
use Rattle.std.specs.List.{ContainsAt as Has}
use Rattle.links.specs.declared.row.LinkRow.{LinkRow}
use Rattle.links.specs.declared.row.Heads.{Heads}
use Rattle.links.specs.declared.row.Link.{Link}
use Rattle.links.specs.declared.row.Slot.{Slot}
use Rattle.links.specs.Table.{link_at, linked, somes, links, Sound, Taken, Put, Found, Leads, as_link}
use Rattle.links.specs.Links.{AsMany, joins, Gained, Lost}
use Rattle.links.proofs.Held.{link_live, none_some, somes_take}
use Rattle.paths.proofs.Lists.{has_kept}
use Rattle.links.proofs.Haves.{slot_having, of_slot}
use Rattle.links.proofs.Joins.{joins_since, not_joins}
use Rattle.links.proofs.Clears.{taken_same, taken_other}

-- one more, put in anywhere, counts as one more put in first
more : {X : Type 0} (a b : Bool) (x y : X) (zs ws : List X) → length zs ≡ length (cond a (x ∷ ws) ws) → length (cond b (y ∷ zs) zs) ≡ length (cond a (x ∷ cond b (y ∷ ws) ws) (cond b (y ∷ ws) ws))
more true true x y zs ws e = ap suc e
more true false x y zs ws e = e
more false true x y zs ws e = ap suc e
more false false x y zs ws e = e

number_put : {X : Type 0} (os : List (Option X)) (s : ℕ) (x : X) → s < length os → get_or os s None ≡ None → AsMany (somes (set os s (Some x))) (x ∷ somes os)
number_put [] s x l e test = absurd (omega arith)
number_put (None ∷ os) zero x l e test = refl
number_put (Some y ∷ os) zero x l e test = absurd (none_some y (sym e))
number_put (None ∷ os) (suc s) x l e test = number_put os s x (omega arith) e test
number_put (Some y ∷ os) (suc s) x l e test =
    more (test x) (test y) x y (filter test (somes (set os s (Some x)))) (filter test (somes os)) (number_put os s x (omega arith) e test)

pub put_gained : {R : Type 0} (rows rows' : List (LinkRow R)) (s : ℕ) (l : Link R) → Put rows rows' s l → Gained (links rows) (links rows') l
put_gained {R} rows rows' s l p =
    let slot : s < length (linked rows) = rw (length-map rows as_link) p.slot in
    let here : link_at rows' s ≡ Some l = ap (λ os. get_or os s None) p.put ∙ get_or-set_same (linked rows) s (Some l) None slot in
    let there : (k : ℕ) → (k ≡ s → ⊥) → link_at rows' k ≡ link_at rows k = λ k ne. ap (λ os. get_or os k None) p.put ∙ get_or-set_other (linked rows) s k (Some l) None ne in
    record {
      members = λ m. (
        λ h.
            let r = slot_having (linked rows') m h in
            ⊎_elim {C = (m ≡ l) ⊎ Has (links rows) m}
            (λ e. inl (let q : link_at rows' s ≡ Some m = ap (link_at rows') (sym e) ∙ r.1 in cc))
            (λ ne. inr (of_slot (linked rows) m r.0 (sym (there r.0 ne) ∙ r.1)))
            (cases_eq r.0 s),
        λ h. ⊎_elim {C = Has (links rows') m}
            (λ e. of_slot (linked rows') m s (rw e here))
            (λ i.
            let r = slot_having (linked rows) m i in
            let ne : r.0 ≡ s → ⊥ = λ e. none_some m (sym p.spare ∙ ap (link_at rows) (sym e) ∙ r.1) in
            of_slot (linked rows') m r.0 (there r.0 ne ∙ r.1))
            h,
      );
      number = λ test. ap (λ os. length (filter test (somes os))) p.put ∙ number_put (linked rows) s l slot p.spare test;
    }

-- what a slot holds where only those that pass the test are kept
abbrev sieve : {X : Type 0} → (X → Bool) → Option X → Option X
sieve keep None = None
sieve keep (Some x) = cond (keep x) (Some x) None

joined : {X : Type 0} (b : Bool) (x : X) (os : List (Option X)) → somes (cond b (Some x) None ∷ os) ≡ cond b (x ∷ somes os) (somes os)
joined true x os = refl
joined false x os = refl

sieved : {X : Type 0} (keep : X → Bool) (os os' : List (Option X)) → length os' ≡ length os → ((k : ℕ) → get_or os' k None ≡ sieve keep (get_or os k None)) → somes os' ≡ filter keep (somes os)
sieved keep [] [] e same = refl
sieved keep [] (o ∷ os') e same = absurd (omega arith)
sieved keep (o ∷ os) [] e same = absurd (omega arith)
sieved {X} keep (None ∷ os) (o' ∷ os') e same = ap (λ (o : Option X). somes (o ∷ os')) (same 0) ∙ sieved keep os os' (omega arith) (λ k. same (suc k))
sieved {X} keep (Some x ∷ os) (o' ∷ os') e same =
    ap (λ (o : Option X). somes (o ∷ os')) (same 0) ∙ joined (keep x) x os' ∙ ap (λ (zs : List X). cond (keep x) (x ∷ zs) zs) (sieved keep os os' (omega arith) (λ k. same (suc k)))

-- a slot keeps what passes
passes : {X : Type 0} (keep : X → Bool) (o : Option X) → ((x : X) → o ≡ Some x → keep x ≡ true) → o ≡ sieve keep o
passes keep None all = refl
passes keep (Some x) all = sym (cond-true (keep x) (Some x) None (all x refl))

kept_members : {X : Type 0} (keep : X → Bool) (P : X → Type 0) → ((m : X) → (keep m ≡ true) ↔ P m) → (xs ys : List X) → ys ≡ filter keep xs → (m : X) → Has ys m ↔ (Has xs m × P m)
kept_members {X} keep P same xs ys e m = (
  λ h. let k = (has_kept keep xs m).0 (subst (λ (zs : List X). Has zs m) e h) in (k.0, (same m).0 k.1),
  λ h. subst (λ (zs : List X). Has zs m) (sym e) ((has_kept keep xs m).1 (h.0, (same m).1 h.1)),
)

module _ {R : Type 0} (xs ys : List (Link R)) where
  pub kept_lost : (u v : ℕ) → ys ≡ filter (λ m. not (joins u v m)) xs → Lost xs ys u v
  kept_lost u v e =
      record {
        members = kept_members (λ m. not (joins u v m)) (λ m. m.source.0 ≡ u → m.target.0 ≡ v → ⊥) (λ m. not_joins m u v) xs ys e;
        number = λ test. ap (λ (zs : List (Link R)). length (filter test zs)) e;
      }

-- where no link leads from u to v all pass
pub absent_kept : {R : Type 0} (rows : List (LinkRow R)) (u v : ℕ) → (Leads (links rows) u v → ⊥) → links rows ≡ filter (λ m. not (joins u v m)) (links rows)
absent_kept {R} rows u v none =
    sieved (λ m. not (joins u v m)) (linked rows) (linked rows) refl
    (λ k. passes (λ m. not (joins u v m)) (link_at rows k) (λ m e. (not_joins m u v).1 (λ a b. none (m, of_slot (linked rows) m k e, a, b))))

pub taken_kept : {R : Type 0} (rows rows' : List (LinkRow R)) (heads : List Heads) (count free u v : ℕ) (s : Slot) → Sound rows heads count free → Found rows u v (Some s) → Taken rows rows' s.0 →
    links rows' ≡ filter (λ m. not (joins u v m)) (links rows)
taken_kept {R} rows rows' heads count free u v s so f t =
    let keep : Link R → Bool = λ m. not (joins u v m) in
    let w = link_live rows s.0 f.0 f.1.1 in
    sieved keep (linked rows) (linked rows') (ap length t.taken ∙ length-set (linked rows) s.0 None)
    (λ k. ⊎_elim {C = link_at rows' k ≡ sieve keep (link_at rows k)}
    (λ e. subst (λ (j : ℕ). link_at rows' j ≡ sieve keep (link_at rows j)) (sym e)
    (taken_same rows rows' s.0 f.0 t f.1.1 ∙ sym (ap (sieve keep) f.1.1 ∙ cond-false (keep f.0) (Some f.0) None (ap not (joins_since f.0 u v f.2 f.3)))))
    (λ ne. taken_other rows rows' s.0 k t ne ∙ passes keep (link_at rows k) (λ m e. (not_joins m u v).1 (λ a b.
    let x = link_live rows k m e in
    ne (so.single k s.0 x.1 w.1 (x.2 ∙ a ∙ sym f.2 ∙ sym w.2) (x.3 ∙ b ∙ sym f.3 ∙ sym w.3)))))
    (cases_eq k s.0))

-- one link fewer
pub taken_fewer : {R : Type 0} (rows rows' : List (LinkRow R)) (s : ℕ) (l : Link R) → link_at rows s ≡ Some l → Taken rows rows' s → length (links rows') + 1 ≡ length (links rows)
taken_fewer rows rows' s l e t = let f = somes_take (linked rows) s l e in let g = ap (λ os. length (somes os)) t.taken in omega arith
