-- The links of a table beside those of the ledger. Assumes nothing.
use Rattle.std.proofs.Common.{◌≡◌, ℕ, suc, Bool, true, false, cond, not, ◌&&◌, ◌↔◌, List, [], ◌∷◌, map, length, filter, sym, refl, ap, ◌∙◌, subst, subst₂, inl, inr, ⊎_elim}
use Rattle.std.specs.List.{ContainsAt as Has}
use Rattle.paths.specs.Kind.{Kind}
use Rattle.paths.specs.Ledger.{Ledger, Leads, OneEach}
use Rattle.paths.specs.Ledger.{Link as Arrow}
use Rattle.paths.specs.Calls.{next, link, unlink, discard, joins, enters}
use Rattle.paths.proofs.Lists.{has_none, has_first, has_later, has_cases, has_kept}
use Rattle.links.specs.declared.row.LinkRow.{LinkRow}
use Rattle.links.specs.declared.row.Heads.{Heads}
use Rattle.links.specs.declared.row.Tally.{Tally}
use Rattle.links.specs.declared.row.Link.{Link}
use Rattle.links.specs.Table.{links, Kept}
use Rattle.links.specs.Links.{AsMany, Gained, Lost, Shut}
use Rattle.links.specs.Theory.{arrow, arrows, Alike, Follows}
use Rattle.links.proofs.Ends.{one_link, inside}
use Rattle.links.proofs.Props.{opened}
use Rattle.links.proofs.Joins.{not_joins, not_enters}
use Rattle.links.proofs.Shuts.{kept_twice}

has_map : {X Y : Type 0} (f : X → Y) (xs : List X) (x : X) → Has xs x → Has (map f xs) (f x)
has_map f [] x h = absurd (has_none x h)
has_map {X} {Y} f (y ∷ xs) x h = ⊎_elim {C = Has (map f (y ∷ xs)) (f x)}
    (λ e. subst (λ (z : X). Has (map f (y ∷ xs)) (f z)) e (has_first (map f xs) (f y)))
    (λ i. has_later (map f xs) (f y) (f x) (has_map f xs x i))
    (has_cases xs y x h)

map_has : {X Y : Type 0} (f : X → Y) (xs : List X) (y : Y) → Has (map f xs) y → (x : X) × Has xs x × (f x ≡ y)
map_has f [] y h = absurd (has_none y h)
map_has {X} f (x ∷ xs) y h = ⊎_elim {C = (z : X) × Has (x ∷ xs) z × (f z ≡ y)}
    (λ e. (x, has_first xs x, e))
    (λ i. let r = map_has f xs y i in (r.0, has_later xs x r.0 r.1, r.2))
    (has_cases (map f xs) (f x) y h)

-- a link of the table is one of the ledger's, and each of those comes from one
pub leads_of : {R P : Type 0} (leads : R → P) (xs : List (Link R)) (l : Link R) → Has xs l → Leads (arrows leads xs) l.source.0 l.target.0 (leads l.passage)
leads_of leads xs l h = has_map (arrow leads) xs l h

pub of_leads : {R P : Type 0} (leads : R → P) (xs : List (Link R)) (u v : ℕ) (t : P) → Leads (arrows leads xs) u v t →
    (l : Link R) × Has xs l × (l.source.0 ≡ u) × (l.target.0 ≡ v) × (leads l.passage ≡ t)
of_leads {R} {P} leads xs u v t h =
    let r = map_has (arrow leads) xs _ h in
    (r.0, r.1, ap (λ (a : Arrow P). a.source) r.2, ap (λ (a : Arrow P). a.target) r.2, ap (λ (a : Arrow P). a.passage) r.2)

to_leads : {R P : Type 0} (leads : R → P) (xs : List (Link R)) (u v : ℕ) (t : P) →
    ((l : Link R) × Has xs l × (l.source.0 ≡ u) × (l.target.0 ≡ v) × (leads l.passage ≡ t)) → Leads (arrows leads xs) u v t
to_leads {R} {P} leads xs u v t (l, h, a, b, c) =
    subst (λ (s : P). Leads (arrows leads xs) u v s) c (subst₂ (λ (p q : ℕ). Leads (arrows leads xs) p q (leads l.passage)) a b (leads_of leads xs l h))

one_each : {R P : Type 0} (leads : R → P) (rows : List (LinkRow R)) (heads : List Heads) (tally : Tally) → Kept rows heads tally → OneEach (arrows leads (links rows))
one_each {R} leads rows heads tally kept u v t s a b =
    let l = of_leads leads (links rows) u v t a in
    let m = of_leads leads (links rows) u v s b in
    let same = one_link rows heads _ _ (opened rows heads tally kept) l.0 m.0 l.1 m.1 (l.2 ∙ sym m.2) (l.3 ∙ sym m.3) in
    sym l.4 ∙ ap (λ (x : Link R). leads x.passage) same ∙ m.4

-- what passes after a map
kept_map : {X Y : Type 0} (f : X → Y) (test : Y → Bool) (xs : List X) → length (filter test (map f xs)) ≡ length (filter (λ x. test (f x)) xs)
kept_map f test [] = refl
kept_map {X} {Y} f test (x ∷ xs) = go (test (f x)) (filter test (map f xs)) (filter (λ x. test (f x)) xs) (kept_map f test xs)
  where
    go : (b : Bool) (ys : List Y) (zs : List X) → length ys ≡ length zs → length (cond b (f x ∷ ys) ys) ≡ length (cond b (x ∷ zs) zs)
    go true ys zs e = ap suc e
    go false ys zs e = e

-- links that pass a test, kept on both sides
module _ {R P : Type 0} (leads : R → P) (keep : Arrow P → Bool) (xs ys : List (Link R)) (gs : List (Arrow P)) (alike : Alike (arrows leads xs) gs)
    (members : (m : Link R) → Has ys m ↔ (Has xs m × (keep (arrow leads m) ≡ true))) (number : AsMany ys (filter (λ m. keep (arrow leads m)) xs)) where
  kept_alike : Alike (arrows leads ys) (filter keep gs)
  kept_alike =
      record {
        members = λ u v t. (
          λ h.
              let r = map_has (arrow leads) ys _ h in
              let m = (members r.0).0 r.1 in
              (has_kept keep gs _).1 ((alike.members u v t).0 (subst (Has (arrows leads xs)) r.2 (has_map (arrow leads) xs r.0 m.0)), sym (ap keep r.2) ∙ m.1),
          λ h.
              let k = (has_kept keep gs _).0 h in
              let r = map_has (arrow leads) xs _ ((alike.members u v t).1 k.0) in
              subst (Has (arrows leads ys)) r.2 (has_map (arrow leads) ys r.0 ((members r.0).1 (r.1, ap keep r.2 ∙ k.1))),
        );
        number = λ test.
            kept_map (arrow leads) test ys ∙ number (λ m. test (arrow leads m))
            ∙ ap length (kept_twice (λ m. keep (arrow leads m)) (λ m. test (arrow leads m)) xs)
            ∙ sym (kept_map (arrow leads) (λ a. keep a && test a) xs) ∙ alike.number (λ a. keep a && test a) ∙ sym (ap length (kept_twice keep test gs));
      }

module _ {R V P : Type 0} (k : Kind V P) (g : Ledger V P) (leads : R → P) (xs ys : List (Link R)) (alike : Alike (arrows leads xs) g.links) where
  gains : (l : Link R) → Gained xs ys l → Alike (arrows leads ys) (next k g (link l.source.0 l.target.0 (leads l.passage))).links
  gains l gain =
      record {
        members = λ u v t. (
          λ h.
              let r = map_has (arrow leads) ys _ h in
              ⊎_elim {C = Leads (arrow leads l ∷ g.links) u v t}
              (λ e. subst (Has (arrow leads l ∷ g.links)) (ap (arrow leads) (sym e) ∙ r.2) (has_first g.links (arrow leads l)))
              (λ i. has_later g.links (arrow leads l) _ ((alike.members u v t).0 (subst (Has (arrows leads xs)) r.2 (has_map (arrow leads) xs r.0 i))))
              ((gain.members r.0).0 r.1),
          λ h.
              ⊎_elim {C = Leads (arrows leads ys) u v t}
              (λ e. subst (Has (arrows leads ys)) e (has_map (arrow leads) ys l ((gain.members l).1 (inl refl))))
              (λ i.
              let r = map_has (arrow leads) xs _ ((alike.members u v t).1 i) in
              subst (Has (arrows leads ys)) r.2 (has_map (arrow leads) ys r.0 ((gain.members r.0).1 (inr r.1))))
              (has_cases g.links (arrow leads l) _ h),
        );
        number = λ test. kept_map (arrow leads) test ys ∙ gain.number (λ m. test (arrow leads m)) ∙ more (test (arrow leads l)) (filter (λ m. test (arrow leads m)) xs) (filter test g.links) (sym (kept_map (arrow leads) test xs) ∙ alike.number test);
      }
    where
      more : (b : Bool) (ms : List (Link R)) (bs : List (Arrow P)) → length ms ≡ length bs → length (cond b (l ∷ ms) ms) ≡ length (cond b (arrow leads l ∷ bs) bs)
      more true ms bs e = ap suc e
      more false ms bs e = e

  loses : (u v : ℕ) → Lost xs ys u v → Alike (arrows leads ys) (next k g (unlink u v)).links
  loses u v lost =
      kept_alike leads (λ a. not (joins u v a)) xs ys g.links alike
      (λ m. let q = lost.members m in let j = not_joins m u v in (λ h. let r = q.0 h in (r.0, j.1 r.1), λ h. q.1 (h.0, j.0 h.1)))
      lost.number

  shuts : (p : ℕ) → Shut xs ys p → Alike (arrows leads ys) (next k g (discard p)).links
  shuts p shut =
      kept_alike leads (λ a. not (enters p a)) xs ys g.links alike
      (λ m. let q = shut.members m in let j = not_enters m p in (λ h. let r = q.0 h in (r.0, j.1 r.1), λ h. q.1 (h.0, j.0 h.1)))
      shut.number

pub follows : (R V P : Type 0) → Follows R V P
follows R V P =
    record {
      members = λ leads xs u v t. (of_leads leads xs u v t, to_leads leads xs u v t);
      one_each = one_each;
      inside = λ rows heads tally kept. inside rows heads _ _ (opened rows heads tally kept);
      empty = λ leads. record { members = λ u v t. (λ h. h, λ h. h); number = λ test. refl };
      gains = λ k g leads xs ys l gain alike. gains k g leads xs ys alike l gain;
      loses = λ k g leads xs ys u v lost alike. loses k g leads xs ys alike u v lost;
      shuts = λ k g leads xs ys p shut alike. shuts k g leads xs ys alike p shut;
    }
