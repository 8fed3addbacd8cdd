-- A table after a link was put in. Assumes nothing.
use Rattle.std.proofs.Common.{◌≡◌, ℕ, suc, ◌+◌, ◌<◌, List, length, set, Some, sym, refl, ap, ◌∙◌, subst, ⊎_elim, add-one, arith, length-set}
use lib.ListN.{length-map}
use Rattle.std.proofs.lemmas.List.{map-set}
use Rattle.std.proofs.lemmas.Bool.{cases_eq}
use Rattle.common.specs.declared.number.PlaceNumber.{PlaceNumber}
use Rattle.links.specs.declared.row.LinkRow.{LinkRow}
use Rattle.links.specs.declared.row.LinkRow.TheVariants.{Used}
use Rattle.links.specs.declared.row.Heads.{Heads}
use Rattle.links.specs.declared.row.Side.TheVariants.{Leaving, Entering}
use Rattle.links.specs.Threads.{Gap, Single, Sorted}
use Rattle.links.specs.Table.{at, view, link, as_link, linked, somes, links, Leads, Spliced, Free, Sound, Put}
use Rattle.links.proofs.Adds.{Added, added_sorted, added_single}
use Rattle.links.proofs.Owns.{Own, own_leaving, own_entering, own_added, bounded}
use Rattle.links.proofs.Spares.{free_pop}
use Rattle.links.proofs.Haves.{of_slot}
use Rattle.links.proofs.Held.{live_link, dead_none, somes_put}

pub turned : {R : Type 0} (rows : List (LinkRow R)) (heads : List Heads) → Single (view Leaving rows heads) → Single (view Entering rows heads)
turned rows heads one j k dj dk h e = one j k dj dk e h

-- a table with fewer links than rows has an unused row on top
pub top_row : {R : Type 0} (rows : List (LinkRow R)) (heads : List Heads) (count free : ℕ) → Sound rows heads count free → length (links rows) < length rows → (count < length rows) × (free < length rows)
top_row rows heads count free so room = let few : count < length rows = omega (arith, so.counted) in (few, (so.unused.top few).0)

abbrev pub fresh_row : {R : Type 0} → PlaceNumber → PlaceNumber → ℕ → ℕ → R → LinkRow R
fresh_row u v x y t = Used (link u v t) (record { leaving = record { 0 = x }; entering = record { 0 = y } })

module _ {R : Type 0} (rows b c : List (LinkRow R)) (heads hb hc : List Heads) (count s : ℕ) (u v : PlaceNumber) (pa aa pb ab : ℕ) (t : R)
    (so : Sound rows heads count s) (lu : u.0 < length heads) (lv : v.0 < length heads) (room : count < length rows) (free : Leads (links rows) u.0 v.0 → ⊥)
    (ga : Gap (view Leaving rows heads) u.0 v.0 pa aa) (gb : Gap (view Entering rows heads) v.0 u.0 pb ab)
    (eb : length b ≡ length rows) (ec : length c ≡ length b) (ehb : length hb ≡ length heads) (ehc : length hc ≡ length hb)
    (sa : Spliced Leaving (set rows s (fresh_row u v aa ab t)) b heads hb pa u.0 s) (sb : Spliced Entering b c hb hc pb v.0 s) where
  inside : s < length rows
  inside = (so.unused.top room).0

  spare : (at rows s).unused ≡ 0 → ⊥
  spare d = let h = (so.unused.top room).1 in omega arith

  fresh : (k : ℕ) → (at rows k).unused ≡ 0 → (at rows k).source ≡ u.0 → (at rows k).target ≡ v.0 → ⊥
  fresh k d e f = let l = live_link rows k (bounded Leaving rows heads k d) d in free (l.0, of_slot (linked rows) l.0 k l.1, l.2 ∙ e, l.3 ∙ f)

  own_a : Own Leaving (set rows s (fresh_row u v aa ab t)) c heads hc pa u.0 s
  own_a = own_leaving (set rows s (fresh_row u v aa ab t)) b c heads hb hc pa u.0 s pb v.0 s sa sb

  own_b : Own Entering (set rows s (fresh_row u v aa ab t)) c heads hc pb v.0 s
  own_b = own_entering (set rows s (fresh_row u v aa ab t)) b c heads hb hc pa u.0 s pb v.0 s (eb ∙ sym (length-set rows s (fresh_row u v aa ab t))) sa sb

  add_a : Added (view Leaving rows heads) (view Leaving c hc) u.0 v.0 pa aa s
  add_a = own_added Leaving rows c heads hc pa u.0 v.0 s aa (fresh_row u v aa ab t) (ec ∙ eb) inside spare refl refl refl refl ga own_a

  add_b : Added (view Entering rows heads) (view Entering c hc) v.0 u.0 pb ab s
  add_b = own_added Entering rows c heads hc pb v.0 u.0 s ab (fresh_row u v aa ab t) (ec ∙ eb) inside spare refl refl refl refl gb own_b

  put_links : linked c ≡ set (linked rows) s (Some (link u v t))
  put_links = sb.same_links ∙ sa.same_links ∙ map-set as_link rows s (fresh_row u v aa ab t)

  insert_put : Put rows c s (link u v t)
  insert_put = record { slot = inside; spare = dead_none rows s spare; put = put_links }

  unused_c : Free (length rows) (λ k. (at c k).unused) (λ k. (at c k).leaving) (count + 1) (at rows s).leaving
  unused_c = free_pop (length rows) (λ k. (at rows k).unused) (λ k. (at rows k).leaving) (λ k. (at c k).unused) (λ k. (at c k).leaving) count s
      add_a.same_dead
      (λ k l ne d. add_a.same_next k ne (λ e. d (rw e (ga.way.behind (rw (← e) l)).0)))
      so.unused room add_a.s_dead

  insert_sound : Sound c hc (count + 1) (at rows s).leaving
  insert_sound =
      let len = ec ∙ eb in
      let hlen = ehc ∙ ehb in
      record {
        inside = λ k d. ⊎_elim {C = ((at c k).source < length hc) × ((at c k).target < length hc)}
            (λ e. let x = ap (λ j. (at c j).source) e in let y = ap (λ j. (at c j).target) e in (omega (arith, add_a.s_hub), omega (arith, add_a.s_key)))
            (λ ne.
            let i = so.inside k (sym (add_a.same_dead k ne) ∙ d) in
            (omega (arith, add_a.same_hub k ne, i.0), omega (arith, add_a.same_key k ne, i.1)))
            (cases_eq k s);
        leaving = subst (Sorted (view Leaving c hc)) (sym hlen)
            (added_sorted (view Leaving rows heads) (view Leaving c hc) u.0 v.0 pa aa s add_a (length heads) (bounded Leaving rows heads) so.single so.leaving ga fresh);
        entering = subst (Sorted (view Entering c hc)) (sym hlen)
            (added_sorted (view Entering rows heads) (view Entering c hc) v.0 u.0 pb ab s add_b (length heads) (bounded Entering rows heads) (turned rows heads so.single) so.entering gb (λ k d e f. fresh k d f e));
        single = added_single (view Leaving rows heads) (view Leaving c hc) u.0 v.0 pa aa s add_a (length heads) (bounded Leaving rows heads) so.single so.leaving ga fresh;
        unused = subst (λ n. Free n (λ k. (at c k).unused) (λ k. (at c k).leaving) (count + 1) (at rows s).leaving) (sym len) unused_c;
        counted = ap (λ os. length (somes os)) put_links ∙ somes_put (linked rows) s (link u v t) (rw (length-map rows as_link) inside) (dead_none rows s spare) ∙ ap suc so.counted ∙ sym (add-one count);
      }

  pub inserted : Sound c hc (count + 1) (at rows s).leaving × Put rows c s (link u v t)
  inserted = (insert_sound, insert_put)
