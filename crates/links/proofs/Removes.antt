-- A table after a link was taken out. Assumes nothing.
use Rattle.std.proofs.Common.{◌≡◌, ℕ, suc, ◌-◌, ◌<◌, List, length, set, None, sym, refl, ap, ◌∙◌, subst, arith, length-set}
use Rattle.std.proofs.lemmas.List.{map-set}
use Rattle.links.specs.declared.row.LinkRow.{LinkRow}
use Rattle.links.specs.declared.row.Heads.{Heads}
use Rattle.links.specs.declared.row.Side.TheVariants.{Leaving, Entering}
use Rattle.links.specs.Threads.{Threads, Gap, Single, Sorted, Bounded}
use Rattle.links.specs.Table.{Shape, shape, at, view, as_link, linked, somes, links, Spliced, Free, Sound, Taken}
use Rattle.links.proofs.Rows.{at_same}
use Rattle.links.proofs.Walks.{after_live}
use Rattle.links.proofs.Drops.{Dropped, dropped_sorted, dropped_single}
use Rattle.links.proofs.Owns.{Own, own_leaving, own_entering, own_dropped, bounded}
use Rattle.links.proofs.Spares.{free_push}
use Rattle.links.proofs.Held.{live_link, somes_take, unused}
use Rattle.links.proofs.Inserts.{turned}

-- the way to the key of a slot in use leads to that slot
pub gap_at : (t : Threads) (p prev r s : ℕ) → Single t → Bounded t → t.dead s ≡ 0 → t.hub s ≡ p → Gap t p (t.key s) prev r → r ≡ s
gap_at t p prev r s one bd d h g =
    let m = g.way.least.least s d h g.way.low in
    let i = g.way.least.here m.0 in
    let k = g.high m.0 in
    one r s i.0 d (i.1 ∙ sym h) (omega (arith, m.1))

pub not_prev : (t : Threads) (p prev s : ℕ) → Bounded t → t.dead s ≡ 0 → Gap t p (t.key s) prev s → prev ≡ s → ⊥
not_prev t p prev s bd d g e =
    let l : prev < t.cap = rw e (bd s d) in
    let b = g.way.behind l in
    let a = after_live t prev b.0 in
    let k = ap t.key e in
    omega (arith, g.way.low)

module _ {R : Type 0} (rows b c : List (LinkRow R)) (heads hb hc : List Heads) (count free s pa ra pb rb : ℕ) (z : LinkRow R)
    (so : Sound rows heads count free) (live : (at rows s).unused ≡ 0)
    (ga' : Gap (view Leaving rows heads) (at rows s).source (at rows s).target pa ra)
    (gb' : Gap (view Entering rows heads) (at rows s).target (at rows s).source pb rb)
    (eb : length b ≡ length rows) (ec : length c ≡ length b) (ehb : length hb ≡ length heads) (ehc : length hc ≡ length hb)
    (sa : Spliced Leaving rows b heads hb pa (at rows s).source (at rows s).leaving) (sb : Spliced Entering b c hb hc pb (at rows s).target (at rows s).entering)
    (zu : (shape z).unused ≡ length rows - (count - 1)) (zl : (shape z).leaving ≡ free) where
  one_b : Single (view Entering rows heads)
  one_b = turned rows heads so.single

  ga : Gap (view Leaving rows heads) (at rows s).source (at rows s).target pa s
  ga = subst (Gap (view Leaving rows heads) (at rows s).source (at rows s).target pa) (gap_at (view Leaving rows heads) (at rows s).source pa ra s so.single (bounded Leaving rows heads) live refl ga') ga'

  gb : Gap (view Entering rows heads) (at rows s).target (at rows s).source pb s
  gb = subst (Gap (view Entering rows heads) (at rows s).target (at rows s).source pb) (gap_at (view Entering rows heads) (at rows s).target pb rb s one_b (bounded Entering rows heads) live refl gb') gb'

  inside : s < length rows
  inside = bounded Leaving rows heads s live

  some_row : 0 < length rows
  some_row = omega (arith, inside)

  z_dead : (shape z).unused ≡ 0 → ⊥
  z_dead e = let w = so.unused.within in let h = some_row in omega arith

  own_a : Own Leaving rows c heads hc pa (at rows s).source (at rows s).leaving
  own_a = own_leaving rows b c heads hb hc pa (at rows s).source (at rows s).leaving pb (at rows s).target (at rows s).entering sa sb

  own_b : Own Entering rows c heads hc pb (at rows s).target (at rows s).entering
  own_b = own_entering rows b c heads hb hc pa (at rows s).source (at rows s).leaving pb (at rows s).target (at rows s).entering eb sa sb

  drop_a : Dropped (view Leaving rows heads) (view Leaving (set c s z) hc) (at rows s).source pa s
  drop_a = own_dropped Leaving rows c heads hc pa (at rows s).source s z (ec ∙ eb) live refl z_dead ga (not_prev (view Leaving rows heads) (at rows s).source pa s (bounded Leaving rows heads) live ga) own_a

  drop_b : Dropped (view Entering rows heads) (view Entering (set c s z) hc) (at rows s).target pb s
  drop_b = own_dropped Entering rows c heads hc pb (at rows s).target s z (ec ∙ eb) live refl z_dead gb (not_prev (view Entering rows heads) (at rows s).target pb s (bounded Entering rows heads) live gb) own_b

  take_links : linked (set c s z) ≡ set (linked rows) s None
  take_links = map-set as_link c s z ∙ ap (λ os. set os s (as_link z)) (sb.same_links ∙ sa.same_links) ∙ ap (set (linked rows) s) (unused z z_dead)

  remove_taken : Taken rows (set c s z) s
  remove_taken = record { taken = take_links }

  remove_counted : suc (length (links (set c s z))) ≡ count
  remove_counted =
      let l = live_link rows s inside live in
      ap (λ os. suc (length (somes os))) take_links ∙ somes_take (linked rows) s l.0 l.1 ∙ so.counted

  unused_c : Free (length rows) (λ k. (at (set c s z) k).unused) (λ k. (at (set c s z) k).leaving) (count - 1) s
  unused_c =
      let one = remove_counted in
      let at_s = at_same c s z (omega (arith, inside)) in
      let f : Free (length rows) (λ k. (at rows k).unused) (λ k. (at rows k).leaving) (suc (count - 1)) free = subst (λ n. Free (length rows) (λ k. (at rows k).unused) (λ k. (at rows k).leaving) n free) (omega arith) so.unused in
      free_push (length rows) (λ k. (at rows k).unused) (λ k. (at rows k).leaving) (λ k. (at (set c s z) k).unused) (λ k. (at (set c s z) k).leaving) (count - 1) s
      drop_a.same_dead
      (λ k l ne d. drop_a.same_next k ne (λ e. d (rw e (ga.way.behind (rw (← e) l)).0)))
      free f inside live (ap (λ (w : Shape). w.unused) at_s ∙ zu ∙ omega arith) (ap (λ (w : Shape). w.leaving) at_s ∙ zl)

  remove_sound : Sound (set c s z) hc (count - 1) s
  remove_sound =
      let len = length-set c s z ∙ ec ∙ eb in
      let hlen = ehc ∙ ehb in
      let i = so.inside s live in
      record {
        inside = λ k d.
            let ne : k ≡ s → ⊥ = λ e. drop_a.gone (subst (λ j. (at (set c s z) j).unused ≡ 0) e d) in
            let i = so.inside k (sym (drop_a.same_dead k ne) ∙ d) in
            (omega (arith, drop_a.same_hub k ne, i.0), omega (arith, drop_a.same_key k ne, i.1));
        leaving = subst (Sorted (view Leaving (set c s z) hc)) (sym hlen)
            (dropped_sorted (view Leaving rows heads) (view Leaving (set c s z) hc) (at rows s).source pa s drop_a (length heads) (bounded Leaving rows heads) so.single so.leaving ga i.0);
        entering = subst (Sorted (view Entering (set c s z) hc)) (sym hlen)
            (dropped_sorted (view Entering rows heads) (view Entering (set c s z) hc) (at rows s).target pb s drop_b (length heads) (bounded Entering rows heads) one_b so.entering gb i.1);
        single = dropped_single (view Leaving rows heads) (view Leaving (set c s z) hc) (at rows s).source pa s drop_a (length heads) (bounded Leaving rows heads) so.single so.leaving ga;
        unused = subst (λ n. Free n (λ k. (at (set c s z) k).unused) (λ k. (at (set c s z) k).leaving) (count - 1) s) (sym len) unused_c;
        counted = let o = remove_counted in omega arith;
      }

  pub removed : Sound (set c s z) hc (count - 1) s × Taken rows (set c s z) s × (0 < count)
  removed = (remove_sound, remove_taken, let o = remove_counted in omega arith)
