use Rattle.std.proofs.Common.{◌≡◌, ℕ, ◌<◌, ◌≤◌, ◌⊎◌, List, length, get_or, set, sym, refl, ap, ◌∙◌, subst, inl, inr, ⊎_elim, arith, rules}
use Rattle.std.proofs.lemmas.List.{get_or-set_same, get_or-set_other}
use Rattle.std.proofs.lemmas.Bool.{cases_eq}
use Rattle.links.specs.declared.row.Side.TheVariants.{Leaving}
use Rattle.links.specs.Table.{Leads}
use Rattle.links.specs.LinksAt.{LinksOf, rest}
use Rattle.order.specs.Tables.{rank_in}
use Rattle.recompute.specs.Lent.{size, linked, ranks_of}
use Rattle.recompute.proofs.Lents.{linked_inside}
use Rattle.recompute.proofs.Passing.{passed_none, passed_here, passed_on}
use Rattle.recompute.proofs.marks.mark_targets.Given as Given
use Rattle.recompute.proofs.marks.mark_targets.Goals as goal
use Rattle.recompute.proofs.marks.mark_targets.Goals.{In-Some}

-- a mark that is set stays so
mark_stays : (marks : List ℕ) (i q : ℕ) → i < length marks → get_or marks q 0 ≡ 1 → get_or (set marks i 1) q 0 ≡ 1
mark_stays marks i q l h =
    ⊎_elim (λ e. ap (λ (j : ℕ). get_or (set marks i 1) j 0) e ∙ get_or-set_same marks i 1 0 l) (λ ne. get_or-set_other marks i q 1 0 ne ∙ h) (cases_eq q i)

pub loop-l-init : goal.loop-l-init
loop-l-init g c =
    let G = c.args.graph.now in
    let of = subst (λ it. LinksOf Leaving (linked G) (size G) c.args.p.0 (rest it)) (sym c.into_iter-l-iterator.ensures.into_iter_gives) c.leaving-l-items.ensures in
    (tt, tt, passed_none Leaving (linked G) c.args.p.0 (size G) _ _ of, (λ q. inl refl), omega arith, inl refl, refl, refl)

-- the link at hand leads from p to a place of the graph
here : (g : Given.Over) (c : In-Some g) → c.in-Some.l.target.0 < size c.args.graph.now
here g c = (linked_inside c.args.graph.now c.in-Some.l (passed_here Leaving (linked c.args.graph.now) c.args.p.0 _ _ c.in-Some.l c.in-Some.ensures.steps _ c.loop-l.invariant.2).0).1

pub set-requires : goal.set-requires
set-requires g c = let h = here g (goal.at.set-requires g c).In-Some in omega (arith, c.loop-l.invariant.6, c.requires.places)

pub rank-requires : goal.rank-requires
rank-requires g c = here g (goal.at.rank-requires g c).In-Some

pub loop-l-preserved : goal.loop-l-preserved
loop-l-preserved g c =
    let G = c.args.graph.now in
    let xs = linked G in
    let ranks = ranks_of G in
    let l = c.in-Some.l in
    let p = c.args.p.0 in
    let i = l.target.0 in
    let marks = c.loop-l.marks.bytes.now in
    let marks' = c.set.new.self.bytes.now in
    let top = c.loop-l.top.0 in
    let top' = c.max-top.result.0 in
    let inv = c.loop-l.invariant in
    let low = here g (goal.at.loop-l-preserved g c).In-Some in
    let met = passed_here Leaving xs p _ _ l c.in-Some.ensures.steps _ inv.2 in
    let leads : Leads xs p i = (l, met.0, met.1, refl) in
    let fits : i < length marks = let f = c.loop-l.marks.fits in omega (arith, inv.6, c.requires.places) in
    let is : marks' ≡ set marks i 1 = c.set.ensures.marked in
    let tops : (top ≤ top') × (rank_in ranks i ≤ top') × ((top' ≡ top) ⊎ (top' ≡ rank_in ranks i)) = search rules in (
      tt,
      tt,
      passed_on Leaving xs p _ _ l c.in-Some.ensures.steps _ inv.2 (λ x. (get_or marks' x.target.0 0 ≡ 1) × (rank_in ranks x.target.0 ≤ top'))
          (λ x q. (ap (λ ms. get_or ms x.target.0 0) is ∙ mark_stays marks i x.target.0 fits q.0, omega (arith, q.1, tops.0)))
          (ap (λ ms. get_or ms i 0) is ∙ get_or-set_same marks i 1 0 fits, tops.1),
      (λ q. ⊎_elim (λ e. inr (ap (λ (j : ℕ). get_or marks' j 0) e ∙ ap (λ ms. get_or ms i 0) is ∙ get_or-set_same marks i 1 0 fits, subst (Leads xs p) (sym e) leads))
          (λ ne. let k = ap (λ ms. get_or ms q 0) is ∙ get_or-set_other marks i q 1 0 ne in ⊎_elim (λ a. inl (k ∙ a)) (λ b. inr (k ∙ b.0, b.1)) (inv.3 q)) (cases_eq q i)),
      omega (arith, inv.4, tops.0),
      ⊎_elim (λ e. ⊎_elim (λ a. inl (e ∙ a)) (λ b. inr (b.0, b.1, e ∙ b.2)) inv.5) (λ e. inr (i, leads, e)) tops.2,
      c.set.ensures.same.0 ∙ inv.6,
      c.set.ensures.same.1 ∙ inv.7,
    )
