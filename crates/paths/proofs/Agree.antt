-- Ledgers that agree at every place rise in the same ranks, come from the same edits and have the same answers. Assumes nothing.
use Rattle.std.proofs.Common.{ℕ, List, sym, refl, ◌∙◌, inl, inr}
use Rattle.paths.specs.Kind.{Kind, Laws}
use Rattle.paths.specs.Ledger.{Ledger}
use Rattle.paths.specs.Equations.{Balanced, Topological}
use Rattle.paths.specs.Edits.{AgreeAt, Edited}
use Rattle.paths.specs.Reports.{Reported, IsReport}
use Rattle.paths.specs.Walk.{Recomputed}
use Rattle.paths.proofs.Exists.{join_agree}
use Rattle.paths.proofs.Edits.{inflow_same}

pub agree_back : {V P : Type 0} (g h : Ledger V P) (p : ℕ) → AgreeAt g h p → AgreeAt h g p
agree_back g h p a = record { own = sym a.own; links = λ u t. ((a.links u t).1, (a.links u t).0) }

pub agree_on : {V P : Type 0} (f g h : Ledger V P) (p : ℕ) → AgreeAt f g p → AgreeAt g h p → AgreeAt f h p
agree_on f g h p a b = record { own = a.own ∙ b.own; links = λ u t. (λ m. (b.links u t).0 ((a.links u t).0 m), λ m. (a.links u t).1 ((b.links u t).1 m)) }

reported_agrees : {V P : Type 0} (g h : Ledger V P) → ((p : ℕ) → AgreeAt g h p) → (e : ℕ) (old new : ℕ → V) (p : ℕ) → Reported g e old new p → Reported h e old new p
reported_agrees g h agree e old new p (inl q) = inl q
reported_agrees g h agree e old new p (inr (q, t, m, c)) = inr (q, t, ((agree p).links q t).0 m, c)

module _ {V P : Type 0} (g h : Ledger V P) (agree : (p : ℕ) → AgreeAt g h p) where
  pub topological_agrees : (rank : ℕ → ℕ) → Topological rank h.links → Topological rank g.links
  topological_agrees rank up u v t m = up u v t (((agree v).links u t).0 m)

  pub edited_agrees : (f : Ledger V P) (e : ℕ) → Edited f h e → Edited f g e
  edited_agrees f e edited p other = agree_on f h g p (edited p other) (agree_back g h p (agree p))

  pub report_agrees : (e : ℕ) (old new : ℕ → V) (rank : ℕ → ℕ) (ps : List ℕ) → IsReport g e old new rank ps → IsReport h e old new rank ps
  report_agrees e old new rank ps r =
      record {
        those = λ p. (λ i. reported_agrees g h agree e old new p ((r.those p).0 i), λ f. (r.those p).1 (reported_agrees h g (λ q. agree_back g h q (agree q)) e old new p f));
        rising = r.rising;
      }

  module _ {k : Kind V P} (laws : Laws k) where
    pub balanced_agrees : (label : ℕ → V) → Balanced k g label → Balanced k h label
    balanced_agrees label bal p =
        let eq = inflow_same laws label label g h p (agree p) (λ u t m. refl) in
        cc (bal p, (agree p).own)

    pub answer_agrees : (rank : ℕ → ℕ) (e : ℕ) (old new : ℕ → V) (told : List ℕ) (counts : ℕ × ℕ) → Recomputed k g rank e old new told counts → Recomputed k h rank e old new told counts
    answer_agrees rank e old new told counts r =
        record {
          balanced = balanced_agrees new r.balanced;
          joins = λ p. join_agree laws g h agree p (new p) (r.joins p);
          report = report_agrees e old new rank told r.report;
          first = r.first;
          second = r.second;
        }
