-- The links that a store shows. Assumes nothing.
use Rattle.std.proofs.Common.{◌≡◌, ℕ, false, List, [], length, filter, sym, ap, subst}
use Rattle.paths.specs.Kind.{Kind}
use Rattle.paths.specs.Ledger.{Link, Ledger, Leads}
use Rattle.paths.specs.Calls.{at_first}
use Rattle.law.specs.State.{Same}

pub same_first : {V P : Type 0} (k : Kind V P) (g : Ledger V P) → ((p : ℕ) → g.present p ≡ false) → ((p : ℕ) → g.own p ≡ k.empty) → g.links ≡ [] → Same g (at_first k)
same_first {V} {P} k g absent empty e =
    record {
      present = absent;
      own = empty;
      links = λ u v t. (subst (λ (ls : List (Link P)). Leads ls u v t) e, subst (λ (ls : List (Link P)). Leads ls u v t) (sym e));
      number = λ test. ap (λ (ls : List (Link P)). length (filter test ls)) e;
    }
