-- What a new link does to the ranks. Assumes nothing.
use Rattle.std.proofs.Common.{◌≡◌, ℕ, ◌+◌, ◌<◌, ◌≤◌, true, false, List, length, sym, refl, subst, arith}
use borrow.Author.Tests.{both_ways}
use Rattle.paths.specs.Ledger.{Leads}
use Rattle.paths.specs.Order.{Ranked, moved}
use Rattle.paths.proofs.Search.{path_rises}
use Rattle.paths.proofs.Moves.{moved_rises, turned_rises}
use Rattle.common.specs.declared.number.PlaceNumber.{PlaceNumber}
use Rattle.common.specs.declared.number.Rank.{Rank}
use Rattle.links.specs.declared.row.Link.{Link}
use Rattle.order.specs.Tables.{rank_in, order_in, links_in, marked_in, Sound, Past}
use Rattle.order.specs.Forward.{Reached}
use Rattle.order.specs.Sharing.{Below}
use Rattle.order.specs.Admit.{Admitted, Circular}
use Rattle.order.proofs.Ways.{order_length, walked_marks}

module _ {R : Type 0} (n : ℕ) (ranks : List Rank) (places : List PlaceNumber) (links : List (Link R)) (s : Sound n ranks places links) (u v : ℕ) (in_u : u < n) (in_v : v < n) where
  pub admitted_still : rank_in ranks u < rank_in ranks v → Admitted n links u v ranks ranks places places
  admitted_still up =
      record {
        clear = λ π. let a = path_rises (links_in links) (rank_in ranks) s.rising π in omega arith;
        still = λ _. (refl, refl);
        moves = λ turn. absurd (omega arith);
        sound = ∣ s ∣₁;
        rises = up;
        past = record { ranks_stay = λ p h. refl; places_stay = λ r h. refl };
      }

  module _ (turn : rank_in ranks v ≤ rank_in ranks u) (marks : List ℕ) (w : Reached (links_in links) (rank_in ranks) n v (rank_in ranks u + 1) (marked_in n marks)) where
    pub circle : marked_in n marks u ≡ true → Circular links u v ranks ranks places places
    circle e = record { path = (w.met u in_u (omega arith)).0 e; ranks_stay = refl; places_stay = refl }

    pub admitted_moved : marked_in n marks u ≡ false → (ranks' : List Rank) (places' : List PlaceNumber) → length ranks' ≡ length ranks → length places' ≡ length places →
        order_in n places' ≡ moved (marked_in n marks) (rank_in ranks v) (rank_in ranks u) (order_in n places) → Ranked (rank_in ranks') (order_in n places') → Below n (order_in n places') → Past n ranks ranks' places places' →
        Admitted n links u v ranks ranks' places places'
    admitted_moved e ranks' places' long wide order ranked below past =
        let len = order_length n places s.wide in
        let marks' = walked_marks (links_in links) (rank_in ranks) s.rising n u v marks w s.inside in_v in
        let inside : (p q : ℕ) (t : R) → Leads (links_in links) p q t → (p < length (order_in n places)) × (q < length (order_in n places)) = λ p q t m. let i = s.inside p q t m in (subst (λ (k : ℕ). p < k) (sym len) i.0, subst (λ (k : ℕ). q < k) (sym len) i.1) in
        let r' = subst (Ranked (rank_in ranks')) order ranked in
        record {
          clear = λ π. both_ways _ e ((w.met u in_u (omega arith)).1 π);
          still = λ up. absurd (omega arith);
          moves = λ _. record { forward = marked_in n marks; reached = λ p h l. w.met p h (omega arith); order = order };
          sound = ∣ record {
            few = s.few;
            long = let a = s.long in omega arith;
            wide = let a = s.wide in omega arith;
            ranked = ranked;
            below = below;
            inside = s.inside;
            rising = moved_rises (rank_in ranks) (order_in n places) s.ranked (links_in links) s.rising inside (marked_in n marks) v u marks' turn (rank_in ranks') r';
          } ∣₁;
          rises = turned_rises (rank_in ranks) (order_in n places) s.ranked (links_in links) s.rising inside (marked_in n marks) v u marks' turn (rank_in ranks') r' (omega arith) (omega arith) e;
          past = past;
        }
