-- The tables of own labels, labels and links, as the ledger's values and links. Assumes nothing.
use Rattle.std.specs.Prelude.{ℕ, false, List, map, take, slice_index_or}
use Rattle.common.specs.declared.number.PlaceNumber.{PlaceNumber}
use Rattle.common.specs.declared.number.Rank.{Rank}
use Rattle.paths.specs.Ledger.{Ledger}
use Rattle.paths.specs.Ledger.{Link as Arrow}
use Rattle.paths.specs.Equations.{inflow, Balanced}
use Rattle.paths.specs.Edits.{AgreeAt, Edited}
use Rattle.paths.specs.Walk.{Recomputed}
use Rattle.kinds.specs.Meanings.{Meaning}
use Rattle.links.specs.declared.row.Link.{Link}
use Rattle.links.specs.Theory.{arrows}
use Rattle.order.specs.Tables.{rank_in}

abbrev pub numbers : List PlaceNumber → List ℕ
numbers ps = map (λ (p : PlaceNumber). p.0) ps

module _ {L P R S : Type 0} (m : Meaning L P R S) where
  -- the value of each of the first n places, and the empty one past them
  abbrev pub value_in : ℕ → List R → ℕ → m.Value
  value_in n rows p = slice_index_or (map (λ row. m.value (m.stands row)) (take n rows)) p m.kind.empty

  -- the links of a table, with the passages that their rows stand for
  abbrev pub arrows_in : List (Link S) → List (Arrow P)
  arrows_in xs = arrows m.leads xs

  -- the own labels and the links of the tables; which places are present does not matter to labels
  abbrev pub ledger_in : ℕ → List R → List (Link S) → Ledger m.Value P
  ledger_in n own xs = record { present = λ p. false; own = value_in n own; links = arrows_in xs }

  -- the own label of p joined with what the links into p carry
  abbrev pub gathered : ℕ → List R → List R → List (Link S) → ℕ → m.Value
  gathered n own labels xs p = m.kind.join (value_in n own p) (inflow m.kind (value_in n labels) p (arrows_in xs))

  -- the tables hold the own labels and the links of the ledger h
  abbrev pub Held : ℕ → List R → List (Link S) → Ledger m.Value P → Type 0
  Held n own xs h = (p : ℕ) → AgreeAt (ledger_in n own xs) h p

  -- for every edit, at the place e, of a ledger g that the labels before it balance, to a ledger h that the tables hold:
  -- the labels after it, the places written to the list and the two counts are those of the edit
  abbrev pub Recomputes : ℕ → List R → List (Link S) → List Rank → ℕ → List R → List R → List PlaceNumber → ℕ × ℕ → Type 0
  Recomputes n own xs ranks e before after list counts =
      (g h : Ledger m.Value P) → Balanced m.kind g (value_in n before) → Edited g h e → Held n own xs h →
      Recomputed m.kind h (rank_in ranks) e (value_in n before) (value_in n after) (numbers (take counts.0 list)) counts
