-- What the columns of a store say: its places, ledger, labels and order. Assumes nothing.
use Rattle.std.specs.Prelude.{ℕ, cond, List, [], vec_items, ◌==◌}
use Rattle.paths.specs.Ledger.{Link, Ledger}
use Rattle.kinds.specs.Meanings.{Meaning}
use Rattle.links.specs.declared.row.Link.{Link as Row}
use Rattle.links.specs.Theory.{arrows}
use Rattle.order.specs.Tables.{order_in}
use Rattle.law.specs.Calls.{Permit}
use Rattle.law.specs.State.{State}
use Rattle.tables.specs.declared.columns.Columns.{Columns}
use Rattle.tables.specs.Columns.{present_in, values_in}
use Rattle.tables.specs.Graph.{linked, order_of}

module _ {K P R S : Type 0} (m : Meaning K P R S) where
  -- the links of the table; a store without places has none
  abbrev pub links_of : ℕ → List (Row S) → List (Link P)
  links_of n xs = cond (n == 0) [] (arrows m.leads xs)

  abbrev pub ledger_of : ℕ → Columns R S → Ledger m.Value P
  ledger_of n t =
      record {
        present = present_in n (vec_items t.tables.now.present);
        own = values_in m n (vec_items t.tables.now.own);
        links = links_of n (linked t);
      }

  abbrev pub labels_of : ℕ → Columns R S → ℕ → m.Value
  labels_of n t = values_in m n (vec_items t.tables.now.labels)

  -- a store of n places for limit links over these columns, with this permit out
  abbrev pub state_of : ℕ → ℕ → Permit → Columns R S → State m.Value P
  state_of n limit permit t =
      record {
        places = n;
        limit = limit;
        ledger = ledger_of n t;
        label = labels_of n t;
        order = order_in n (order_of t);
        permit = permit;
      }
