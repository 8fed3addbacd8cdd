-- What owned tables say: what columns over them say, whatever loan these have. Assumes nothing.
use Rattle.tables.specs.declared.columns.Columns.{Columns}
use Rattle.owned.specs.declared.owner.OwnedTables.{OwnedTables}

abbrev pub columns : {R S : Type 0} → OwnedTables R S → Columns R S
columns t =
    record {
      tables = record { ref_ptr = (0, 0); ghost_name = 0; now = t.tables };
      tally = t.tally;
      places = t.places;
      flags = t.flags;
      rows = t.rows;
      wide = t.wide;
      kept = λ _. t.kept;
      ordered = λ _. t.ordered;
      clean = t.clean;
    }
