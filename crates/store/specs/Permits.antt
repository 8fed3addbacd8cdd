-- Permits in hand. Assumes nothing.
use Rattle.std.specs.Prelude.{false}
use Rattle.calendar.specs.declared.day.Day.{Day}
use Rattle.common.specs.declared.number.PlaceNumber.{PlaceNumber}
use Rattle.store.specs.declared.permit.Permit.{Permit}

-- a permit for p and d that is not spent
abbrev pub permit_for : PlaceNumber → Day → Permit
permit_for p d = record { place = p; day = d; spent = false }
