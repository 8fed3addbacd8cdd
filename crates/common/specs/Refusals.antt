-- The number of each refusal, and its words. Assumes nothing.
use Rattle.std.specs.Prelude.{ℕ, List, codes}
use Rattle.common.specs.declared.refusal.Refusal.{Refusal}
use Rattle.common.specs.declared.refusal.Refusal.TheVariants.{NoSuchPlace, Absent, Present, Linked, NotLinked, Circle, Full, PermitOut, NoPermit, OutOfRange, NotFree, Leaving, ShortList, Free, BadSize, ShortTable, ShortBuffer, NoItem, NotAllowed, Unfinished}

abbrev pub number : Refusal → ℕ
number NoSuchPlace = 1
number Absent = 2
number Present = 3
number Linked = 4
number NotLinked = 5
number Circle = 6
number Full = 7
number PermitOut = 8
number NoPermit = 9
number OutOfRange = 10
number NotFree = 11
number Leaving = 12
number ShortList = 13
number Free = 14
number BadSize = 15
number ShortTable = 16
number ShortBuffer = 17
number NoItem = 18
number NotAllowed = 19
number Unfinished = 20

abbrev pub words : Refusal → List ℕ
words NoSuchPlace = codes "the store has no place of this number"
words Absent = codes "the place is absent"
words Present = codes "the place is present already"
words Linked = codes "the two places are linked already"
words NotLinked = codes "the two places are not linked"
words Circle = codes "the link would close a circle"
words Full = codes "the link table is full"
words PermitOut = codes "a permit is out"
words NoPermit = codes "no permit for this place and day is out"
words OutOfRange = codes "a value or a date is outside its range"
words NotFree = codes "the label is not free on the day"
words Leaving = codes "a link leaves the place"
words ShortList = codes "the caller's list is too short"
words Free = codes "the label is free on the day, so nothing is to be explained"
words BadSize = codes "a number of places or links is outside its limits"
words ShortTable = codes "a table is too short"
words ShortBuffer = codes "the caller's buffer is too short"
words NoItem = codes "a byte or a run of bytes is no item"
words NotAllowed = codes "an item is not allowed there"
words Unfinished = codes "the text ends inside a line"
