-- What the rows of a link table say. Assumes nothing.
use Rattle.std.specs.Prelude.{◌≡◌, ℕ, suc, ◌+◌, ◌-◌, ◌<◌, ◌≤◌, cond, List, [], ◌∷◌, map, length, Some, None, Option, ◌≢◌, nat_lt, slice_index_or, slice_set}
use Rattle.std.specs.List.{ContainsAt as Has}
use Rattle.common.specs.declared.number.PlaceNumber.{PlaceNumber}
use Rattle.links.specs.declared.row.Slot.{Slot}
use Rattle.links.specs.declared.row.LinkRow.{LinkRow}
use Rattle.links.specs.declared.row.LinkRow.TheVariants.{Used, Unused}
use Rattle.links.specs.declared.row.Heads.{Heads}
use Rattle.links.specs.declared.row.Tally.{Tally}
use Rattle.links.specs.declared.row.Link.{Link}
use Rattle.links.specs.declared.row.Side.{Side}
use Rattle.links.specs.declared.row.Side.TheVariants.{Leaving, Entering}
use Rattle.links.specs.Threads.{Threads, Sorted, Single}

-- a row without its passage, in numbers: it is a link where `unused` is 0, and else `unused` rows lie from it down
pub record Shape : Type 0 where
  pub unused : ℕ
  pub source : ℕ
  pub target : ℕ
  pub leaving : ℕ
  pub entering : ℕ

abbrev pub shape : {R : Type 0} → LinkRow R → Shape
shape (Used l h) = record { unused = 0; source = l.source.0; target = l.target.0; leaving = h.leaving.0; entering = h.entering.0 }
shape (Unused under below) = record { unused = suc under; source = 0; target = 0; leaving = below.0; entering = 0 }

-- what stands past the table: no link
abbrev pub past : Shape
past = record { unused = 1; source = 0; target = 0; leaving = 0; entering = 0 }

abbrev pub at : {R : Type 0} → List (LinkRow R) → ℕ → Shape
at rows k = slice_index_or (map shape rows) k past

-- the place that a row hangs at on a side, the place at its other end, and the slot that comes after it
abbrev pub hub : Side → Shape → ℕ
hub Leaving x = x.source
hub Entering x = x.target

abbrev pub key : Side → Shape → ℕ
key Leaving x = x.target
key Entering x = x.source

abbrev pub next : Side → Shape → ℕ
next Leaving x = x.leaving
next Entering x = x.entering

-- the slot that comes first
abbrev pub head_of : Side → Heads → ℕ
head_of Leaving h = h.leaving.0
head_of Entering h = h.entering.0

abbrev pub no_heads : Heads
no_heads = record { leaving = record { 0 = 0 }; entering = record { 0 = 0 } }

-- a table seen from one side
abbrev pub view : {R : Type 0} → Side → List (LinkRow R) → List Heads → Threads
view side rows heads = record {
  cap = length rows;
  dead = λ k. (at rows k).unused;
  hub = λ k. hub side (at rows k);
  key = λ k. key side (at rows k);
  next = λ k. next side (at rows k);
  head = λ p. head_of side (slice_index_or heads p no_heads);
}

abbrev pub as_link : {R : Type 0} → LinkRow R → Option (Link R)
as_link (Used l h) = Some l
as_link (Unused under below) = None

-- the table, slot by slot
abbrev pub linked : {R : Type 0} → List (LinkRow R) → List (Option (Link R))
linked rows = map as_link rows

abbrev pub link_at : {R : Type 0} → List (LinkRow R) → ℕ → Option (Link R)
link_at rows k = slice_index_or (linked rows) k None

-- the links that a table holds
abbrev pub somes : {X : Type 0} → List (Option X) → List X
somes [] = []
somes (None ∷ os) = somes os
somes (Some x ∷ os) = x ∷ somes os

abbrev pub links : {R : Type 0} → List (LinkRow R) → List (Link R)
links rows = somes (linked rows)

abbrev pub other_side : Side → Side
other_side Leaving = Entering
other_side Entering = Leaving

-- heads with another slot coming first on one side
abbrev pub with_head : Side → Heads → Slot → Heads
with_head Leaving h s = record { leaving = s; entering = h.entering }
with_head Entering h s = record { leaving = h.leaving; entering = s }

-- the thread of p goes on to s behind prev, or starts with s if prev is no slot; nothing else is changed
pub record Spliced {R : Type 0} (side : Side) (rows rows' : List (LinkRow R)) (heads heads' : List Heads) (prev p s : ℕ) : Type 0 where
  pub same_links : linked rows' ≡ linked rows
  pub kept : (k : ℕ) → ((at rows' k).unused ≡ (at rows k).unused) × ((at rows' k).source ≡ (at rows k).source) × ((at rows' k).target ≡ (at rows k).target)
  pub same_next : (k : ℕ) → (k ≢ prev) → next side (at rows' k) ≡ next side (at rows k)
  pub behind : prev < length rows → next side (at rows' prev) ≡ s
  pub other_next : (k : ℕ) → next (other_side side) (at rows' k) ≡ next (other_side side) (at rows k)
  pub same_head : (q : ℕ) → (q ≢ p) → head_of side (slice_index_or heads' q no_heads) ≡ head_of side (slice_index_or heads q no_heads)
  pub stays_head : prev < length rows → head_of side (slice_index_or heads' p no_heads) ≡ head_of side (slice_index_or heads p no_heads)
  pub new_head : length rows ≤ prev → head_of side (slice_index_or heads' p no_heads) ≡ s
  pub other_head : (q : ℕ) → head_of (other_side side) (slice_index_or heads' q no_heads) ≡ head_of (other_side side) (slice_index_or heads q no_heads)

-- the unused rows lie on one another: the topmost is free, and each says how many lie from it down
pub record Free (cap : ℕ) (dead down : ℕ → ℕ) (count free : ℕ) : Type 0 where
  pub within : count ≤ cap
  pub top : count < cap → (free < cap) × (dead free ≡ cap - count)
  pub depth : (k : ℕ) → k < cap → dead k ≤ cap - count
  pub under : (k : ℕ) → k < cap → 1 < dead k → (down k < cap) × (suc (dead (down k)) ≡ dead k)
  pub apart : (j k : ℕ) → j < cap → k < cap → 0 < dead j → dead j ≡ dead k → j ≡ k

-- a link table in order
pub record Sound {R : Type 0} (rows : List (LinkRow R)) (heads : List Heads) (count free : ℕ) : Type 0 where
  pub inside : (k : ℕ) → (at rows k).unused ≡ 0 → ((at rows k).source < length heads) × ((at rows k).target < length heads)
  pub leaving : Sorted (view Leaving rows heads) (length heads)
  pub entering : Sorted (view Entering rows heads) (length heads)
  pub single : Single (view Leaving rows heads)
  pub unused : Free (length rows) (λ k. (at rows k).unused) (λ k. (at rows k).leaving) count free
  pub counted : length (links rows) ≡ count

-- a link leads from u to v
abbrev pub Leads : {R : Type 0} → List (Link R) → ℕ → ℕ → Type 0
Leads {R} xs u v = (m : Link R) × Has xs m × (m.source.0 ≡ u) × (m.target.0 ≡ v)

-- the link from u to v, if there is one
abbrev pub LinkFrom : {R : Type 0} → List (Link R) → ℕ → ℕ → Option (Link R) → Type 0
LinkFrom xs u v None = Leads xs u v → ⊥
LinkFrom xs u v (Some l) = Has xs l × (l.source.0 ≡ u) × (l.target.0 ≡ v)

-- rows' holds one link more, in the slot s, which held none
pub record Put {R : Type 0} (rows rows' : List (LinkRow R)) (s : ℕ) (l : Link R) : Type 0 where
  pub slot : s < length rows
  pub spare : link_at rows s ≡ None
  pub put : linked rows' ≡ slice_set (linked rows) s (Some l)

abbrev pub link : {R : Type 0} → PlaceNumber → PlaceNumber → R → Link R
link u v t = record { source = u; target = v; passage = t }

-- the slot s holds a link
abbrev pub Occupied : {R : Type 0} → List (LinkRow R) → ℕ → Type 0
Occupied {R} rows s = (l : Link R) × (link_at rows s ≡ Some l)

-- rows' holds one link fewer, the one in the slot s
pub record Taken {R : Type 0} (rows rows' : List (LinkRow R)) (s : ℕ) : Type 0 where
  pub taken : linked rows' ≡ slice_set (linked rows) s None

-- the place at which a side sees a link, and the place at the other end
abbrev pub end_of : {R : Type 0} → Side → Link R → ℕ
end_of Leaving l = l.source.0
end_of Entering l = l.target.0

abbrev pub key_of : {R : Type 0} → Side → Link R → ℕ
key_of Leaving l = l.target.0
key_of Entering l = l.source.0

-- the slot s holds the link l
abbrev pub Holds : {R : Type 0} → List (LinkRow R) → ℕ → Link R → Type 0
Holds rows s l = (s < length rows) × (link_at rows s ≡ Some l) × Has (links rows) l

-- the slot of the link at p with the least key from b on, if there is one
abbrev pub Lowest : {R : Type 0} → Side → List (LinkRow R) → ℕ → ℕ → Option Slot → Type 0
Lowest {R} side rows p b None = (m : Link R) → Has (links rows) m → end_of side m ≡ p → b ≤ key_of side m → ⊥
Lowest {R} side rows p b (Some s) =
    (l : Link R) × Holds rows s.0 l × (end_of side l ≡ p) × (b ≤ key_of side l) ×
    ((m : Link R) → Has (links rows) m → end_of side m ≡ p → b ≤ key_of side m → key_of side l ≤ key_of side m)

-- the next one after the link in the slot s
abbrev pub Next : {R : Type 0} → Side → List (LinkRow R) → ℕ → Option Slot → Type 0
Next {R} side rows s r = (l : Link R) → link_at rows s ≡ Some l → Lowest side rows (end_of side l) (suc (key_of side l)) r

-- the link in the slot s, where there is one, between places below n
abbrev pub Told : {R : Type 0} → List (LinkRow R) → ℕ → ℕ → Option (Link R) → Type 0
Told rows n s None = link_at rows s ≡ None
Told rows n s (Some l) = (link_at rows s ≡ Some l) × (l.source.0 < n) × (l.target.0 < n)

-- the slot of the link from u to v, if there is one
abbrev pub Found : {R : Type 0} → List (LinkRow R) → ℕ → ℕ → Option Slot → Type 0
Found {R} rows u v None = Leads (links rows) u v → ⊥
Found {R} rows u v (Some s) = (l : Link R) × Holds rows s.0 l × (l.source.0 ≡ u) × (l.target.0 ≡ v)

-- the slot s holds a link; it is unused
abbrev pub IsUsed : {R : Type 0} → List (LinkRow R) → ℕ → Type 0
IsUsed rows s = (s < length rows) × ((at rows s).unused ≡ 0)

abbrev pub IsUnused : {R : Type 0} → List (LinkRow R) → ℕ → Type 0
IsUnused rows s = (s < length rows) × ((at rows s).unused ≢ 0)

-- s, if it is one of n slots
abbrev pub slot_of : ℕ → ℕ → Option Slot
slot_of n s = cond (nat_lt s n) (Some (record { 0 = s })) None

-- on one side each link goes on to one with a greater other end
abbrev pub Climbing : {R : Type 0} → Side → List (LinkRow R) → Type 0
Climbing side rows =
    (s : ℕ) → (at rows s).unused ≡ 0 → (at rows (next side (at rows s))).unused ≡ 0 → key side (at rows s) < key side (at rows (next side (at rows s)))

-- a number above the other end of each row
abbrev pub above : {R : Type 0} → Side → List (LinkRow R) → ℕ
above side [] = 0
above side (x ∷ rows) = suc (key side (shape x)) + above side rows

-- rows below n lie on one another, each on the one before
abbrev pub Stacked : {R : Type 0} → List (LinkRow R) → ℕ → Type 0
Stacked rows n = (k : ℕ) → k < n → ((at rows k).unused ≡ k + 1) × ((at rows k).leaving ≡ k - 1)

-- no link hangs at the places below n
abbrev pub Headless : List Heads → ℕ → ℕ → Type 0
Headless heads none n = (p : ℕ) → p < n → slice_index_or heads p no_heads ≡ record { leaving = record { 0 = none }; entering = record { 0 = none } }

-- the number of a slot, or n where there is none
abbrev pub number_or : ℕ → Option Slot → ℕ
number_or n None = n
number_or n (Some s) = s.0

-- a link table in order, as a fact that a struct can hold
abbrev pub Kept : {R : Type 0} → List (LinkRow R) → List Heads → Tally → Type 0
Kept rows heads tally = ∥ Sound rows heads tally.count tally.free.0 ∥₁
