-- What is kept of the events of an open full expression besides the log, operand by operand (own).
use Rattle.std.specs.Prelude.{◌≡◌, ◌⊎◌, ◌≤◌, ◌<◌, ◌-◌, ℕ, suc, Bool, true, false, not, ◌&&◌, ◌||◌, List, Option, Some, None, Box, slice_get, length}
use Rattle.std.specs.Global.{Global}
use Rattle.ub_base.specs.declared.names.Item.{Item}
use Rattle.ub_base.specs.declared.names.Item.TheVariants.{Read, Alive}
use Rattle.addr_map.specs.declared.map.Row.{Row}
use Rattle.addr_map.specs.Conflict.{items_conflict, stands_at}
use Rattle.footprint.specs.declared.foot.Foot.{Foot}
use Rattle.footprint.specs.Holds.{holds, stands_for}
use Rattle.evaluation_log.specs.declared.log.Logged.{Logged}
use Rattle.evaluation_log.specs.declared.log.Segment.{Segment}
use Rattle.evaluation_log.specs.declared.level.Level.{Level}
use Rattle.evaluation_log.specs.declared.rules.Rule.{Rule}
use Rattle.evaluation_log.specs.declared.rules.Rule.TheVariants.{Open, Closed}
use Rattle.evaluation_log.specs.declared.sought.Sought.TheVariants.{Any}
use Rattle.evaluation_log.specs.Touched.{touched, body_has, event_has, start_of}
use Rattle.evaluation_log.specs.Clashes.{NoClash, AreSorted}

-- reads, and uses of living objects
abbrev pub is_harmless : Item → Bool
is_harmless (Read x i n) = true
is_harmless (Alive x) = true
is_harmless _ = false

abbrev pub first_item : List Item → Option Segment → ℕ
first_item items None = length items
first_item items (Some s) = s.items

-- where the items of a segment begin, and behind the last one where the items end
abbrev pub items_of : List Segment → List Item → ℕ → ℕ
items_of segments items g = first_item items (slice_get segments g)

abbrev pub first_large : List ℕ → Option Segment → ℕ
first_large large None = length large
first_large large (Some s) = s.large

-- where the large bodies of a segment begin
abbrev pub large_of : List Segment → List ℕ → ℕ → ℕ
large_of segments large g = first_large large (slice_get segments g)

-- the event stands among those of the segment
abbrev pub IsOf : List Segment → List Logged → (g k : ℕ) → Logged → Type 0
IsOf segments events g k e = (start_of segments events g ≤ k) × (k < start_of segments events (suc g)) × (slice_get events k ≡ Some e)

-- what an event touched, without a large body
abbrev pub small_has : List Item → Logged → Item → Bool
small_has items e j = touched items e.from (e.to - e.from) j || (not e.large && body_has e.foot j)

abbrev pub small_of : List Item → Option Logged → Item → Bool
small_of items None j = false
small_of items (Some e) j = small_has items e j

abbrev pub own_body : Option Logged → Item → Bool
own_body None j = false
own_body (Some e) j = body_has e.foot j

-- the body of an event that is listed
abbrev pub listed_has : List Logged → Option ℕ → Item → Bool
listed_has events None j = false
listed_has events (Some k) j = own_body (slice_get events k) j

-- the set has all that the events of the segment touched, but for large bodies
abbrev pub Gathers : List Segment → List Logged → List Item → ℕ → Foot → Type 0
Gathers segments events items g f = (k : ℕ) (e : Logged) → IsOf segments events g k e → (j : Item) → small_has items e j ≡ true → holds f j ≡ true

-- whether there is such a segment, and it is harmless
abbrev pub harmless_of : Option Segment → Bool
harmless_of None = false
harmless_of (Some s) = s.harmless

-- the set that is kept of a segment, if one is
abbrev pub foot_of : Option Segment → Option (Box Foot Global)
foot_of None = None
foot_of (Some s) = s.foot

-- the set that is kept of a segment, if one is, has what its events touched
abbrev pub GathersKept : List Segment → List Logged → List Item → ℕ → Type 0
GathersKept segments events items g = (f : Box Foot Global) → foot_of (slice_get segments g) ≡ Some f → Gathers segments events items g f.value

-- of the operands from `at` on
pub record Kept (segments : List Segment) (events : List Logged) (items : List Item) (large : List ℕ) (at : ℕ) : Type 0 where
  -- segments, their items and their large bodies stand one behind the other
  pub sorted : AreSorted segments events at
  pub items_rise : (g : ℕ) → at ≤ g → items_of segments items g ≤ items_of segments items (suc g)
  pub large_rise : (g : ℕ) → at ≤ g → large_of segments large g ≤ large_of segments large (suc g)
  -- the items of a segment's events are its items
  pub own : (g k : ℕ) (e : Logged) → at ≤ g → IsOf segments events g k e →
      (items_of segments items g ≤ e.from) × (e.to ≤ items_of segments items (suc g))
  -- a harmless one has reads and uses alone
  pub harmless : (g k : ℕ) (e : Logged) → at ≤ g → harmless_of (slice_get segments g) ≡ true → IsOf segments events g k e → (j : Item) →
      event_has items (Some e) j ≡ true → is_harmless j ≡ true
  -- its set, where it is kept, has what its events touched, but for large bodies, which are listed
  pub gathered : (g : ℕ) → at ≤ g → GathersKept segments events items g
  pub listed : (g k : ℕ) (e : Logged) → at ≤ g → IsOf segments events g k e → e.large ≡ true →
      (i : ℕ) × (large_of segments large g ≤ i) × (i < large_of segments large (suc g)) × (slice_get large i ≡ Some k)

-- the places where a segment begins
abbrev pub marks : Option Segment → Option (ℕ × ℕ × ℕ)
marks None = None
marks (Some s) = Some (s.first, s.items, s.large)

-- where the loose events of a segment begin, and the set that is kept of them
abbrev pub loose_mark : Option Segment → Option (ℕ × Option (Box Foot Global))
loose_mark None = None
loose_mark (Some s) = Some (s.loose, s.loose_foot)

-- no large body that is listed from one place up to another clashes with these items
abbrev pub NoLarge : List Row → List Logged → List ℕ → (from to : ℕ) → (Item → Bool) → Type 0
NoLarge rows events large from to f = (i : ℕ) → from ≤ i → i < to → NoClash Any rows (listed_has events (slice_get large i)) f

-- a set to which that of one segment more was added, when neither it nor a large body clashed with what was before
pub record Joined (rows : List Row) (segments : List Segment) (events : List Logged) (large : List ℕ) (at g : ℕ) (old now foot : Foot) : Type 0 where
  pub grown : (j : Item) → holds now j ≡ (holds old j || holds foot j)
  pub small : NoClash Any rows (holds old) (holds foot)
  pub first : NoLarge rows events large (large_of segments large at) (large_of segments large g) (holds foot)
  pub second : NoLarge rows events large (large_of segments large g) (large_of segments large (suc g)) (holds old)
  pub twice : (i : ℕ) → large_of segments large at ≤ i → i < large_of segments large g →
      NoLarge rows events large (large_of segments large g) (large_of segments large (suc g)) (listed_has events (slice_get large i))

-- two items don't conflict, if both are there
abbrev pub IsApart : List Row → Option Item → Option Item → Type 0
IsApart rows o p = (x y : Item) → o ≡ Some x → p ≡ Some y → items_conflict (stands_at rows) x y ≡ false

-- no item from one place up to another conflicts with one behind those
abbrev pub AreApart : List Row → List Item → (from to : ℕ) → Type 0
AreApart rows items from to = (p q : ℕ) → from ≤ p → p < to → to ≤ q → IsApart rows (slice_get items p) (slice_get items q)

-- operands that no rule of their node sequences (6.5p3)
abbrev pub is_unsequenced : Rule → Bool
is_unsequenced Open = true
is_unsequenced Closed = true
is_unsequenced _ = false

-- ---- of all that is open

-- where the part of an open frame's full expression begins in each list
pub record Cut : Type 0 where
  pub segments : ℕ
  pub events : ℕ
  pub items : ℕ
  pub large : ℕ
  pub loose : ℕ

abbrev pub cut_of : Option Level → Option Cut
cut_of None = None
cut_of (Some l) = Some (record { segments = l.segments; events = l.events; items = l.items; large = l.large; loose = l.loose })

-- the parts of the lists begin where the segment does, or else where the lists end
abbrev pub IsCut : List Segment → List Logged → List Item → List ℕ → Cut → Type 0
IsCut segments events items large c =
    (c.segments ≤ length segments) × (start_of segments events c.segments ≡ c.events) × (items_of segments items c.segments ≡ c.items) ×
    (large_of segments large c.segments ≡ c.large)

pub record Whole (segments : List Segment) (events : List Logged) (items : List Item) (large : List ℕ) (levels : List Level) : Type 0 where
  pub kept : Kept segments events items large 0
  -- each segment has an event
  pub filled : (g : ℕ) → g < length segments → start_of segments events g < start_of segments events (suc g)
  pub cuts : (d : ℕ) (c : Cut) → cut_of (slice_get levels d) ≡ Some c → IsCut segments events items large c
  -- the part of a frame that was started later begins no earlier
  pub rise : (d n : ℕ) (b c : Cut) → d ≤ n → cut_of (slice_get levels d) ≡ Some b → cut_of (slice_get levels n) ≡ Some c → b.segments ≤ c.segments

-- two segments begin at the same places, and the same is kept of them
pub record AreLike (o p : Option Segment) : Type 0 where
  pub begins : marks p ≡ marks o
  pub harm : harmless_of p ≡ harmless_of o
  pub foot : foot_of p ≡ foot_of o

-- the segments from one on are made one
pub record IsJoined (old new : List Segment) (at : ℕ) : Type 0 where
  pub count : length new ≡ suc at
  pub others : (g : ℕ) → g < at → AreLike (slice_get old g) (slice_get new g)
  pub begins : marks (slice_get new at) ≡ marks (slice_get old at)
  pub harm : harmless_of (slice_get new at) ≡ true → (g : ℕ) (s : Segment) → at ≤ g → slice_get old g ≡ Some s → s.harmless ≡ true

-- the set has what the events of all the operands from `at` on touched, but for large bodies
abbrev pub Spreads : List Segment → List Logged → List Item → ℕ → Foot → Type 0
Spreads segments events items at f = (g : ℕ) → at ≤ g → Gathers segments events items g f

-- of each segment the set that was kept is kept, or none, or of the first of the operands one of them all
abbrev pub KeepsFeet : List Segment → List Segment → List Logged → List Item → ℕ → Type 0
KeepsFeet old new events items at = (g : ℕ) (f : Box Foot Global) → foot_of (slice_get new g) ≡ Some f →
    (foot_of (slice_get old g) ≡ Some f) ⊎ ((g ≡ at) × Spreads old events items at f.value)

-- the parts of all open frames begin no later
abbrev pub AllBelow : List Level → ℕ → Type 0
AllBelow levels n = (d : ℕ) (c : Cut) → cut_of (slice_get levels d) ≡ Some c → c.segments ≤ n

-- the items of a list are harmless
abbrev pub AllHarmless : List Item → Type 0
AllHarmless added = (p : ℕ) (x : Item) → slice_get added p ≡ Some x → is_harmless x ≡ true

-- the set has the items of a list
abbrev pub HasAll : List Item → Foot → Type 0
HasAll added f = (p : ℕ) (x j : Item) → slice_get added p ≡ Some x → stands_for x j ≡ true → holds f j ≡ true

-- the second set, where one is kept, has what the first has, and these items
abbrev pub HasMore : Option (Box Foot Global) → Option (Box Foot Global) → List Item → Type 0
HasMore old new added = (f : Box Foot Global) → new ≡ Some f →
    (b : Box Foot Global) × (old ≡ Some b) × ((j : Item) → holds b.value j ≡ true → holds f.value j ≡ true) × HasAll added f.value

-- a segment that has these items too
pub record IsMore (old new : Segment) (added : List Item) : Type 0 where
  pub first : new.first ≡ old.first
  pub items : new.items ≡ old.items
  pub large : new.large ≡ old.large
  pub harm : new.harmless ≡ true → (old.harmless ≡ true) × AllHarmless added
  pub foot : HasMore old.foot new.foot added
  pub low : new.loose ≡ old.loose
  pub below : new.loose_foot ≡ old.loose_foot

-- the last segment has these items too
pub record IsAdded (old new : List Segment) (added : List Item) : Type 0 where
  pub count : length new ≡ length old
  pub others : (g : ℕ) → suc g < length old → slice_get new g ≡ slice_get old g
  pub last : (g : ℕ) (s : Segment) → suc g ≡ length old → slice_get old g ≡ Some s → (t : Segment) × (slice_get new g ≡ Some t) × IsMore s t added

-- where an event's items stand
abbrev pub span_of : Option Logged → Option (ℕ × ℕ)
span_of None = None
span_of (Some e) = Some (e.from, e.to)

-- whether there is such an event, and its body is large
abbrev pub is_large : Option Logged → Bool
is_large None = false
is_large (Some e) = e.large

-- where the segments of the top frame begin
abbrev pub first_segment : Option Level → ℕ
first_segment None = 0
first_segment (Some l) = l.segments

abbrev pub base_of : List Level → ℕ
base_of levels = first_segment (slice_get levels (length levels - 1))

-- a segment of the top frame that is of an operand of the node: it and those behind it are of nodes behind this one
abbrev pub IsOperand : List Segment → List Level → (node g : ℕ) → Type 0
IsOperand segments levels node g =
    (base_of levels ≤ g) × ((k : ℕ) (s : Segment) → g ≤ k → slice_get segments k ≡ Some s → node < s.node)
