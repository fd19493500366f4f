-- A node's own events and those below it, of which neither is sequenced before the other (5.1.2.3p3).
use Rattle.std.specs.Prelude.{◌≡◌, ◌≤◌, ◌<◌, ℕ, Bool, true, false, not, ◌&&◌, nat_lt, List, Option, Some, None, slice_get, length}
use Rattle.c_typed.specs.Tree.{Tree}
use Rattle.c_typed.specs.Order.{Taken, place}
use Rattle.c_typed.specs.Decide.{is_before}
use Rattle.addr_map.specs.declared.map.Row.{Row}
use Rattle.ub_base.specs.declared.names.Item.{Item}
use Rattle.evaluation_log.specs.declared.log.Logged.{Logged}
use Rattle.evaluation_log.specs.declared.sought.Sought.TheVariants.{Any}
use Rattle.evaluation_log.specs.Touched.{event_has}
use Rattle.evaluation_log.specs.Clashes.{NoClash}
use Rattle.evaluation_log.specs.Loose.{event_of}

-- the second event is of a node behind that of the first, and neither of the two is sequenced before the other
abbrev pub is_apart_below : Taken → Tree → Option Logged → Option Logged → Bool
is_apart_below taken root None b = false
is_apart_below taken root (Some a) None = false
is_apart_below taken root (Some a) (Some b) = (nat_lt a.node b.node && not (is_before taken 0 root (place a.node a.kind) (place b.node b.kind)))
    && not (is_before taken 0 root (place b.node b.kind) (place a.node a.kind))

-- this event, and one that is listed at a place and stands so to it
pub record IsListedAt (taken : Taken) (root : Tree) (events : List Logged) (loose : List ℕ) (event at a b : ℕ) : Type 0 where
  pub same : a ≡ event
  pub there : slice_get loose at ≡ Some b
  pub apart : is_apart_below taken root (slice_get events a) (slice_get events b) ≡ true

-- from a place on
pub record AreListedWith (taken : Taken) (root : Tree) (events : List Logged) (loose : List ℕ) (event from a b : ℕ) : Type 0 where
  pub at : ℕ
  pub low : from ≤ at
  pub listed : IsListedAt taken root events loose event at a b

-- one from a place on, and one that is listed from a place on and stands so to it
pub record AreListed (taken : Taken) (root : Tree) (events : List Logged) (loose : List ℕ) (own from a b : ℕ) : Type 0 where
  pub low : own ≤ a
  pub within : a < length events
  pub with : AreListedWith taken root events loose a from a b

-- the event doesn't clash with another one that stands so to it
abbrev pub IsClean : List Row → Taken → Tree → List Logged → List Item → ℕ → Option ℕ → Type 0
IsClean rows taken root events items a other = is_apart_below taken root (slice_get events a) (event_of events other) ≡ true →
    NoClash Any rows (event_has items (slice_get events a)) (event_has items (event_of events other))

-- nor with one of those that are listed from a place on
abbrev pub NoneListed : List Row → Taken → Tree → List Logged → List Item → List ℕ → (from a : ℕ) → Type 0
NoneListed rows taken root events items loose from a = (i : ℕ) → from ≤ i → IsClean rows taken root events items a (slice_get loose i)
