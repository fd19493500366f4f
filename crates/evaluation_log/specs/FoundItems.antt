-- The items and the events of a conflict.
use Rattle.std.specs.Prelude.{◌≡◌, ◌≢◌, Bool, true, false, List, Option, Some, None, if◌then◌else◌}
use Rattle.std.specs.Ordering.{ordering_then, is_lt}
use Rattle.ub_base.specs.declared.clause.Kind.TheVariants.{Body}
use Rattle.ub_base.specs.declared.names.Event.{Event}
use Rattle.ub_base.specs.declared.names.Item.{Item}
use Rattle.ub_base.specs.Frames.{Row}
use Rattle.c_names.specs.Orders.{event_cmp}
use Rattle.addr_map.specs.Conflict.{is_access}
use Rattle.footprint.specs.Conflicts.{MayConflict}
use Rattle.evaluation_log.specs.declared.found.Found.{Found}

-- two accesses, by events of which neither is a body: what isn't sequenced then is unsequenced (6.5p2)
abbrev pub IsUnsequencedPair : Event → Event → Item × Item → Type 0
IsUnsequencedPair d e p = (is_access p.0 ≡ true) × (is_access p.1 ≡ true) × (d.kind ≢ Body) × (e.kind ≢ Body)

-- two events of one full expression: of one frame in one turn
abbrev pub AreOfOne : Event → Event → Type 0
AreOfOne d e = (d.frame ≡ e.frame) × (d.turn ≡ e.turn)

-- two events of one full expression whose items conflict, wherever the objects stand that they name; a race is of two such accesses
pub record IsConflict (f : Found) : Type 0 where
  pub one : AreOfOne f.event f.against
  pub may : MayConflict f.items.0 f.items.1
  pub race : f.race ≡ true → IsUnsequencedPair f.event f.against f.items

abbrev pub ItemsConflict : Option Found → Type 0
ItemsConflict None = Unit {0}
ItemsConflict (Some f) = IsConflict f

-- the lesser pair of events
abbrev pub is_lesser : List Row → Found → Found → Bool
is_lesser rows f g = is_lt (ordering_then (event_cmp rows f.event g.event) (event_cmp rows f.against g.against))

-- whether f counts before g: a race before another conflict, and then the lesser pair of events
abbrev pub counts_before : List Row → Found → Found → Bool
counts_before rows f g =
    if f.race then (if g.race then is_lesser rows f g else true) else (if g.race then false else is_lesser rows f g)

-- the one that counts, of which the first stays where neither counts before the other
abbrev pub first_found : List Row → Option Found → Option Found → Option Found
first_found rows None g = g
first_found rows (Some f) None = Some f
first_found rows (Some f) (Some g) = if counts_before rows g f then Some g else Some f
