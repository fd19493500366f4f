-- Which pick the machine takes next in the top frame's full expression, and which event may come next there (own).
use Rattle.std.specs.Prelude.{
  ◌≡◌,
  ◌≢◌,
  ◌↔◌,
  ◌+◌,
  ◌-◌,
  ◌^◌,
  ◌<◌,
  ◌≤◌,
  min,
  ℕ,
  Bool,
  true,
  false,
  List,
  length,
  Option,
  Some,
  None,
  Result,
  Ok,
  Err,
  slice_get,
}
use Rattle.std.specs.Borrow.{Bor}
use Rattle.ub_base.specs.declared.names.Event.{Event}
use Rattle.c_typed.specs.declared.tree.Place.{Place}
use Rattle.c_typed.specs.Tree.{tree_of, size}
use Rattle.c_typed.specs.Order.{events, has}
use Rattle.c_typed.specs.Decide.{is_permitted, canonical}
use Rattle.c_model.specs.Steps.{Control, Ev, MayPick, event_of}
use Rattle.c_model.specs.Steps as steps
use Rattle.c_model.specs.Runs.{State, canonical_pick, chosen_pick}
use Rattle.c_model.specs.World.{World}
use Rattle.seq_order.specs.declared.done.Marks.{Marks}
use Rattle.seq_order.specs.Marked.{taken_in, done_in}
use Rattle.run_control.specs.View.{Meaning}
use Rattle.run_layout.specs.declared.steps.Due.{Due}
use Rattle.run_layout.specs.declared.steps.Listed.{Listed}
use Rattle.run_listing.specs.Along.{part_of, events_of, Next, place_of, IsListed}
use Rattle.run_state.specs.declared.halt.Halt.{Halt}
use Rattle.run_state.specs.declared.halt.Halt.TheVariants.{Raised, Over, Unplaced, NoMemory}
use Rattle.run_state.specs.declared.machine.Machine.{Machine}
use Rattle.run_state.specs.declared.machine.Stage.{Stage}
use Rattle.run_state.specs.declared.watch.Begun.{Begun}
use Rattle.run_state.specs.Stands.{Stands}
use Rattle.run_answers.specs.declared.pick.Pick.{Pick}
use Rattle.run_answers.specs.declared.pick.Pick.TheVariants as pick

-- 1. The full expression of the top frame.

abbrev pub top_of : Machine → Option Begun
top_of m = slice_get m.begun.items (length m.below.items)

-- of its listing: what the cursor has passed, what is ahead of it, and the whole
abbrev pub passed_part : Machine → Stage → List Listed
passed_part m s = part_of m.image.code.now.listing.items s.first s.cursor

abbrev pub ahead_part : Machine → Stage → List Listed
ahead_part m s = part_of m.image.code.now.listing.items s.cursor s.end

abbrev pub whole_part : Machine → Stage → List Listed
whole_part m s = part_of m.image.code.now.listing.items s.first s.end

-- what is kept of done events where the order isn't the canonical one
abbrev pub kept_in : Option (List Marks) → Place → Bool
kept_in None p = false
kept_in (Some marks) p = done_in marks p

abbrev pub kept_of : Machine → Place → Bool
kept_of m = kept_in (slice_get m.strayed.items (length m.below.items))

-- what is done: along the canonical way what the cursor has passed, elsewhere what is kept
abbrev pub by_way : (straight : Bool) → Machine → Stage → Begun → Place → Bool
by_way true m s b = has (events_of (taken_in b.taken) (passed_part m s))
by_way false m s b = kept_of m

abbrev pub is_done : Machine → Stage → Begun → Place → Bool
is_done m s b = by_way s.straight m s b

-- whether the event is permitted by what is done, in a tree whose nodes have numbers
abbrev pub Decides : Machine → Stage → Place → (permitted : Bool) → Type 0
Decides m s u permitted = (b : Begun) × (top_of m ≡ Some b)
    × (size (tree_of b.root.now) < 2 ^ 32 → permitted ≡ is_permitted (tree_of b.root.now) (taken_in b.taken) (is_done m s b) u)

-- the next event along the canonical way, and how many entries behind the cursor it stands
abbrev pub ComesNext : Machine → Stage → Option (ℕ × Bor Due) → Type 0
ComesNext m s found = (b : Begun) × (top_of m ≡ Some b) × Next (taken_in b.taken) (ahead_part m s) found

-- 2. How the machine goes on in it.

-- the machine with the cursor there
abbrev pub at_cursor : Machine → Stage → ℕ → Machine
at_cursor m s cursor = record m { top = record m.top { stage = Some (record s { cursor = cursor }) } }

-- the next event by the listing, to which the cursor moves
abbrev pub ByListing : Machine → Stage → Begun → Machine → Option (Bor Due) → Type 0
ByListing old s b new None = Next (taken_in b.taken) (ahead_part old s) None × (new ≡ old)
ByListing old s b new (Some due) =
    (count : ℕ) × Next (taken_in b.taken) (ahead_part old s) (Some (count, due)) × (new ≡ at_cursor old s (min (s.cursor + count) (2 ^ 64 - 1)))

-- the next event by what is kept of done events, where the listing is that of the tree
abbrev pub ByOrder : Machine → Stage → Begun → Option (Bor Due) → Type 0
ByOrder m s b due =
    size (tree_of b.root.now) < 2 ^ 32 → events_of (taken_in b.taken) (whole_part m s) ≡ events (taken_in b.taken) 0 (tree_of b.root.now)
    → place_of due ≡ canonical (tree_of b.root.now) (taken_in b.taken) (kept_of m)

abbrev pub ByWay : (straight : Bool) → Machine → Stage → Begun → Machine → Option (Bor Due) → Type 0
ByWay true old s b new due = ByListing old s b new due
ByWay false old s b new due = ByOrder old s b due × (new ≡ old)

abbrev pub FollowsIn : Machine → Option Stage → Option Begun → Machine → Option (Bor Due) → Type 0
FollowsIn old None b new due = (due ≡ None) × (new ≡ old)
FollowsIn old (Some s) None new due = ⊥
FollowsIn old (Some s) (Some b) new due = ByWay s.straight old s b new due

-- the event that the canonical order takes next in the top frame's full expression; none where none is left or none has begun
abbrev pub Follows : Machine → Machine → Option (Bor Due) → Type 0
Follows old new due = FollowsIn old old.top.stage (top_of old) new due

-- Off the canonical way one list of what is done is kept for each frame: that of the top frame has what was done by then, and those of others stay.
pub record LeavesWay (old : Machine) (s : Stage) (new : Machine) : Type 0 where
  pub rest : new ≡ record old { top = record old.top { stage = Some (record s { straight = false }) }; strayed = new.strayed }
  pub marks : List Marks
  pub there : slice_get new.strayed.items (length old.below.items) ≡ Some marks
  pub done : (b : Begun) → top_of old ≡ Some b → (p : Place) → done_in marks p ≡ is_done old s b p
  pub others : (j : ℕ) (other : List Marks) → j ≢ length old.below.items → slice_get old.strayed.items j ≡ Some other
      → slice_get new.strayed.items j ≡ Some other

-- an event that isn't the next one leaves the canonical way; otherwise nothing changes
abbrev pub StraysIn : (straight : Bool) → Machine → Stage → Machine → Bool → Type 0
StraysIn true old s new true = LeavesWay old s new
StraysIn true old s new false = new ≡ old
StraysIn false old s new permitted = new ≡ old

abbrev pub Strays : Machine → Stage → Machine → Bool → Type 0
Strays old s new permitted = StraysIn s.straight old s new permitted

-- 3. By the definitions: of each state that the machine stands for, in each world.

-- the event may come next exactly where this is true
abbrev pub Permits : Machine → Place → (permitted : Bool) → Type 0
Permits m u permitted =
    (world : World) (meaning : Option ℕ → Meaning) (st : State) → Stands world meaning m st → (permitted ≡ true) ↔ MayPick world st.top st.top.begun (Ev u)

-- the canonical pick is this event; the control step where there is none
abbrev pub TakesCanonical : Machine → Option Place → Type 0
TakesCanonical m chosen =
    (world : World) (meaning : Option ℕ → Meaning) (st : State) → Stands world meaning m st
    → chosen_pick world chosen ≡ canonical_pick world st.top st.top.begun

-- where no full expression has begun, no event may come next
abbrev pub NoneIsPermitted : Type 0
NoneIsPermitted = (m : Machine) (u : Place) → m.top.stage ≡ None → Permits m u false

-- one that isn't listed may not
abbrev pub UnlistedIsRefused : Type 0
UnlistedIsRefused =
    (m : Machine) (s : Stage) (u : Place) → m.top.stage ≡ Some s → ((due : Due) → IsListed (whole_part m s) due → due.place ≢ u) → Permits m u false

-- the next one along the canonical way may
abbrev pub NextIsPermitted : Type 0
NextIsPermitted =
    (m : Machine) (s : Stage) (next : ℕ × Bor Due) → m.top.stage ≡ Some s → s.straight ≡ true → ComesNext m s (Some next)
    → Permits m next.1.now.place true

-- and any other one as is decided by what is done
abbrev pub PermitsDecided : Type 0
PermitsDecided = (m : Machine) (s : Stage) (u : Place) (permitted : Bool) → m.top.stage ≡ Some s → Decides m s u permitted → Permits m u permitted

-- the event that the machine goes on to is the canonical pick
abbrev pub FollowsCanonical : Type 0
FollowsCanonical = (old new : Machine) (due : Option (Bor Due)) → Follows old new due → TakesCanonical old (place_of due)

-- of each frame below the top one a full expression is shown, the one in which its body waits
abbrev pub BelowIsShown : Type 0
BelowIsShown =
    (world : World) (meaning : Option ℕ → Meaning) (m : Machine) (st : State) → Stands world meaning m st → length m.below.items ≤ length m.begun.items

-- 4. What is answered.

-- the event of this place in the top frame
abbrev pub event_at : Machine → Place → Event
event_at m u = record { frame = m.top.frame; turn = m.top.turn; node = u.node; kind = u.kind }

-- the pick is that of this event
abbrev pub IsOfEvent : Event → Pick → Type 0
IsOfEvent event (pick.Event taken completed status) = taken ≡ event
IsOfEvent event (pick.Starts started) = started ≡ event
IsOfEvent event (pick.Step status) = ⊥

abbrev pub IsStep : Pick → Type 0
IsStep (pick.Step status) = Unit {0}
IsStep _ = ⊥

-- the pick is this one of the definitions
abbrev pub IsPick : World → State → steps.Pick → Pick → Type 0
IsPick world st Control p = IsStep p
IsPick world st (Ev u) p = IsOfEvent (event_of world st.top.scene u) p

-- nothing is taken only where the event isn't permitted
abbrev pub Refuses : (Permitted : Type 0) → Result (Option Pick) Halt → Type 0
Refuses Permitted (Ok None) = Permitted → ⊥
Refuses Permitted (Ok (Some pick)) = Unit {0}
Refuses Permitted (Err halt) = Unit {0}

-- it is taken, or its act isn't done, only where the event is permitted
abbrev pub Takes : (Permitted : Type 0) → Result (Option Pick) Halt → Type 0
Takes Permitted (Ok None) = Unit {0}
Takes Permitted (Ok (Some pick)) = Permitted
Takes Permitted (Err NoMemory) = Unit {0}
Takes Permitted (Err (Raised event line clause)) = Permitted
Takes Permitted (Err (Over cause number)) = Permitted
Takes Permitted (Err Unplaced) = Permitted
