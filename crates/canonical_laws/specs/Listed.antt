-- The frames of a run by their numbers, and what is told of a pick (own).
use Rattle.std.specs.Prelude.{◌≡◌, ◌⊎◌, ℕ, true, List, ◌∷◌, Option, Some, None, is_some}
use Rattle.ub_base.specs.Frames.{Path, Row}
use Rattle.ub_base.specs.declared.names.Event.{Event}
use Rattle.ub_base.specs.declared.names.Item.{Item}
use Rattle.c_types.specs.declared.library.LibFunc.{LibFunc}
use Rattle.c_typed.specs.declared.tree.Place.{Place}
use Rattle.library_laws.specs.Called.{items_of}
use Rattle.c_model.specs.Runs.{Entry, State}
use Rattle.c_model.specs.World.{World}
use Rattle.frame_numbers.specs.Numbers.{number_in}
use Rattle.run_answers.specs.declared.pick.Pick.{Pick}
use Rattle.run_answers.specs.declared.pick.Pick.TheVariants as pick

-- 1. Numbers of frames.

-- each frame of the list has its number among these
abbrev pub NumbersAre : (Path → ℕ) → List Row → Type 0
NumbersAre number rows = (f : Path) (n : ℕ) → number_in rows f ≡ Some n → number f ≡ n

-- the top frame is one of the list, and so are those below it, from which it was started
abbrev pub TopIsListed : List Row → State → Type 0
TopIsListed rows st = is_some (number_in rows st.top.scene.path) ≡ true

-- 2. What is told of a pick.

-- the event of an entry of a trace; none for a control step
abbrev pub event_in : World → Entry → Option Place → Option Event
event_in world e None = None
event_in world e (Some u) = Some (record { frame = record { 0 = world.number e.path }; turn = e.turn; node = u.node; kind = u.kind })

abbrev pub event_of : World → Entry → Option Event
event_of world e = event_in world e e.place

-- its items; of a call of a library function what is read of a string in one range
abbrev pub HasItems : (told own : List Item) → Type 0
HasItems told own = (told ≡ own) ⊎ ((f : LibFunc) × (told ≡ items_of f own))

-- an event and items that tell an entry
pub record TellsEntry (world : World) (event : Option Event) (items : List Item) (e : Entry) : Type 0 where
  pub event_is : event ≡ event_of world e
  pub items_are : HasItems items e.items

-- the event of a pick that was taken
abbrev pub event_told : Pick → Option Event
event_told (pick.Step status) = None
event_told (pick.Starts event) = Some event
event_told (pick.Event event completed status) = Some event

-- the trace has one entry more, which the pick with these items tells
abbrev pub TellsNewest : World → Option Event → List Item → (before after : List Entry) → Type 0
TellsNewest world event items before after = (e : Entry) × (after ≡ e ∷ before) × TellsEntry world event items e
