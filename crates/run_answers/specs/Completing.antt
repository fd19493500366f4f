-- What an event that is taken along the canonical way completes (own).
use Rattle.std.specs.Prelude.{◌≡◌, ℕ, true, Option, Some, None, Result, Ok, Err}
use Rattle.c_typed.specs.declared.tree.Place.{Place}
use Rattle.c_model.specs.Completions as model
use Rattle.c_model.specs.Completions.{completed_by}
use Rattle.c_model.specs.Program.{tree_of}
use Rattle.c_model.specs.Runs.{Outcome, Running, State, canonical_pick, step}
use Rattle.c_model.specs.Steps.{Begun, Ev, is_done, taken_by, with_given}
use Rattle.c_model.specs.Values.{Value}
use Rattle.c_model.specs.World.{World}
use Rattle.completion_laws.specs.Listing.{completed_of}
use Rattle.mem_objects.specs.Keeps.{RowsStay}
use Rattle.run_control.specs.View.{Meaning}
use Rattle.run_layout.specs.declared.steps.Due.{Due}
use Rattle.run_layout.specs.declared.steps.Expression.{Expression}
use Rattle.run_listing.specs.Along.{events_of}
use Rattle.run_state.specs.declared.halt.Halt.{Halt}
use Rattle.run_state.specs.declared.machine.Machine.{Machine}
use Rattle.run_state.specs.declared.machine.Stage.{Stage}
use Rattle.run_state.specs.declared.watch.Begun.{Begun as Shown}
use Rattle.seq_order.specs.Marked.{taken_in}
use Rattle.run_answers.specs.declared.pick.Completed.{Completed}
use Rattle.run_answers.specs.declared.pick.Completed.TheVariants as completed
use Rattle.run_answers.specs.declared.pick.Pick.{Pick}
use Rattle.run_answers.specs.declared.pick.Pick.TheVariants as pick
use Rattle.run_answers.specs.Picks.{ahead_part, top_of}
use Rattle.run_answers.specs.Taking.{MayTake, MayTakeNext, TakesEvent}

-- as the definitions say it
abbrev pub completed_seen : Completed → model.Completed
completed_seen completed.Nothing = model.Incomplete
completed_seen completed.Node = model.Own_node
completed_seen (completed.Operands parent) = model.Operands_of parent

-- what the code has noted of the event, by what is ahead of the cursor
abbrev pub CompletesNoted : Due → Machine → Completed → Type 0
CompletesNoted d m c = (s : Stage) (b : Shown) → m.top.stage ≡ Some s → top_of m ≡ Some b
    → completed_seen c ≡ completed_of d (events_of (taken_in b.taken) (ahead_part m s))

abbrev pub CompletesPick : Due → Machine → Result Pick Halt → Type 0
CompletesPick d m (Ok (pick.Event event completed status)) = CompletesNoted d m completed
CompletesPick d m (Ok (pick.Starts event)) = Unit {0}
CompletesPick d m (Ok (pick.Step status)) = Unit {0}
CompletesPick d m (Err halt) = Unit {0}

-- Along the canonical way that is what the definitions say of it in the state behind the event, which isn't a body.
abbrev pub EventCompletes : Type 0
EventCompletes =
    (world : World) (meaning : Option ℕ → Meaning) (old new : Machine) (st : State) (e : Begun) (s : Stage) (laid : Expression) (d : Due) (v : Value)
    → TakesEvent world meaning old st e s laid d v new → s.straight ≡ true → (c : Completed) → CompletesNoted d new c
    → completed_seen c
    ≡ completed_by (tree_of e.root) (taken_by world st.top.scene (with_given e d.place v)) (is_done (with_given e d.place v)) d.place.node

-- what the definitions say of an event in a state
abbrev pub CompletesIn : World → Completed → Place → State → Type 0
CompletesIn world c u st = (e : Begun) → st.top.begun ≡ Some e
    → completed_seen c ≡ completed_by (tree_of e.root) (taken_by world st.top.scene e) (is_done e) u.node

-- the pick says so of the state that the definitions go on to, in a world that has the rows that the machine then has
abbrev pub CompletesAfter : World → Result Pick Halt → Place → (new : Machine) → Outcome → Type 0
CompletesAfter world (Ok (pick.Event event completed None)) u new o = RowsStay new.memory.rows world.rows → (st : State) → o ≡ Running st
    → CompletesIn world completed u st
CompletesAfter world (Ok (pick.Event event completed (Some status))) u new o = Unit {0}
CompletesAfter world (Ok (pick.Starts event)) u new o = Unit {0}
CompletesAfter world (Ok (pick.Step status)) u new o = Unit {0}
CompletesAfter world (Err halt) u new o = Unit {0}

-- an event that isn't a body, to which the machine has gone on along the canonical way
abbrev pub CompletesEvent : Due → (old new : Machine) → Result Pick Halt → Type 0
CompletesEvent d old new result =
    (world : World) (meaning : Option ℕ → Meaning) (m : Machine) (st : State) (e : Begun) (s : Stage) (laid : Expression)
    → MayTake world meaning m st e s laid d old → s.straight ≡ true → CompletesAfter world result d.place new (step world st (Ev d.place))

-- .. and the one that comes next
abbrev pub CompletesNext : (old new : Machine) → Result Pick Halt → Type 0
CompletesNext old new result =
    (world : World) (meaning : Option ℕ → Meaning) (st : State) (e : Begun) (s : Stage) (laid : Expression) (u : Place)
    → MayTakeNext world meaning old st e s laid → canonical_pick world st.top st.top.begun ≡ Ev u
    → CompletesAfter world result u new (step world st (Ev u))
