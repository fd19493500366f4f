-- What the picks of a run complete, as the definitions say it (own).
use Rattle.std.specs.Prelude.{Option, Some, None}
use Rattle.c_typed.specs.declared.tree.Place.{Place}
use Rattle.c_model.specs.Completions.{Completed, Incomplete, completed_by}
use Rattle.c_model.specs.Program.{tree_of}
use Rattle.c_model.specs.Runs.{Entry, Outcome, Running, State}
use Rattle.c_model.specs.Steps.{Begun, Local, is_done, taken_by}
use Rattle.c_model.specs.World.{World}
use Rattle.run_answers.specs.declared.pick.Pick.{Pick}
use Rattle.run_answers.specs.declared.pick.Pick.TheVariants as pick
use Rattle.run_answers.specs.Completing.{completed_seen}

-- 1. In the definitions.

-- What an event of this place completes, in the full expression that is open behind it. Behind a body that starts a frame none is open: it completes nothing.
abbrev pub completed_in : World → Local → Option Begun → Place → Completed
completed_in world f None u = Incomplete
completed_in world f (Some e) u = completed_by (tree_of e.root) (taken_by world f.scene e) (is_done e) u.node

-- a control step completes nothing
abbrev pub completed_at : World → State → Option Place → Completed
completed_at world st None = Incomplete
completed_at world st (Some u) = completed_in world st.top st.top.begun u

-- what an entry of the trace completes, by what its pick came to: in the state that the run goes on to; where it doesn't go on, nothing
abbrev pub completed_with : World → Entry → Outcome → Completed
completed_with world e (Running st) = completed_at world st e.place
completed_with world e _ = Incomplete

-- 2. In the machine.

-- what is told of a pick that was taken
abbrev pub completed_told : Pick → Completed
completed_told (pick.Step status) = Incomplete
completed_told (pick.Starts event) = Incomplete
completed_told (pick.Event event completed None) = completed_seen completed
completed_told (pick.Event event completed (Some status)) = Incomplete
