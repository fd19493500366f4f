-- What control steps leave to do (6.8).
use Rattle.std.specs.Prelude.{◌≡◌, true, false, List, ◌∷◌, Some, None}
use Rattle.c_model.specs.Control.{ready_work, gone_to}
use Rattle.c_model.specs.Steps.{Local, control_next}
use Rattle.c_model.specs.World.{World}
use Rattle.run_control.specs.declared.links.Link.{Link}
use Rattle.run_control.specs.declared.links.Place.{Place}
use Rattle.run_control.specs.declared.work.Step.{Step}
use Rattle.run_control.specs.declared.work.Step.TheVariants as step
use Rattle.run_control.specs.Links.{work_from}
use Rattle.run_control.specs.Stacked.{Stacked, Closes}
use Rattle.run_control.specs.View.{Meaning, is_nothing, step_of, todo_of}
use Rattle.run_state.specs.Stands.{StandsControl}

-- Where something is left to do, the frame goes on: ends of blocks and of `switch` statements that come first may be taken off. Else the frame ends,
-- and the one below it goes on.
pub record GoesOn (m : Meaning) (old new : Stacked) : Type 0 where
  pub on : is_nothing (ready_work (todo_of m old.now)) ≡ false
      → (new.below ≡ old.below) × (ready_work (todo_of m new.now) ≡ ready_work (todo_of m old.now))
  pub ends : is_nothing (ready_work (todo_of m old.now)) ≡ true → Closes old.below true new

-- what is left to do stands for what the definitions leave after this step, in any frame of theirs
abbrev pub Leaves : Meaning → Step → (old new : Stacked) → Type 0
Leaves m s old new = (new.below ≡ old.below) × ((world : World) (f : Local) → f.begun ≡ None
    → StandsControl m new.now (control_next world f (step_of m s ∷ todo_of m old.now)))

-- the work from some target on comes next, as `goto` goes to it
abbrev pub IsGone : Meaning → List Link → (old new : Stacked) → Type 0
IsGone m links old new = (new.below ≡ old.below) × (target : Place)
    × (todo_of m new.now ≡ gone_to (todo_of m old.now) (Some (todo_of m (work_from links target))))

-- after a control step that was taken off; with the leave of its last block a frame ends
abbrev pub StepLeaves : Meaning → List Link → Step → (old new : Stacked) → Type 0
StepLeaves m links (step.GoTo k) old new = IsGone m links old new
StepLeaves m links (step.Leave b) old new =
    (is_nothing (ready_work (todo_of m old.now)) ≡ false → Leaves m (step.Leave b) old new)
    × (is_nothing (ready_work (todo_of m old.now)) ≡ true → Closes old.below true new)
StepLeaves m links s old new = Leaves m s old new

-- the next step is the one that the definitions make ready, and is taken
abbrev pub TakesStep : Meaning → List Link → (old new : Stacked) → Type 0
TakesStep m links old new = (s : Step) × (middle : Stacked) × (middle.below ≡ old.below)
    × (step_of m s ∷ todo_of m middle.now ≡ ready_work (todo_of m old.now)) × StepLeaves m links s middle new
