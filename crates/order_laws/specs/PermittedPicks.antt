-- Which picks are permitted, in the model and in the machine of its frames.
use Rattle.std.specs.Prelude.{◌≡◌, true, Option, Some, None, ◌↔◌}
use Rattle.c_model.specs.World.{World}
use Rattle.c_model.specs.Steps.{Local, Begun, Pick, MayPick}
use Rattle.c_model.specs.Runs.{canonical_pick}
use Rattle.c_model.specs.ModelMachine.{ready_in, may_start_in}
use Rattle.c_model.specs.ChoiceLaws.{IsClosed}

-- all that is done in the full expression that has begun was reached, as at each state of a run
abbrev pub ClosedIn : World → Local → Option Begun → Type 0
ClosedIn world f None = Unit {0}
ClosedIn world f (Some e) = IsClosed world f.scene e

-- the picks that are permitted in the model are the machine's
abbrev pub PicksAgree : Type 0
PicksAgree =
    (world : World) (f : Local) (p : Pick) → ClosedIn world f f.begun
    → MayPick world f f.begun p ↔ ((ready_in world f.scene f.begun p ≡ true) × (may_start_in f.begun p ≡ true))

-- the next pick of the canonical order is always permitted
abbrev pub CanonicalIsPermitted : Type 0
CanonicalIsPermitted = (world : World) (f : Local) → ClosedIn world f f.begun → MayPick world f f.begun (canonical_pick world f f.begun)
