-- What a set holds that has grown towards the union of two, and perhaps not all the way (own).
use Rattle.std.specs.Prelude.{◌≡◌, Bool, ◌||◌}
use Rattle.footprint.specs.declared.state.State.{State}
use Rattle.footprint.specs.States.{either}

-- what was held is held, and nothing that neither held
abbrev pub IsBetween : (old more new : Bool) → Type 0
IsBetween old more new = ((old || new) ≡ new) × ((new || (old || more)) ≡ (old || more))

abbrev pub AreBetween : (old more new : State) → Type 0
AreBetween old more new = (either old new ≡ new) × (either new (either old more) ≡ either old more)
