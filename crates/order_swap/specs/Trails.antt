-- The events that a guide was told (own).
use Rattle.std.specs.Prelude.{◌≡◌, List, ◌∷◌, ◌++◌, Option, Some, None}
use Rattle.ub_base.specs.declared.names.Event.{Event}

-- one event more, where they are kept
abbrev pub noted : Event → Option (List Event) → Option (List Event)
noted e None = None
noted e (Some es) = Some (e ∷ es)

-- these events more, of which the last one stands first
abbrev pub all_noted : List Event → Option (List Event) → Option (List Event)
all_noted trail None = None
all_noted trail (Some es) = Some (trail ++ es)

-- what was told is the trail, over what was told before it
abbrev pub Grows : (trail grown : List Event) → (heard told : Option (List Event)) → Type 0
Grows trail grown heard told = (before : Option (List Event)) → heard ≡ all_noted trail before → told ≡ all_noted grown before
