-- What a call answers that makes something of the text and changes nothing that is known.
use Rattle.std.specs.Prelude.{◌≡◌, ◌≢◌, Option, Some, None, Result, Ok, Err}
use Rattle.type_scope.specs.declared.fault.TypeFault.{TypeFault}
use Rattle.type_scope.specs.declared.fault.TypeFault.TheVariants.{NoMemory}

-- what the definition finds, seen by the view; a refusal just where it finds nothing, unless memory runs out
abbrev pub Finds : {A B : Type 0} → (A → B) → Option B → Result A TypeFault → Type 0
Finds view found (Ok a) = found ≡ Some (view a)
Finds view found (Err e) = e ≢ NoMemory → found ≡ None
