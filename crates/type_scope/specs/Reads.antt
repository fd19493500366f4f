-- What a call of typing answers, by a reading of the definition.
use Rattle.std.specs.Prelude.{◌≡◌, ◌≢◌, Option, Some, None, Result, Ok, Err}
use Rattle.typing_env.specs.Env.{Env}
use Rattle.type_scope.specs.declared.fault.TypeFault.{TypeFault}
use Rattle.type_scope.specs.declared.fault.TypeFault.TheVariants.{NoMemory}

-- What is found, and what is known then; a refusal just where nothing is, unless memory runs out.
abbrev pub Reads : {A B : Type 0} → (A → B) → Option (B × Env) → Result A TypeFault → Env → Type 0
Reads view found (Ok a) new = found ≡ Some (view a, new)
Reads view found (Err e) new = e ≢ NoMemory → found ≡ None

-- The same where the state doesn't tell all that is known: what is known then is one of which this holds.
abbrev pub Follows : {A B : Type 0} → (A → B) → (Env → Type 0) → Option (B × Env) → Result A TypeFault → Type 0
Follows view holds found (Ok a) = (env : Env) × (found ≡ Some (view a, env)) × holds env
Follows view holds found (Err e) = e ≢ NoMemory → found ≡ None
