-- What a function that reads tokens answers, by a step of the parser.
use Rattle.std.specs.Prelude.{◌≡◌, ◌≢◌, Option, Some, None, Result, Ok, Err}
use Rattle.c_ast.specs.Input.{Input}
use Rattle.parse_spec.specs.Steps.{Outcome}
use Rattle.parse_cursor.specs.declared.refusal.Refusal.{Refusal}
use Rattle.parse_cursor.specs.declared.refusal.Refusal.TheVariants.{NoMemory}

-- What the step reads, and what is left then; a refusal just where the step has none, unless memory runs out.
abbrev pub Reads : {A : Type 0} → Outcome A → Result A Refusal → Input → Type 0
Reads outcome (Ok a) new = outcome ≡ Some (a, new)
Reads outcome (Err e) new = e ≢ NoMemory → outcome ≡ None
