-- The first of targets that is the one looked for.
use Rattle.std.specs.Prelude.{◌≡◌, ℕ, ◌≤◌, length, map, reverse, Bool, true, false, ◌==◌, List, [], ◌∷◌, Option, Some, None, if◌then◌else◌}
use Rattle.c_model.specs.Control.{Todo, Target, to_label, to_case, to_default, same_int, goes_into_switch, find}
use Rattle.run_control.specs.declared.statement.Statement.{Statement}
use Rattle.run_control.specs.declared.links.Link.{Link}
use Rattle.run_control.specs.declared.targets.Found.{Found}
use Rattle.run_control.specs.View.{Meaning, stmt_of}
use Rattle.run_control.specs.Links.{path}
use Rattle.run_control.specs.Targets.{Targets, seen, AllEqual, bodies}

abbrev pub is_target : Target → Target → Bool
is_target (to_label k) (to_label l) = k == l
is_target (to_case z) (to_case v) = same_int z v
is_target to_default to_default = true
is_target t u = false

abbrev pub looked : Target → Targets → Option Todo
looked t [] = None
looked t (u ∷ us) = if is_target t u.0 then Some u.1 else looked t us

-- each search among the targets finds what the model finds in the statement, where bodies are what they stand for
abbrev pub Finds : List Link → List Found → Statement → Bool → Type 0
Finds links found s labels = (m : Meaning) → AllEqual (bodies m s) → (t : Target) → goes_into_switch t ≡ labels
    → looked t (map (seen m links) found) ≡ find t (stmt_of m s)

abbrev pub Older : List Link → List Link → Type 0
Older links links' = (n : ℕ) → n ≤ length links → path (reverse links') n ≡ path (reverse links) n
