-- The library's rows: names in parts, parameters one after the other.
use Rattle.std.proofs.Common.{◌≡◌, ℕ, List, [], ◌∷◌, ◌++◌, map, refl, ap, ◌∙◌, Bool, true, false}
use Rattle.std.specs.Prelude.{Option, Some, if◌then◌else◌}
use Rattle.std.specs.Str.{bytes_eq}
use Rattle.c_types.specs.Types.{more, params_of}
use Rattle.c_types.specs.declared.library.LibFunc.{LibFunc}
use Rattle.c_typed.specs.Lawful.{taking}
use Rattle.type_name_space.specs.Scopes.{or_else}
use Rattle.typing_env.specs.Names.{library_in}
use Rattle.type_linkage.specs.declared.library.Simple.{Simple}
use Rattle.type_linkage.specs.Library.{simple_type, parameter_of}

first_row : (t : Bool) (l : LibFunc) (found rest : Option LibFunc)
    → (if t then Some l else or_else found rest) ≡ or_else (if t then Some l else found) rest
first_row true l found rest = refl
first_row false l found rest = refl

-- a name is found in the first part that has it
pub library_in-append : (name : List ℕ) (ls ms : List (List ℕ × LibFunc)) → library_in name (ls ++ ms) ≡ or_else (library_in name ls) (library_in name ms)
library_in-append name [] ms = refl
library_in-append name (l ∷ ls) ms =
    ap (λ o. if bytes_eq l.0 name then Some l.1 else o) (library_in-append name ls ms)
    ∙ first_row (bytes_eq l.0 name) l.1 (library_in name ls) (library_in name ms)

-- parameters without a qualifier
pub taking_is : (ss : List Simple) → params_of (map parameter_of ss) ≡ taking (map simple_type ss)
taking_is [] = refl
taking_is (s ∷ ss) = ap (more false (simple_type s)) (taking_is ss)
