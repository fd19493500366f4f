-- What the calls of library functions do in a run: the scripts of crate libc_spec, for the values of the run.
-- The limits on created bytes and on the output aren't in the scripts. A run looks at them behind each pick (`limited` of Runs), and at
-- the first one also where the object of an allocation has no row (`without_row` of Runs).
use Rattle.std.specs.Prelude.{ℕ, List, [], ◌∷◌, map, drop, Option, Some, None, if◌then◌else◌}
use Rattle.ub_base.specs.declared.names.Event.{Event}
use Rattle.c_types.specs.declared.library.LibFunc.{LibFunc}
use Rattle.c_types.specs.declared.library.LibFunc.TheVariants.{Printf, Fprintf, Sprintf, Snprintf}
use Rattle.c_types.specs.Types.{CType}
use Rattle.addr_map.specs.declared.map.Row.{Row}
use Rattle.mem_spec.specs.Script.{Script, Give, ◌>>=◌}
use Rattle.libc_spec.specs.Library as scripts
use Rattle.libc_spec.specs.Library.{LibValue, number, pointer, nothing, argument_at, integer_in, size_of_value, asked, is_given}
use Rattle.libc_spec.specs.Print.{Argument, printf}
use Rattle.libc_spec.specs.Formatted.{fprintf, sprintf}
use Rattle.c_model.specs.Values.{Value, Int, Ptr, Nothing}

-- the arguments of library functions are integers and pointers to objects; of a function pointer behind a format the type alone is used
abbrev pub passed : Value → LibValue
passed (Int z) = number z
passed (Ptr a prov) = pointer a prov
passed _ = nothing

abbrev pub result : LibValue → Value
result (number n) = Int n
result (pointer a prov) = Ptr a prov
result nothing = Nothing

abbrev pub typed : List CType → List LibValue → List Argument
typed (t ∷ ts) (v ∷ vs) = record { value = v; ty = t } ∷ typed ts vs
typed _ _ = []

-- the functions that take a format ask for the types of their arguments (7.21.6.1p9)
abbrev pub script : List Row → LibFunc → Event → List CType → List LibValue → Script LibValue
script rows Printf who ts vs = printf rows (argument_at vs 0) (drop 1 (typed ts vs))
script rows Fprintf who ts vs = fprintf rows (integer_in (argument_at vs 0)) (argument_at vs 1) (drop 2 (typed ts vs))
script rows Sprintf who ts vs = sprintf rows None (argument_at vs 0) (argument_at vs 1) (drop 2 (typed ts vs))
script rows Snprintf who ts vs =
    sprintf rows (Some (size_of_value (argument_at vs 1))) (argument_at vs 0) (argument_at vs 2) (drop 3 (typed ts vs))
script rows f who ts vs = scripts.library rows f vs who

abbrev pub library : List Row → LibFunc → Event → List CType → List Value → Script Value
library rows f who ts vs = script rows f who ts (map passed vs) >>= (λ v. Give (result v))

-- the bytes of the object that a call of the library allocates, 0 where it allocates none
abbrev pub allocated : Option LibFunc → List Value → ℕ
allocated None vs = 0
allocated (Some f) vs = if is_given (asked f (map passed vs)) then asked f (map passed vs) else 0
