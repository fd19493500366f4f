-- A typed program, with the arguments of a run, as the program that the definitions of runs are about.
use Rattle.std.specs.Prelude.{ℕ, ◌+◌, Bool, true, false, List, [], ◌∷◌, ◌++◌, length, map, Option, Some, None, pos, slice_get}
use Rattle.ub_base.specs.declared.names.ObjName.TheVariants as object
use Rattle.c_types.specs.declared.tags.Tag.{Tag}
use Rattle.ub_base.specs.Frames.{Path}
use Rattle.addr_map.specs.declared.map.Row.{Row}
use Rattle.c_types.specs.Same.{compatible}
use Rattle.c_types.specs.Types.{CType, void, function, Params, none, more, Signature, signature_of}
use Rattle.c_typed.specs.declared.program.Function.{Function}
use Rattle.c_typed.specs.declared.program.Program.{Program}
use Rattle.c_model.specs.Program as model
use Rattle.c_model.specs.Program.{Standing}
use Rattle.c_model.specs.Values.{Value, Int}
use Rattle.c_model.specs.World.{World, Limits}
use Rattle.c_model.specs.Libraries.{library}
use Rattle.c_model.specs.Steps.{pointer_to}
use Rattle.program_view.specs.Objects.{statics_from, literals_from, given_to_main}
use Rattle.program_view.specs.Statements.{definition}

abbrev pub type_by : Signature → CType
type_by f = function f.result f.params f.variadic

abbrev pub is_void : CType → Bool
is_void void = true
is_void ty = false

abbrev pub function_of : List Tag → Function → model.Function
function_of tags f = record {
  ty = type_by (signature_of f.ty);
  void = is_void (signature_of f.ty).result;
  library = f.library;
  body = definition tags f.body;
}

abbrev pub has_parameters : Params → Bool
has_parameters none = false
has_parameters (more constant ty params) = true

abbrev pub has_parameters_in : Option Function → Bool
has_parameters_in None = false
has_parameters_in (Some f) = has_parameters (signature_of f.ty).params

-- whether `main` takes the arguments (5.1.2.2.1p1)
abbrev pub takes_arguments : Program → Bool
takes_arguments p = has_parameters_in (slice_get p.functions p.main)

-- The objects with static storage, then the literals, then what stands for the arguments: so they are created, and then filled.
abbrev pub standing_of : Program → List (List ℕ) → List Standing
standing_of p arguments = statics_from p.tags 0 p.statics ++ (literals_from 0 p.literals ++ given_to_main (takes_arguments p) arguments)

-- the model's program of a run with these arguments, each as its bytes
abbrev pub model_of : Program → List (List ℕ) → model.Program
model_of p arguments = record { functions = map (function_of p.tags) p.functions; main = p.main; standing = standing_of p arguments }

-- The world of such a run: calls ask whether function types are compatible (6.5.2.2p9), and the library is that of libc_spec. Where the objects
-- stand, how frames are numbered and what limits there are is left open.
abbrev pub world_of : Program → List (List ℕ) → List Row → (Path → ℕ) → Limits → World
world_of p arguments rows number limits = record {
  program = model_of p arguments;
  rows = rows;
  agree = compatible;
  library = library rows;
  number = number;
  limits = limits;
}

-- what `main` is called with (5.1.2.2.1p2): how many strings there are, and a pointer to the array of pointers to them
abbrev pub passed_to : Bool → World → List (List ℕ) → List Value
passed_to true world arguments = Int (pos (length arguments + 1)) ∷ pointer_to world object.Argv ∷ []
passed_to false world arguments = []

abbrev pub main_values : Program → World → List (List ℕ) → List Value
main_values p world arguments = passed_to (takes_arguments p) world arguments
