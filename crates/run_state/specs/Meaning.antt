-- What a machine's program and code are to the definitions of runs.
use Rattle.std.specs.Prelude.{◌≡◌, ℕ, true, List, map, Option, Some, slice_get}
use Rattle.std.specs.List.{All}
use Rattle.addr_map.specs.declared.map.Row.{Row}
use Rattle.ub_base.specs.Frames.{Path}
use Rattle.c_typed.specs.Lawful.{ContentIsLawful}
use Rattle.c_typed.specs.declared.program.Program.{Program}
use Rattle.c_types.specs.Same.{compatible}
use Rattle.c_types.specs.Types.{CType, type_of}
use Rattle.c_typed.specs.declared.tree.Access.{Access}
use Rattle.c_typed.specs.declared.tree.Access.TheVariants as access
use Rattle.c_model.specs.Program.{Standing}
use Rattle.c_model.specs.World.{World, Limits}
use Rattle.c_model.specs.Libraries.{library}
use Rattle.c_model.specs.Steps.{body_of}
use Rattle.program_view.specs.Trees.{expr_of, is_pointer}
use Rattle.program_view.specs.View.{function_of, model_of, world_of}
use Rattle.run_control.specs.View.{Meaning, stmt_of}
use Rattle.run_control.specs.Targets.{AllEqual, bodies}
use Rattle.run_layout.specs.declared.whole.Code.{Code}
use Rattle.run_layout.specs.declared.steps.Expression.{Expression}
use Rattle.run_layout.specs.declared.steps.FunctionCode.{FunctionCode}

-- the world of a run with these arguments, in which these objects stand before the first pick
abbrev pub world_with : Program → List (List ℕ) → List Standing → List Row → (Path → ℕ) → Limits → World
world_with p arguments os rows number limits =
    record (world_of p arguments rows number limits) { program = record (model_of p arguments) { standing = os } }

-- the program is the world's, and calls and the library are those of every run
pub record StandsProgram (world : World) (p : Program) : Type 0 where
  pub functions : world.program.functions ≡ map (function_of p.tags) p.functions
  pub main : world.program.main ≡ p.main
  pub agree : world.agree ≡ compatible
  pub library : world.library ≡ library world.rows

-- a pointer is stored by its own type
abbrev pub AccessSuits : Access → CType → Type 0
AccessSuits access.Pointer ty = is_pointer ty ≡ true
AccessSuits access.Function ty = is_pointer ty ≡ true
AccessSuits _ ty = Unit {0}

-- What the numbers in the code stand for, in each function, and in an isolated initializer: a full expression's is the expression of its tree; the
-- body of a function is then the world's, and in it the number of each `switch` stands for the body that is there. A pointer is stored by a pointer
-- type, and the constants of initializer lists are those of a lawful program.
pub record StandsCode (world : World) (p : Program) (code : Code) (meaning : Option ℕ → Meaning) : Type 0 where
  pub root : (f : Option ℕ) (n : ℕ) (e : Expression) → slice_get code.expressions.items n ≡ Some e → (meaning f).root n ≡ expr_of e.root.now
  pub body : (n : ℕ) (c : FunctionCode) → slice_get code.functions.items n ≡ Some (Some c)
      → body_of world (Some n) ≡ Some (stmt_of (meaning (Some n)) c.body)
  pub switches : (n : ℕ) (c : FunctionCode) → slice_get code.functions.items n ≡ Some (Some c) → AllEqual (bodies (meaning (Some n)) c.body)
  pub stores : All (λ s. AccessSuits s.access (type_of s.ty.now)) code.tables.stores.items
  pub constants : All (λ cs. All (λ c. ContentIsLawful p c.content) cs.now) code.tables.constants.items
