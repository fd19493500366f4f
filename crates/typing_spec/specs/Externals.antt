-- External definitions (6.9): objects of file scope, functions, and what the text of a unit makes known.
use Rattle.std.specs.Prelude.{ℕ, Bool, true, false, not, ◌&&◌, ◌||◌, if◌then◌else◌, List, [], ◌∷◌, slice_get, Option, Some, None, is_some}
use Rattle.c_ast.specs.declared.declaration.Base.TheBlock.{Ident, Pointer', Array', Function', Row_of-Declarator, end_of-Declarator}
use Rattle.c_ast.specs.declared.declaration.Base.TheBlock.{more_of-Declarator, Row_of-Param, end_of-Param, more_of-Param}
use Rattle.c_ast.specs.declared.declaration.Declaration.{Declaration}
use Rattle.c_ast.specs.declared.declaration.Declarator.{Declarator}
use Rattle.c_ast.specs.declared.declaration.Init.{Init}
use Rattle.c_ast.specs.declared.declaration.Part.{Part as InitDeclarator}
use Rattle.c_ast.specs.declared.declaration.Specs.{Specs}
use Rattle.c_ast.specs.declared.statement.Entry.{Entry}
use Rattle.c_ast.specs.declared.statement.UnitEntry.{UnitEntry}
use Rattle.c_ast.specs.declared.statement.UnitEntry.TheVariants as unit
use Rattle.c_grammar.specs.Grammar.{name_of, is_own_name}
use Rattle.c_types.specs.declared.kind.IntKind.TheVariants.{Char, Int}
use Rattle.c_types.specs.Types.{CType, Params, none as no_parameter, more as parameter_then, int, pointer, Qualified, Signature}
use Rattle.c_types.specs.Same.{same}
use Rattle.typing_env.specs.Seen.{Statement, compound, SeenTag}
use Rattle.typing_words.specs.Tags.{is_complete}
use Rattle.typing_env.specs.Env.{Typing, ◌>>=◌, ◌>>◌, pure, known, knowing, found, holds, Object, Routine, Task, no_task, spelling}
use Rattle.typing_env.specs.Names.{scoped, with_prototype, Given, by_static, by_file_scope, as_extern, declare_object, declare_function}
use Rattle.typing_env.specs.Names.{define_object, complete_object, give_initial, object_named, changing_function}
use Rattle.typing_words.specs.Words.{Storage, no_storage, externs, statics, autos, registers, Words, is_void, is_so}
use Rattle.typing_spec.specs.Expressions.{specified, declared, assertion}
use Rattle.typing_spec.specs.Initializers.{initialized, static_constants}
use Rattle.typing_spec.specs.Statements.{function_in, is_uninitialized, typedef_name, is_typedef, is_main_name, may_say_function}
use Rattle.typing_spec.specs.Statements.{specifiers, body_items, block_of, end_block, labels_defined, with_task}

-- 1. Objects of file scope (6.9.2).

-- `auto` and `register` don't stand there (6.9p2)
abbrev pub linkage_given : Storage → Option Given
linkage_given no_storage = Some by_file_scope
linkage_given statics = Some by_static
linkage_given externs = Some as_extern
linkage_given _ = None

abbrev pub is_extern : Storage → Bool
is_extern externs = true
is_extern _ = false

abbrev pub is_static : Storage → Bool
is_static statics = true
is_static _ = false

abbrev pub qual_of_object : Option Object → Option Qualified
qual_of_object None = None
qual_of_object (Some o) = Some o.qual

-- Without initializer and `extern` the definition is tentative (6.9.2p2); with internal linkage its type is complete (6.9.2p3).
unfoldable pub tentative : ℕ → ℕ → Storage → Typing (Unit {0})
tentative at name storage = do
  env ← known
  q ← found (qual_of_object (object_named name env.objects))
  holds (not (is_static storage) || is_complete env.tags q.ty)
  if is_extern storage then pure tt else define_object name at

-- with an initializer it is a definition (6.9.2p1), of the type that the identifier has there (6.2.7p4)
unfoldable pub defined : ℕ → ℕ → Init → Typing (Unit {0})
defined at name i = do
  define_object name at
  env ← known
  q ← found (qual_of_object (object_named name env.objects))
  x ← initialized true q i
  give_initial name (static_constants x.initial)
  complete_object at name x.qual

abbrev pub defined_by : ℕ → ℕ → Storage → Option Init → Typing (Unit {0})
defined_by at name class None = tentative at name class
defined_by at name class (Some i) = defined at name i

unfoldable pub file_object : ℕ → Words → Qualified → Option Init → Typing (Unit {0})
file_object at ws q i = do
  given ← found (linkage_given ws.storage)
  holds (not ws.is_function)
  name ← declare_object at q given
  defined_by at name ws.storage i

-- 2. Functions.

-- a function without storage class is declared as with `extern` (6.2.2p5)
abbrev pub function_linkage : Storage → Option Given
function_linkage no_storage = Some as_extern
function_linkage externs = Some as_extern
function_linkage statics = Some by_static
function_linkage _ = None

abbrev pub arguments_type : CType
arguments_type = pointer false (pointer false (int Char))

abbrev pub are_main_params : Params → Bool
are_main_params no_parameter = true
are_main_params (parameter_then c count (parameter_then d vector no_parameter)) = same count (int Int) && same vector arguments_type
are_main_params _ = false

-- `int main(void)` or `int main(int, char **)` (5.1.2.2.1p1)
abbrev pub is_main_type : Signature → Bool
is_main_type f = same f.result (int Int) && (not f.variadic && are_main_params f.params)

abbrev pub may_be_declared : Words → Signature → List ℕ → Bool
may_be_declared ws f name = may_say_function ws name && (not (is_main_name name) || is_main_type f)

unfoldable pub file_function : ℕ → Words → Signature → Typing ℕ
file_function at ws f = do
  given ← found (function_linkage ws.storage)
  env ← known
  holds (may_be_declared ws f (spelling env at))
  declare_function at f given

-- 3. Declarations of file scope.

unfoldable pub file_identifier : ℕ → Words → Qualified → Option Signature → Option Init → Typing (Unit {0})
file_identifier at ws q None i = file_object at ws q i
file_identifier at ws q (Some f) i = do
  holds (is_uninitialized i)
  file_function at ws f
  pure tt

unfoldable pub file_declarator : Words → Qualified → InitDeclarator → Typing (Unit {0})
file_declarator ws base p = do
  q ← declared base p.declarator
  at ← found (name_of p.declarator)
  if is_typedef ws.storage then typedef_name at ws q p.init else file_identifier at ws q (function_in q.ty) p.init

unfoldable pub file_declarators : Words → Qualified → List InitDeclarator → Typing (Unit {0})
file_declarators ws base [] = pure tt
file_declarators ws base (p ∷ ps) = do
  file_declarator ws base p
  file_declarators ws base ps

abbrev pub may_stand_outside : Storage → Bool
may_stand_outside autos = false
may_stand_outside registers = false
may_stand_outside _ = true

unfoldable pub file_declaration : Declaration → Typing (Unit {0})
file_declaration d = do
  s ← specifiers d
  holds (may_stand_outside (s.words).storage)
  file_declarators s.words s.qual d.parts

-- 4. Function definitions (6.9.1).

abbrev pub are_named : {n : _} → Row_of-Param n → Bool
are_named end_of-Param = true
are_named (more_of-Param words base d rest) = is_some (name_of d) && are_named rest

abbrev mutual
  -- whether the parameters of the function are named that the declarator declares; none where it declares none by its own form
  -- (6.9.1p2)
  pub own_named : Declarator → Option Bool
  own_named (Ident n) = None
  own_named (Pointer' words l d) = own_named_in d
  own_named (Array' l d size) = own_named_in d
  own_named (Function' l d m ps variadic) = if is_own_name d then Some (are_named ps) else own_named_in d

  pub own_named_in : {n : _} → Row_of-Declarator n → Option Bool
  own_named_in end_of-Declarator = None
  own_named_in (more_of-Declarator d rest) = own_named d

abbrev pub are_no_params : Params → Bool
are_no_params no_parameter = true
are_no_params _ = false

abbrev pub are_complete : List SeenTag → Params → Bool
are_complete tags no_parameter = true
are_complete tags (parameter_then c t ps) = is_complete tags t && are_complete tags ps

-- the parameters have names (6.9.1p5) and complete types (6.7.6.3p4), it returns `void` or a complete type (6.9.1p3), and it has no
-- ellipsis (own)
abbrev pub may_be_defined : List SeenTag → Signature → Bool → Bool
may_be_defined tags f named =
    (are_no_params f.params || named) && (are_complete tags f.params && (not f.variadic && (is_void f.result || is_complete tags f.result)))

-- it is no library function and is defined once (6.9p3, 6.9p5, 7.1.3p2)
abbrev pub is_open : Routine → Bool
is_open r = not (is_some r.library) && not r.defined

abbrev pub objects_of : Params → List Qualified
objects_of no_parameter = []
objects_of (parameter_then c t ps) = record { constant = c; ty = t } ∷ objects_of ps

-- the body block has the parameters as its first objects (6.9.1p9)
abbrev pub task_of : Signature → Task
task_of f = record no_task { result = f.result; blocks = 1; open_blocks = record { number = 0; objects = objects_of f.params } ∷ [] }

abbrev pub begun : Signature → Routine → Routine
begun f r = record r { signature = f; defined = true }

-- the body: a scope in which the parameters are declared (6.2.1p4)
unfoldable pub body_of : Signature → List Entry → Typing Statement
body_of f items = scoped (do
  with_prototype
  knowing (with_task (λ t. task_of f))
  g ← body_items items
  env ← known
  holds (labels_defined env.task)
  b ← end_block
  pure (compound (block_of b g)))

unfoldable pub function_definition : Specs → Declarator → List Entry → Typing (Unit {0})
function_definition specs d items = do
  s ← specified specs.words specs.base false
  q ← declared s.qual d
  at ← found (name_of d)
  named ← found (own_named d)
  f ← found (function_in q.ty)
  env ← known
  holds (may_be_defined env.tags f named)
  number ← file_function at s.words f
  with ← known
  holds (is_so is_open (slice_get with.functions number))
  knowing (changing_function number (begun f))
  body ← body_of f items
  knowing (changing_function number (λ r. record r { body = Some body }))

-- 5. Translation units (6.9).

unfoldable pub external : UnitEntry → Typing (Unit {0})
external (unit.Function specs d items) = function_definition specs d items
external (unit.Declaration d) = file_declaration d
external (unit.Assertion e message) = assertion e message
external unit.Empty = pure tt

unfoldable pub externals : List UnitEntry → Typing (Unit {0})
externals [] = pure tt
externals (e ∷ es) = do
  external e
  externals es
