-- Statements and declarations in blocks (6.7, 6.8).
use Rattle.std.specs.Prelude.{ℕ, zero, suc, ◌+◌, ◌==◌, nat_lt, Bool, true, false, not, ◌&&◌, ◌||◌, if◌then◌else◌, ℤ, ◌-ℤ◌, unsigned_abs}
use Rattle.std.specs.Prelude.{codes, List, [], ◌∷◌, ◌++◌, length, Option, Some, None, is_some}
use Rattle.std.specs.Str.{bytes_eq}
use Rattle.c_ast.specs.declared.declaration.Declaration.{Declaration}
use Rattle.c_ast.specs.declared.declaration.Part.{Part as InitDeclarator}
use Rattle.c_ast.specs.declared.declaration.Init.{Init}
use Rattle.c_ast.specs.declared.expression.Expr.{Expr}
use Rattle.c_ast.specs.declared.statement.ForInit.{ForInit}
use Rattle.c_ast.specs.declared.statement.ForInit.TheVariants as for_init
use Rattle.c_ast.specs.declared.statement.Stmt.{Stmt}
use Rattle.c_ast.specs.declared.statement.Entry.{Entry}
use Rattle.c_ast.specs.declared.statement.Entry.TheBlock as s
use Rattle.c_grammar.specs.Grammar.{name_of}
use Rattle.c_arith.specs.Operators.{conv}
use Rattle.c_types.specs.declared.kind.IntKind.{IntKind}
use Rattle.c_types.specs.Types.{CType, function, Qualified, Signature}
use Rattle.c_typed.specs.declared.tree.Slot.{Slot}
use Rattle.c_typed.specs.declared.tree.Slot.TheVariants as slot
use Rattle.type_operands.specs.Terms.{Term}
use Rattle.type_operands.specs.Conversions.{value, promoted, discarded, Integer}
use Rattle.type_conversions.specs.Casts.{truth}
use Rattle.type_conversions.specs.Assigned.{as_if_assigned}
use Rattle.typing_env.specs.Seen.{Statement, Otherwise, Start, Section, Entries, expressed, compound, chooses, switches, while_loop}
use Rattle.typing_env.specs.Seen.{do_loop, for_loop, goes_to, continues, breaks, returns, labelled, case_of, by_default, nothing}
use Rattle.typing_env.specs.Seen.{else_does, no_start, start_value, start_block, section, end, statement, initializes, declares}
use Rattle.typing_words.specs.Tags.{layouts_of, is_complete}
use Rattle.typing_env.specs.Env.{Env, Typing, ◌>>=◌, ◌>>◌, pure, refuse, known, knowing, found, holds, an_object, Task, OpenBlock}
use Rattle.typing_env.specs.Env.{OpenSwitch, symbol_of, spelling}
use Rattle.typing_env.specs.Names.{scoped, declare, declare_typedef, renamed, as_extern, declare_object, declare_function, with_object}
use Rattle.typing_env.specs.Names.{new_object, give_initial, define_object, complete_object}
use Rattle.typing_env.specs.Tasks.{open_block, close_block, innermost, tail, another_object, retyped_task}
use Rattle.typing_words.specs.Words.{Storage, no_storage, typedefs, externs, statics, autos, registers, Words, declares_alone, defines_type, is_void}
use Rattle.typing_spec.specs.Expressions.{Specified, specified, declared, expr, constant, assertion}
use Rattle.typing_spec.specs.Initializers.{initialized, automatic, static_constants}

-- 1. The function whose body is read.

abbrev pub with_task : (Task → Task) → Env → Env
with_task f env = record env { task = f env.task }

-- begins a block: blocks are numbered in the order in which they begin (own)
unfoldable pub begin_block : Typing (Unit {0})
begin_block = knowing (with_task open_block)

-- ends it; what it is
unfoldable pub end_block : Typing OpenBlock
end_block = do
  env ← known
  knowing (with_task close_block)
  pure (innermost (env.task).open_blocks)

-- 2. Declarations in a block (6.7).

abbrev pub function_in : CType → Option Signature
function_in (function result params variadic) = Some (record { result = result; params = params; variadic = variadic })
function_in _ = None

-- a typedef name, a function, and an `extern` object of block scope have no initializer (6.7.9p3, 6.7.9p5)
abbrev pub is_uninitialized : Option Init → Bool
is_uninitialized i = not (is_some i)

-- the entries that a declarator adds to its block
abbrev pub Added : Type 0
Added = Entries → Entries

abbrev pub nothing_added : Added
nothing_added es = es

-- an object of automatic storage duration is in scope in its own initializer (6.2.1p7, 6.2.4p5)
unfoldable pub automatic_with : ℕ → Slot → ℕ → Bool → Qualified → Option Init → Typing Added
automatic_with at where_ decl register q None = do
  env ← known
  holds (is_complete env.tags q.ty)
  pure (declares decl)
automatic_with at where_ decl register q (Some i) = do
  x ← initialized false q i
  tree ← automatic where_ x
  knowing (with_task (retyped_task decl x.qual))
  env ← known
  knowing (renamed (symbol_of env at) (an_object where_ x.qual register))
  pure (initializes tree)

unfoldable pub automatic_object : ℕ → Bool → Qualified → Option Init → Typing Added
automatic_object at register q i = do
  env ← known
  let b : OpenBlock = innermost (env.task).open_blocks in
      let object : Slot = slot.Auto b.number (length b.objects) in (do
        knowing (with_task (another_object q))
        declare at (an_object object q register)
        automatic_with at object (length b.objects) register q i)

unfoldable pub static_with : ℕ → Qualified → Option Init → Typing (Unit {0})
static_with at q None = do
  env ← known
  holds (is_complete env.tags q.ty)
static_with at q (Some i) = do
  x ← initialized true q i
  give_initial at (static_constants x.initial)
  complete_object at at x.qual

-- an object of block scope with static storage duration has no linkage (6.2.2p6, 6.2.4p3); it is named by its own token
unfoldable pub static_object : ℕ → Qualified → Option Init → Typing Added
static_object at q i = do
  knowing (with_object (new_object at q))
  define_object at at
  declare at (an_object (slot.Static at) q false)
  static_with at q i
  pure nothing_added

-- a function in a block has no storage class but `extern` (6.7.1p7)
abbrev pub may_be_function : Storage → Bool
may_be_function no_storage = true
may_be_function externs = true
may_be_function _ = false

abbrev pub is_main_name : List ℕ → Bool
is_main_name name = bytes_eq name (codes "main")

-- no function specifier stands in a declaration of `main` (6.7.4p4)
abbrev pub may_say_function : Words → List ℕ → Bool
may_say_function ws name = not (ws.is_function && is_main_name name)

unfoldable pub block_function : ℕ → Words → Signature → Option Init → Typing Added
block_function at ws f i = do
  env ← known
  holds (is_uninitialized i && (may_be_function ws.storage && may_say_function ws (spelling env at)))
  declare_function at f as_extern
  pure nothing_added

unfoldable pub extern_object : ℕ → Qualified → Option Init → Typing Added
extern_object at q i = do
  holds (is_uninitialized i)
  declare_object at q as_extern
  pure nothing_added

-- an object of block scope by its storage class
abbrev pub block_object : ℕ → Storage → Qualified → Option Init → Typing Added
block_object at externs q i = extern_object at q i
block_object at statics q i = static_object at q i
block_object at registers q i = automatic_object at true q i
block_object at typedefs q i = refuse
block_object at _ q i = automatic_object at false q i

-- a function specifier stands only in the declaration of a function (6.7.4p2)
unfoldable pub block_identifier : ℕ → Words → Qualified → Option Signature → Option Init → Typing Added
block_identifier at ws q (Some f) i = block_function at ws f i
block_identifier at ws q None i = do
  holds (not ws.is_function)
  block_object at ws.storage q i

unfoldable pub typedef_name : ℕ → Words → Qualified → Option Init → Typing (Unit {0})
typedef_name at ws q i = do
  holds (is_uninitialized i && not ws.is_function)
  declare_typedef at q

abbrev pub is_typedef : Storage → Bool
is_typedef typedefs = true
is_typedef _ = false

unfoldable pub block_declarator : Words → Qualified → InitDeclarator → Typing Added
block_declarator ws base p = do
  q ← declared base p.declarator
  at ← found (name_of p.declarator)
  if is_typedef ws.storage then (typedef_name at ws q p.init >> pure nothing_added)
      else block_identifier at ws q (function_in q.ty) p.init

abbrev pub both : Added → Added → Added
both f g es = f (g es)

unfoldable pub block_declarators : Words → Qualified → List InitDeclarator → Typing Added
block_declarators ws base [] = pure nothing_added
block_declarators ws base (p ∷ ps) = do
  f ← block_declarator ws base p
  g ← block_declarators ws base ps
  pure (both f g)

abbrev pub is_none : {A : Type 0} → List A → Bool
is_none [] = true
is_none (x ∷ xs) = false

-- the specifiers of a declaration; alone they declare a tag or enumeration constants (6.7p2), and no function (6.7.4p2)
unfoldable pub specifiers : Declaration → Typing Specified
specifiers d = do
  s ← specified (d.specs).words (d.specs).base (is_none d.parts)
  holds (not (is_none d.parts) || (declares_alone (d.specs).base && not (s.words).is_function))
  pure s

-- a declaration in a block (6.8.2)
unfoldable pub block_declaration : Declaration → Typing Added
block_declaration d = do
  s ← specifiers d
  block_declarators s.words s.qual d.parts

abbrev pub is_automatic : Storage → Bool
is_automatic no_storage = true
is_automatic autos = true
is_automatic registers = true
is_automatic _ = false

abbrev pub is_object : Qualified → Bool
is_object q = not (is_some (function_in q.ty))

unfoldable pub loop_declarators : Words → Qualified → List InitDeclarator → Typing Added
loop_declarators ws base [] = pure nothing_added
loop_declarators ws base (p ∷ ps) = do
  q ← declared base p.declarator
  at ← found (name_of p.declarator)
  holds (is_object q && not ws.is_function)
  f ← block_object at ws.storage q p.init
  g ← loop_declarators ws base ps
  pure (both f g)

-- the declaration in front of a `for`: of automatic objects alone (6.8.5p3); it defines no type (own)
unfoldable pub loop_declaration : Declaration → Typing Added
loop_declaration d = do
  s ← specifiers d
  holds (is_automatic (s.words).storage && (not (is_none d.parts) && not (defines_type (d.specs).base)))
  loop_declarators s.words s.qual d.parts

-- 3. Full expressions (6.8p4).

-- its value isn't used (6.8.3p2)
unfoldable pub unused : Expr → Typing Term
unused e = do
  x ← expr e
  env ← known
  found (discarded (layouts_of env.tags) x)

unfoldable pub unused_part : Option Expr → Typing (Option Term)
unused_part None = pure None
unused_part (Some e) = do
  t ← unused e
  pure (Some t)

-- a controlling expression, of scalar type (6.8.4.1p1, 6.8.5p2)
unfoldable pub tested : Expr → Typing Term
tested e = do
  x ← expr e
  env ← known
  found (truth (layouts_of env.tags) x)

unfoldable pub tested_part : Option Expr → Typing (Option Term)
tested_part None = pure None
tested_part (Some e) = do
  t ← tested e
  pure (Some t)

-- that of a `switch`, promoted, of integer type (6.8.4.2p1, 6.8.4.2p5)
unfoldable pub selecting : Expr → Typing Integer
selecting e = do
  x ← expr e
  env ← known
  t ← found (value (layouts_of env.tags) x)
  found (promoted t)

-- `return` has an expression exactly where the function returns a value (6.8.6.4p1)
unfoldable pub returned : Option Expr → Typing (Option Term)
returned None = do
  env ← known
  holds (is_void (env.task).result)
  pure None
returned (Some e) = do
  env ← known
  holds (not (is_void (env.task).result))
  x ← expr e
  after ← known
  t ← found (as_if_assigned (layouts_of after.tags) (env.task).result x)
  pure (Some t)

-- 4. Labels and jumps (6.8.1, 6.8.4.2, 6.8.6).

abbrev pub has_number : ℕ → List ℕ → Bool
has_number n [] = false
has_number n (m ∷ ms) = (m == n) || has_number n ms

abbrev pub place_of : ℕ → ℕ → List ℕ → ℕ
place_of n i [] = i
place_of n i (m ∷ ms) = if m == n then i else place_of n (i + 1) ms

abbrev pub label_named : ℕ → Task → Task
label_named symbol t = if has_number symbol t.labels then t else record t { labels = t.labels ++ symbol ∷ [] }

-- labels are numbered in the order in which the text names them first (own)
unfoldable pub label : ℕ → Typing ℕ
label at = do
  env ← known
  knowing (with_task (label_named (symbol_of env at)))
  pure (place_of (symbol_of env at) 0 (env.task).labels)

-- a label is defined once in its function (6.8.1p3)
unfoldable pub define_label : ℕ → Typing ℕ
define_label at = do
  n ← label at
  env ← known
  holds (not (has_number (symbol_of env at) (env.task).defined))
  knowing (with_task (λ t. record t { defined = t.defined ++ symbol_of env at ∷ [] }))
  pure n

abbrev pub all_in : List ℕ → List ℕ → Bool
all_in [] ms = true
all_in (n ∷ ns) ms = has_number n ms && all_in ns ms

-- each label that a `goto` names is defined (6.8.6.1p1)
abbrev pub labels_defined : Task → Bool
labels_defined t = all_in t.labels t.defined

abbrev pub has_value : ℤ → List ℤ → Bool
has_value z [] = false
has_value z (y ∷ ys) = (unsigned_abs (y -ℤ z) == 0) || has_value z ys

abbrev pub with_case : ℤ → OpenSwitch → OpenSwitch
with_case z o = record o { cases = z ∷ o.cases }

abbrev pub with_default : OpenSwitch → OpenSwitch
with_default o = record o { has_default = true }

abbrev pub with_open : (OpenSwitch → OpenSwitch) → List OpenSwitch → List OpenSwitch
with_open f [] = []
with_open f (o ∷ os) = f o ∷ os

abbrev pub head : {A : Type 0} → List A → Option A
head [] = None
head (x ∷ xs) = Some x

-- the value of a `case` in the promoted type; no other label of the `switch` has it (6.8.1p2, 6.8.4.2p3, 6.8.4.2p5)
unfoldable pub case_label : Expr → Typing ℤ
case_label e = do
  z ← constant e
  env ← known
  o ← found (head (env.task).switches)
  holds (not (has_value (conv o.kind z) o.cases))
  knowing (with_task (λ t. record t { switches = with_open (with_case (conv o.kind z)) t.switches }))
  pure (conv o.kind z)

-- one `default` at most (6.8.1p2, 6.8.4.2p3)
unfoldable pub default_label : Typing (Unit {0})
default_label = do
  env ← known
  o ← found (head (env.task).switches)
  holds (not o.has_default)
  knowing (with_task (λ t. record t { switches = with_open with_default t.switches }))

abbrev pub one_less : ℕ → ℕ
one_less zero = zero
one_less (suc n) = n

-- the body of a loop: `break` and `continue` may stand in it (6.8.6.2p1, 6.8.6.3p1)
unfoldable pub in_loop : {A : Type 0} → Typing A → Typing A
in_loop p = do
  knowing (with_task (λ t. record t { loops = t.loops + 1; breakable = t.breakable + 1 }))
  a ← p
  knowing (with_task (λ t. record t { loops = one_less t.loops; breakable = one_less t.breakable }))
  pure a

unfoldable pub in_switch : {A : Type 0} → IntKind → Typing A → Typing A
in_switch kind p = do
  knowing (with_task (λ t. record t { switches = record { kind = kind; cases = []; has_default = false } ∷ t.switches; breakable = t.breakable + 1 }))
  a ← p
  knowing (with_task (λ t. record t { switches = tail t.switches; breakable = one_less t.breakable }))
  pure a

-- 5. Statements.

-- the first part of a `for` before its end; a declaration begins a block (6.8.5.3p1)
pub data Begun : Type 0 where
  none_begun : Begun
  value_begun : Term → Begun
  block_begun : Added → Begun

unfoldable pub loop_begun : ForInit → Typing Begun
loop_begun for_init.Empty = pure none_begun
loop_begun (for_init.Value e) = do
  t ← unused e
  pure (value_begun t)
loop_begun (for_init.Declared d) = do
  begin_block
  f ← loop_declaration d
  pure (block_begun f)

abbrev pub block_of : OpenBlock → Added → Section
block_of b f = section b.number b.objects (f end)

unfoldable pub loop_ended : Begun → Typing Start
loop_ended none_begun = pure no_start
loop_ended (value_begun t) = pure (start_value t)
loop_ended (block_begun f) = do
  b ← end_block
  pure (start_block (block_of b f))

unfoldable mutual
  pub statement_of : Stmt → Typing Statement
  statement_of (s.Simple e) = do
    t ← unused_part e
    pure (expressed t)
  -- a block is a scope (6.8.2)
  statement_of (s.Block' l items) = scoped (do
    begin_block
    f ← items_of items
    b ← end_block
    pure (compound (block_of b f)))
  -- a selection or iteration statement is a scope, and so is each statement in it (6.8.4p3, 6.8.5p5)
  statement_of (s.If' e l body other) = scoped (do
    test ← tested e
    first ← scoped (one body)
    second ← otherwise other
    pure (chooses test first second))
  statement_of (s.Switch' e l body) = scoped (do
    i ← selecting e
    inner ← in_switch i.kind (scoped (one body))
    pure (switches i.term inner))
  statement_of (s.While' e l body) = scoped (do
    test ← tested e
    inner ← in_loop (scoped (one body))
    pure (while_loop test inner))
  statement_of (s.Do' l body e) = scoped (do
    inner ← in_loop (scoped (one body))
    test ← tested e
    pure (do_loop inner test))
  statement_of (s.For' i test step l body) = scoped (do
    start ← loop_begun i
    t ← tested_part test
    each ← unused_part step
    inner ← in_loop (scoped (one body))
    first ← loop_ended start
    pure (for_loop first t each inner))
  statement_of (s.Goto at) = do
    n ← label at
    pure (goes_to n)
  statement_of (s.Continue at) = do
    env ← known
    holds (nat_lt 0 (env.task).loops)
    pure continues
  statement_of (s.Break at) = do
    env ← known
    holds (nat_lt 0 (env.task).breakable)
    pure breaks
  statement_of (s.Return at e) = do
    t ← returned e
    pure (returns t)
  statement_of (s.Label' at l body) = do
    n ← define_label at
    inner ← one body
    pure (labelled n inner)
  statement_of (s.Case' at e l body) = do
    z ← case_label e
    inner ← one body
    pure (case_of z inner)
  statement_of (s.Default' at l body) = do
    default_label
    inner ← one body
    pure (by_default inner)

  -- the one statement of a row
  pub one : {n : _} → s.Row_of-Stmt n → Typing Statement
  one s.end_of-Stmt = refuse
  one (s.more_of-Stmt a rest) = statement_of a

  pub otherwise : s.Held-Stmt-If-2 → Typing Otherwise
  otherwise s.None' = pure nothing
  otherwise (s.Some' l body) = do
    second ← scoped (one body)
    pure (else_does second)

  -- the items of a block, in their order (6.8.2)
  pub items_of : {n : _} → s.Row_of-Entry n → Typing Added
  items_of s.end_of-Entry = pure nothing_added
  items_of (s.more_of-Entry a rest) = do
    f ← item a
    g ← items_of rest
    pure (both f g)

  pub item : Entry → Typing Added
  item (s.Statement a) = do
    inner ← statement_of a
    pure (statement inner)
  item (s.Declaration d) = block_declaration d
  item (s.Assertion e message) = do
    assertion e message
    pure nothing_added

-- the items of a function's body
unfoldable pub body_items : List Entry → Typing Added
body_items [] = pure nothing_added
body_items (a ∷ rest) = do
  f ← item a
  g ← body_items rest
  pure (both f g)
