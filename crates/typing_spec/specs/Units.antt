-- The typed program of a translation unit: what is known at its end, with its objects and literals numbered.
use Rattle.std.specs.Prelude.{◌≡◌, ℕ, ◌==◌, nat_le, Bool, true, false, ◌&&◌, ◌||◌, if◌then◌else◌, List, [], ◌∷◌, map, slice_get, Option, Some}
use Rattle.std.specs.Prelude.{None, Ok, Err, is_some}
use Rattle.c_lex.specs.TokenText.{TokenText}
use Rattle.c_lex.specs.Tokens.{Lexed, lexed}
use Rattle.c_ast.specs.declared.statement.Unit.{Unit as TheUnit}
use Rattle.parse_spec.specs.Units.{tree_of}
use Rattle.c_types.specs.Types.{CType, array}
use Rattle.c_typed.specs.declared.tree.Slot.{Slot}
use Rattle.c_typed.specs.declared.tree.Slot.TheVariants as slot
use Rattle.c_typed.specs.declared.tree.Target.{Target}
use Rattle.c_typed.specs.declared.tree.Target.TheVariants as target
use Rattle.c_typed.specs.declared.tree.Node.TheOpen as shape
use Rattle.c_typed.specs.declared.program.Content.{Content}
use Rattle.c_typed.specs.declared.program.Content.TheVariants as content
use Rattle.c_typed.specs.declared.program.Constant.{Constant}
use Rattle.c_typed.specs.declared.program.Program.{Program}
use Rattle.c_typed.specs.Sites.{Head}
use Rattle.c_typed.specs.Lawful.{IsLawful}
use Rattle.type_operands.specs.Terms.{Term, Terms, term, none, more}
use Rattle.type_name_space.specs.Scopes.{Declared}
use Rattle.typing_env.specs.Seen.{Statement, Otherwise, Start, Section, Entries, expressed, compound, chooses, switches, while_loop}
use Rattle.typing_env.specs.Seen.{do_loop, for_loop, goes_to, continues, breaks, returns, labelled, case_of, by_default, nothing}
use Rattle.typing_env.specs.Seen.{else_does, no_start, start_value, start_block, section, end, statement, initializes, declares}
use Rattle.typing_env.specs.Seen.{SeenFunction, SeenStatic, SeenTag, SeenProgram, program_seen, ordered}
use Rattle.typing_words.specs.Tags.{is_complete, size_of}
use Rattle.typing_env.specs.Env.{Env, Use, if_found, Object, Routine, Linked, start_of, spelling}
use Rattle.typing_env.specs.Names.{object_named, number_of_function}
use Rattle.typing_words.specs.Words.{is_so, count_of}
use Rattle.typing_spec.specs.Expressions.{literal_at}
use Rattle.typing_spec.specs.Statements.{place_of, is_main_name}
use Rattle.typing_spec.specs.Externals.{externals, is_main_type}

-- 1. Objects at the end (6.9.2p2).

-- a tentative definition of an array of unknown size is one of an array of one element (6.9.2p2, 6.9.2p5)
abbrev pub final_type : CType → CType
final_type (array c t None) = array c t (Some 1)
final_type t = t

abbrev pub or_nothing : Option (List Constant) → List Constant
or_nothing None = []
or_nothing (Some cs) = cs

-- an object by the token of its definition
abbrev pub stands_before : Object → Option ℕ → List (ℕ × Object) → List (ℕ × Object)
stands_before o None os = os
stands_before o (Some at) [] = (at, o) ∷ []
stands_before o (Some at) (p ∷ ps) = if nat_le at p.0 then (at, o) ∷ (p ∷ ps) else p ∷ stands_before o (Some at) ps

-- the objects that are defined, in the order of their first definitions
abbrev pub defined_in_order : List Object → List (ℕ × Object)
defined_in_order [] = []
defined_in_order (o ∷ os) = stands_before o o.defined (defined_in_order os)

abbrev pub name_of : ℕ × Object → ℕ
name_of p = (p.1).name

abbrev pub is_complete_object : List SeenTag → ℕ × Object → Bool
is_complete_object tags p = is_complete tags (final_type ((p.1).qual).ty)

abbrev pub all_hold : {A : Type 0} → (A → Bool) → List A → Bool
all_hold f [] = true
all_hold f (x ∷ xs) = f x && all_hold f xs

-- 2. Uses (6.9p3, 6.9p5): what is used in an expression that is evaluated is defined, or the library's.

-- an array that is named by a size in a block has that size (6.2.7p2): that is one of its declarations at file scope, or 1 (6.9.2p5)
abbrev pub has_count : Option ℕ → Option ℕ → Bool
has_count None n = true
has_count (Some m) None = false
has_count (Some m) (Some n) = m == n

abbrev pub is_defined_object : Option ℕ → Object → Bool
is_defined_object count o = is_some o.defined && has_count count (count_of (final_type (o.qual).ty))

abbrev pub can_be_called : Routine → Bool
can_be_called r = is_some r.body || is_some r.library

abbrev pub is_provided_target : Env → Option ℕ → Target → Bool
is_provided_target env count (target.Static name) = is_so (is_defined_object count) (object_named name env.objects)
is_provided_target env count (target.Function number) = is_so can_be_called (slice_get env.functions number)
is_provided_target env count (target.Literal at) = true

abbrev pub is_provided : Env → Use → Bool
is_provided env u = is_provided_target env u.count u.target

-- an address constant names its object, or the place one past it (6.6p9, 6.5.6p8); of one that had no size yet that is known here
abbrev pub is_content_within : Env → Content → Bool
is_content_within env (content.Address (target.Static name) offset) =
    is_so (λ o. nat_le offset (size_of env.tags (final_type (o.qual).ty))) (object_named name env.objects)
is_content_within env _ = true

abbrev pub is_within : Env → Constant → Bool
is_within env c = is_content_within env c.content

abbrev pub are_within : Env → ℕ × Object → Bool
are_within env p = all_hold (is_within env) (or_nothing (p.1).initial)

-- 3. The literals that the program names, by their first tokens in order.

abbrev pub with_number : ℕ → List ℕ → List ℕ
with_number n [] = n ∷ []
with_number n (m ∷ ms) = if n == m then m ∷ ms else if nat_le n m then n ∷ m ∷ ms else m ∷ with_number n ms

abbrev pub literal_head : Head → List ℕ → List ℕ
literal_head (shape.Str at) ls = with_number at ls
literal_head head ls = ls

abbrev mutual
  pub term_literals : Term → List ℕ → List ℕ
  term_literals (term head own ty line operands) ls = literal_head head (terms_literals own (terms_literals operands ls))

  pub terms_literals : Terms → List ℕ → List ℕ
  terms_literals none ls = ls
  terms_literals (more t ts) ls = term_literals t (terms_literals ts ls)

abbrev pub part_literals : Option Term → List ℕ → List ℕ
part_literals None ls = ls
part_literals (Some t) ls = term_literals t ls

abbrev mutual
  pub statement_literals : Statement → List ℕ → List ℕ
  statement_literals (expressed t) ls = part_literals t ls
  statement_literals (compound b) ls = section_literals b ls
  statement_literals (chooses t first second) ls = term_literals t (statement_literals first (otherwise_literals second ls))
  statement_literals (switches t body) ls = term_literals t (statement_literals body ls)
  statement_literals (while_loop t body) ls = term_literals t (statement_literals body ls)
  statement_literals (do_loop body t) ls = term_literals t (statement_literals body ls)
  statement_literals (for_loop start test step body) ls = start_literals start (part_literals test (part_literals step (statement_literals body ls)))
  statement_literals (goes_to label) ls = ls
  statement_literals continues ls = ls
  statement_literals breaks ls = ls
  statement_literals (returns t) ls = part_literals t ls
  statement_literals (labelled label body) ls = statement_literals body ls
  statement_literals (case_of z body) ls = statement_literals body ls
  statement_literals (by_default body) ls = statement_literals body ls

  pub otherwise_literals : Otherwise → List ℕ → List ℕ
  otherwise_literals nothing ls = ls
  otherwise_literals (else_does body) ls = statement_literals body ls

  pub start_literals : Start → List ℕ → List ℕ
  start_literals no_start ls = ls
  start_literals (start_value t) ls = term_literals t ls
  start_literals (start_block b) ls = section_literals b ls

  pub section_literals : Section → List ℕ → List ℕ
  section_literals (section number objects entries) ls = entries_literals entries ls

  pub entries_literals : Entries → List ℕ → List ℕ
  entries_literals end ls = ls
  entries_literals (statement body rest) ls = statement_literals body (entries_literals rest ls)
  entries_literals (initializes t rest) ls = term_literals t (entries_literals rest ls)
  entries_literals (declares decl rest) ls = entries_literals rest ls

abbrev pub content_literals : Content → List ℕ → List ℕ
content_literals (content.Address (target.Literal at) offset) ls = with_number at ls
content_literals _ ls = ls

abbrev pub constants_literals : List Constant → List ℕ → List ℕ
constants_literals [] ls = ls
constants_literals (c ∷ cs) ls = content_literals c.content (constants_literals cs ls)

abbrev pub objects_literals : List (ℕ × Object) → List ℕ → List ℕ
objects_literals [] ls = ls
objects_literals (p ∷ ps) ls = constants_literals (or_nothing (p.1).initial) (objects_literals ps ls)

abbrev pub body_literals : Option Statement → List ℕ → List ℕ
body_literals None ls = ls
body_literals (Some b) ls = statement_literals b ls

abbrev pub functions_literals : List Routine → List ℕ → List ℕ
functions_literals [] ls = ls
functions_literals (r ∷ rs) ls = body_literals r.body (functions_literals rs ls)

-- 4. Numbers in the place of tokens.

pub record Numbers : Type 0 where
  pub statics : List ℕ
  pub literals : List ℕ

abbrev pub slot_in : Numbers → Slot → Slot
slot_in n (slot.Static name) = slot.Static (place_of name 0 n.statics)
slot_in n s = s

abbrev pub target_in : Numbers → Target → Target
target_in n (target.Static name) = target.Static (place_of name 0 n.statics)
target_in n (target.Literal at) = target.Literal (place_of at 0 n.literals)
target_in n t = t

abbrev pub content_in : Numbers → Content → Content
content_in n (content.Address t offset) = content.Address (target_in n t) offset
content_in n c = c

abbrev pub constant_in : Numbers → Constant → Constant
constant_in n c = record { at = c.at; content = content_in n c.content }

abbrev pub head_in : Numbers → Head → Head
head_in n (shape.Obj s) = shape.Obj (slot_in n s)
head_in n (shape.Str at) = shape.Str (place_of at 0 n.literals)
head_in n (shape.List s bytes) = shape.List (slot_in n s) bytes
head_in n head = head

abbrev mutual
  pub term_in : Numbers → Term → Term
  term_in n (term head own ty line operands) = term (head_in n head) (terms_in n own) ty line (terms_in n operands)

  pub terms_in : Numbers → Terms → Terms
  terms_in n none = none
  terms_in n (more t ts) = more (term_in n t) (terms_in n ts)

abbrev pub part_in : Numbers → Option Term → Option Term
part_in n None = None
part_in n (Some t) = Some (term_in n t)

abbrev mutual
  pub statement_in : Numbers → Statement → Statement
  statement_in n (expressed t) = expressed (part_in n t)
  statement_in n (compound b) = compound (section_in n b)
  statement_in n (chooses t first second) = chooses (term_in n t) (statement_in n first) (otherwise_in n second)
  statement_in n (switches t body) = switches (term_in n t) (statement_in n body)
  statement_in n (while_loop t body) = while_loop (term_in n t) (statement_in n body)
  statement_in n (do_loop body t) = do_loop (statement_in n body) (term_in n t)
  statement_in n (for_loop start test step body) = for_loop (start_in n start) (part_in n test) (part_in n step) (statement_in n body)
  statement_in n (goes_to label) = goes_to label
  statement_in n continues = continues
  statement_in n breaks = breaks
  statement_in n (returns t) = returns (part_in n t)
  statement_in n (labelled label body) = labelled label (statement_in n body)
  statement_in n (case_of z body) = case_of z (statement_in n body)
  statement_in n (by_default body) = by_default (statement_in n body)

  pub otherwise_in : Numbers → Otherwise → Otherwise
  otherwise_in n nothing = nothing
  otherwise_in n (else_does body) = else_does (statement_in n body)

  pub start_in : Numbers → Start → Start
  start_in n no_start = no_start
  start_in n (start_value t) = start_value (term_in n t)
  start_in n (start_block b) = start_block (section_in n b)

  pub section_in : Numbers → Section → Section
  section_in n (section number objects entries) = section number objects (entries_in n entries)

  pub entries_in : Numbers → Entries → Entries
  entries_in n end = end
  entries_in n (statement body rest) = statement (statement_in n body) (entries_in n rest)
  entries_in n (initializes t rest) = initializes (term_in n t) (entries_in n rest)
  entries_in n (declares decl rest) = declares decl (entries_in n rest)

abbrev pub body_in : Numbers → Option Statement → Option Statement
body_in n None = None
body_in n (Some b) = Some (statement_in n b)

-- 5. The program.

abbrev pub function_in : Numbers → Routine → SeenFunction
function_in n r = record { signature = r.signature; library = r.library; body = body_in n r.body }

abbrev pub static_in : Numbers → ℕ × Object → SeenStatic
static_in n p = record {
  object = record { constant = ((p.1).qual).constant; ty = final_type ((p.1).qual).ty };
  constants = ordered (map (constant_in n) (or_nothing (p.1).initial));
}

abbrev pub all_literals : Env → List ℕ → Option (List (List ℕ))
all_literals env [] = Some []
all_literals env (at ∷ ats) = if_found (literal_at env at) (λ bytes. if_found (all_literals env ats) (λ rest. Some (bytes ∷ rest)))

abbrev pub main_among : Env → List (Declared Linked) → Option ℕ
main_among env [] = None
main_among env (l ∷ ls) = if is_main_name (spelling env l.symbol) then number_of_function (l.meaning).target else main_among env ls

abbrev pub is_main : Routine → Bool
is_main r = is_some r.body && is_main_type r.signature

-- the function that is called at program startup: it is there, with a body and one of its two types (5.1.2.2.1p1)
abbrev pub main_of : Env → Option ℕ
main_of env = if_found (main_among env env.linked) (λ n. if is_so is_main (slice_get env.functions n) then Some n else None)

-- what is used is there, and what is defined is complete at the end
abbrev pub is_whole : Env → List (ℕ × Object) → Bool
is_whole env os = all_hold (is_provided env) env.uses && (all_hold (is_complete_object env.tags) os && all_hold (are_within env) os)

abbrev pub program_with : Env → List (ℕ × Object) → Numbers → ℕ → List (List ℕ) → SeenProgram
program_with env os n main literals = record {
  functions = map (function_in n) env.functions;
  statics = map (static_in n) os;
  literals = literals;
  tags = env.tags;
  main = main;
}

abbrev pub numbers_of : Env → List (ℕ × Object) → Numbers
numbers_of env os = record { statics = map name_of os; literals = functions_literals env.functions (objects_literals os []) }

abbrev pub program_by : Env → List (ℕ × Object) → Numbers → Option SeenProgram
program_by env os n =
    if is_whole env os then
    if_found (main_of env) (λ main. if_found (all_literals env n.literals) (λ literals. Some (program_with env os n main literals)))
    else None

unfoldable pub program_of : Env → Option SeenProgram
program_of env = program_by env (defined_in_order env.objects) (numbers_of env (defined_in_order env.objects))

abbrev pub known_at_end : {A : Type 0} → Option (A × Env) → Option Env
known_at_end None = None
known_at_end (Some p) = Some p.1

-- what is known at the end of the unit
unfoldable pub known_of : TokenText → TheUnit → Option Env
known_of tokens u = known_at_end (externals u.entries (start_of tokens))

-- the typed program of the unit, whose tokens these are, as a program is seen
unfoldable pub typed_of : TokenText → TheUnit → Option SeenProgram
typed_of tokens u = if_found (known_of tokens u) program_of

-- The program is the one that the unit has; and all holds of it that whatever runs it relies on (own).
pub record IsTyped (tokens : TokenText) (u : TheUnit) (p : Program) : Type 0 where
  pub is : typed_of tokens u ≡ Some (program_seen p)
  pub lawful : IsLawful p

-- a unit has one program, as programs are seen
abbrev pub IsOne : Type 0
IsOne = (tokens : TokenText) (u : TheUnit) (p q : Program) → IsTyped tokens u p → IsTyped tokens u q → program_seen p ≡ program_seen q

-- 6. From the bytes of a text.

abbrev pub text_of : List ℕ → Lexed → Option TokenText
text_of source (Ok tokens) = Some (record { source = source; list = tokens })
text_of source (Err fault) = None

abbrev pub tokens_of : List ℕ → Option TokenText
tokens_of source = text_of source (lexed source)

abbrev pub known_in : List ℕ → Option Env
known_in source = if_found (tokens_of source) (λ tokens. if_found (tree_of tokens) (known_of tokens))

abbrev pub program_in : List ℕ → Option SeenProgram
program_in source = if_found (tokens_of source) (λ tokens. if_found (tree_of tokens) (typed_of tokens))
