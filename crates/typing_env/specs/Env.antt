-- What is known of a translation unit where its text is read up to a place, and the functions that read on from there (own). The
-- definition of typing goes through the text in its order, since the scope of a name begins behind its declarator (6.2.1p7).
use Rattle.std.specs.Prelude.{ℕ, ◌+◌, Bool, if◌then◌else◌, ℤ, List, [], ◌∷◌, length, slice_get, Option, Some, None}
use Rattle.std.specs.Str.{bytes_eq}
use Rattle.c_lex.specs.TokenText.{TokenText, line_at, text_at, span_text}
use Rattle.c_lex.specs.declared.token.Token.{Token}
use Rattle.c_types.specs.Types.{CType, void, Qualified, Signature}
use Rattle.c_types.specs.declared.kind.IntKind.{IntKind}
use Rattle.c_types.specs.declared.library.LibFunc.{LibFunc}
use Rattle.c_types.specs.declared.tags.TagKind.{TagKind}
use Rattle.c_typed.specs.declared.tree.Slot.{Slot}
use Rattle.c_typed.specs.declared.tree.Target.{Target}
use Rattle.c_typed.specs.declared.program.Constant.{Constant}
use Rattle.type_name_space.specs.Scopes.{Declared}
use Rattle.typing_env.specs.Seen.{Statement, SeenTag}

-- 1. What names stand for.

-- an ordinary identifier (6.2.3): an object or a function with its type as far as this declaration tells, and whether it was
-- declared `register`; an enumeration constant; a typedef name. An object with static storage is named by the token that declares
-- it first, a function by its number among the functions.
pub data Meaning : Type 0 where
  an_object : (slot : Slot) → (qual : Qualified) → (register : Bool) → Meaning
  a_function : (number : ℕ) → (ty : CType) → Meaning
  a_constant : ℤ → Meaning
  a_typedef : Qualified → Meaning

-- a tag (6.2.3): a structure or union, or an enumeration, by number
pub data TagMeaning : Type 0 where
  a_tag : (kind : TagKind) → (number : ℕ) → TagMeaning
  an_enumeration : (number : ℕ) → TagMeaning

-- an identifier with linkage (6.2.2): what it stands for, whether it is internal, and the types of its declarations, each once, the
-- oldest first
pub record Linked : Type 0 where
  pub target : Target
  pub internal : Bool
  pub types : List Qualified

-- an object with static storage: the token that declares it first; its type, which of one with linkage is that of its declarations
-- of file scope (6.2.7p4, 6.9.2p2); the token of its first definition, tentative or not; and its initializer
pub record Object : Type 0 where
  pub name : ℕ
  pub qual : Qualified
  pub defined : Option ℕ
  pub initial : Option (List Constant)

-- a function: the composite of its types so far, or that of its definition; and its body, once that is read
pub record Routine : Type 0 where
  pub signature : Signature
  pub library : Option LibFunc
  pub defined : Bool
  pub body : Option Statement

-- a use in an expression that is evaluated: what is used, and how many elements it has as an array, if its name tells there
pub record Use : Type 0 where
  pub target : Target
  pub count : Option ℕ

-- 2. The function whose body is read (6.8, 6.9.1).

pub record OpenBlock : Type 0 where
  pub number : ℕ
  pub objects : List Qualified

-- a `switch` that is open: the promoted type of its controlling expression, its case values, and whether it has a `default`
pub record OpenSwitch : Type 0 where
  pub kind : IntKind
  pub cases : List ℤ
  pub has_default : Bool

-- what it returns; the symbols of its labels in the order in which the text names them, and of those that are defined; how many
-- blocks have begun; the blocks that are open, the innermost first; how many loops are open, and how many loops and switches; the
-- open switches, the innermost first
pub record Task : Type 0 where
  pub result : CType
  pub labels : List ℕ
  pub defined : List ℕ
  pub blocks : ℕ
  pub open_blocks : List OpenBlock
  pub loops : ℕ
  pub breakable : ℕ
  pub switches : List OpenSwitch

abbrev pub no_task : Task
no_task = record {
  result = void;
  labels = [];
  defined = [];
  blocks = 0;
  open_blocks = [];
  loops = 0;
  breakable = 0;
  switches = [];
}

-- 3. All that is known.

-- the declarations in a parameter list
pub record Prototype : Type 0 where
  pub ordinary : List (Declared Meaning)
  pub tags : List (Declared TagMeaning)

abbrev pub no_prototype : Prototype
no_prototype = record { ordinary = []; tags = [] }

-- The tokens; the declarations in scope, the oldest first (6.2.1), and how many scopes enclose this place, 0 at file scope; those of
-- the parameters of the function declarator of file scope that was read last; the structures and unions; of each enumeration whether it is
-- complete; the identifiers with linkage, at depth 0; the objects with static storage and the functions; what was used in an expression that
-- is evaluated (6.9p3, 6.9p5); and the open function.
pub record Env : Type 0 where
  pub tokens : TokenText
  pub ordinary : List (Declared Meaning)
  pub tag_names : List (Declared TagMeaning)
  pub depth : ℕ
  pub prototype : Prototype
  pub tags : List SeenTag
  pub enumerations : List Bool
  pub linked : List (Declared Linked)
  pub objects : List Object
  pub functions : List Routine
  pub uses : List Use
  pub task : Task

abbrev pub start_of : TokenText → Env
start_of tokens = record {
  tokens = tokens;
  ordinary = [];
  tag_names = [];
  depth = 0;
  prototype = no_prototype;
  tags = [];
  enumerations = [];
  linked = [];
  objects = [];
  functions = [];
  uses = [];
  task = no_task;
}

-- 4. Reading on: what is found and what is known then, or nothing, where a constraint or a rule of the profile forbids it.

abbrev pub Typing : Type 0 → Type 0
Typing A = Env → Option (A × Env)

abbrev pub if_found : {A B : Type 0} → Option A → (A → Option B) → Option B
if_found None f = None
if_found (Some a) f = f a

abbrev pub and_then : {A B : Type 0} → Option (A × Env) → (A → Typing B) → Option (B × Env)
and_then None f = None
and_then (Some p) f = f p.0 p.1

infixl 10 ◌>>=◌
abbrev pub ◌>>=◌ : {A B : Type 0} → Typing A → (A → Typing B) → Typing B
p >>= f = λ env. and_then (p env) f

infixl 10 ◌>>◌
abbrev pub ◌>>◌ : {A B : Type 0} → Typing A → Typing B → Typing B
p >> q = p >>= (λ _. q)

abbrev pub pure : {A : Type 0} → A → Typing A
pure a = λ env. Some (a, env)

abbrev pub refuse : {A : Type 0} → Typing A
refuse = λ env. None

-- what is known here
abbrev pub known : Typing Env
known = λ env. Some (env, env)

abbrev pub knowing : (Env → Env) → Typing (Unit {0})
knowing f = λ env. Some (tt, f env)

abbrev pub found_in : {A : Type 0} → Env → Option A → Option (A × Env)
found_in env None = None
found_in env (Some a) = Some (a, env)

-- a constraint
abbrev pub found : {A : Type 0} → Option A → Typing A
found o = λ env. found_in env o

abbrev pub holds : Bool → Typing (Unit {0})
holds condition = λ env. if condition then Some (tt, env) else None

-- what is read is not evaluated, so it uses nothing (6.5.3.4p2, 6.9p3)
abbrev pub without_uses : {A : Type 0} → Env → Option (A × Env) → Option (A × Env)
without_uses env None = None
without_uses env (Some p) = Some (p.0, record (p.1) { uses = env.uses })

abbrev pub unevaluated : {A : Type 0} → Typing A → Typing A
unevaluated p = λ env. without_uses env (p env)

-- 5. Tokens.

-- the first token that is spelled so
abbrev pub spelled_first : List ℕ → List ℕ → ℕ → List Token → ℕ
spelled_first source text n [] = n
spelled_first source text n (t ∷ ts) = if bytes_eq (span_text source (Some t)) text then n else spelled_first source text (n + 1) ts

-- behind the last token there is none
abbrev pub symbol_in : TokenText → Option Token → ℕ
symbol_in tokens None = length tokens.list
symbol_in tokens (Some t) = spelled_first tokens.source (span_text tokens.source (Some t)) 0 tokens.list

-- the symbol of a name: the first token that is spelled so
unfoldable pub symbol_of : Env → ℕ → ℕ
symbol_of env at = symbol_in env.tokens (slice_get env.tokens.list at)

abbrev pub last_line : ℕ → List Token → ℕ
last_line line [] = line
last_line line (t ∷ ts) = last_line t.line ts

abbrev pub line_in : List Token → Option ℕ → ℕ
line_in tokens None = last_line 1 tokens
line_in tokens (Some line) = line

-- the line of a token; behind the last token that of the last one
unfoldable pub line_of : Env → ℕ → ℕ
line_of env at = line_in env.tokens.list (line_at env.tokens at)

-- how a token is spelled
unfoldable pub spelling : Env → ℕ → List ℕ
spelling env at = text_at env.tokens at
