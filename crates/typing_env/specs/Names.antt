-- Declarations of names: scopes, name spaces, linkage, and the types of identifiers that are declared more than once (6.2.1 to 6.2.3,
-- 6.2.7, 6.7p3, 6.7p4, 6.9.2).
use Rattle.std.specs.Prelude.{ℕ, ◌+◌, ◌-◌, ◌==◌, Bool, true, false, not, ◌&&◌, ◌||◌, if◌then◌else◌, List, [], ◌∷◌, ◌++◌, map, length, codes}
use Rattle.std.specs.Prelude.{Option, Some, None, is_some}
use Rattle.std.specs.Str.{bytes_eq}
use Rattle.c_types.specs.Types.{CType, function, Qualified, Signature, composite_qualified, composite_signature}
use Rattle.c_types.specs.declared.tags.TagKind.{TagKind}
use Rattle.c_types.specs.declared.library.LibFunc.{LibFunc}
use Rattle.c_types.specs.declared.library.LibFunc.TheVariants as libc
use Rattle.c_typed.specs.declared.tree.Slot.TheVariants as slot
use Rattle.c_typed.specs.declared.tree.Target.{Target}
use Rattle.c_typed.specs.declared.tree.Target.TheVariants as target
use Rattle.c_typed.specs.declared.program.Constant.{Constant}
use Rattle.c_typed.specs.Lawful.{library_type}
use Rattle.c_types.specs.Same.{same_qualified, same_qualifier, compatible}
use Rattle.type_name_space.specs.Scopes.{Declared, visible, at_depth, left, changed, put_at}
use Rattle.typing_env.specs.Env.{Env, Typing, ◌>>=◌, ◌>>◌, pure, known, knowing, found, holds, Meaning, an_object, a_function, a_typedef}
use Rattle.typing_env.specs.Env.{TagMeaning, Linked, Object, Routine, Prototype, no_prototype, symbol_of, spelling}

-- 1. Scopes (6.2.1).

-- one scope more encloses this place
abbrev pub entered : Env → Env
entered env = record env { depth = env.depth + 1 }

-- what is left where the innermost scope ends
abbrev pub left_scope : Env → Env
left_scope env = record env { ordinary = left env.depth env.ordinary; tag_names = left env.depth env.tag_names; depth = env.depth - 1 }

abbrev pub ended : {A : Type 0} → Option (A × Env) → Option (A × Env)
ended None = None
ended (Some p) = Some (p.0, left_scope p.1)

-- all of this in a scope of its own
unfoldable pub scoped : {A : Type 0} → Typing A → Typing A
scoped p = λ env. ended (p (entered env))

-- what is declared in the scopes of this depth
abbrev pub declared_from : {M : Type 0} → ℕ → List (Declared M) → List (Declared M)
declared_from depth [] = []
declared_from depth (d ∷ ds) = if d.depth == depth then d ∷ declared_from depth ds else declared_from depth ds

abbrev pub prototype_of : Env → Prototype
prototype_of env = record { ordinary = declared_from env.depth env.ordinary; tags = declared_from env.depth env.tag_names }

-- the declarations of a parameter list at file scope behind a declared name are kept for a body (6.2.1p4)
abbrev pub kept_prototype : (own : Bool) → Env → Env
kept_prototype own env = if own && (env.depth == 1) then record env { prototype = prototype_of env } else env

-- a parameter list in a scope of its own
unfoldable pub in_prototype : {A : Type 0} → (own : Bool) → Typing A → Typing A
in_prototype own p = scoped (do
  a ← p
  knowing (kept_prototype own)
  pure a)

-- these are declared in this scope
abbrev pub declared_at : {M : Type 0} → ℕ → List (Declared M) → List (Declared M) → List (Declared M)
declared_at depth before ds = before ++ map (put_at depth) ds

-- the declarations of the function's own parameters are in scope here
abbrev pub with_parameters : Env → Env
with_parameters env = record env {
  ordinary = declared_at env.depth env.ordinary env.prototype.ordinary;
  tag_names = declared_at env.depth env.tag_names env.prototype.tags;
  prototype = no_prototype;
}

unfoldable pub with_prototype : Typing (Unit {0})
with_prototype = knowing with_parameters

-- 2. Identifiers without linkage (6.2.2p6).

abbrev pub meaning_in : {M : Type 0} → Option (Declared M) → Option M
meaning_in None = None
meaning_in (Some d) = Some d.meaning

-- what the identifier stands for (6.2.1p4)
unfoldable pub meaning_of : Env → ℕ → Option Meaning
meaning_of env symbol = meaning_in (visible symbol env.ordinary)

-- what it stands for by a declaration of this scope
unfoldable pub meaning_here : Env → ℕ → Option Meaning
meaning_here env symbol = meaning_in (at_depth env.depth (visible symbol env.ordinary))

abbrev pub with_declared : ℕ → Meaning → Env → Env
with_declared symbol meaning env = record env { ordinary = env.ordinary ++ record { symbol = symbol; depth = env.depth; meaning = meaning } ∷ [] }

-- no more than one declaration in one scope (6.7p3)
unfoldable pub declare : ℕ → Meaning → Typing (Unit {0})
declare at meaning = do
  env ← known
  holds (not (is_some (meaning_here env (symbol_of env at))))
  knowing (with_declared (symbol_of env at) meaning)

abbrev pub is_same_typedef : Qualified → Option Meaning → Bool
is_same_typedef qual (Some (a_typedef was)) = same_qualified was qual
is_same_typedef qual _ = false

-- a typedef name may be redefined to denote the same type (6.7p3)
unfoldable pub declare_typedef : ℕ → Qualified → Typing (Unit {0})
declare_typedef at qual = do
  env ← known
  if is_same_typedef qual (meaning_here env (symbol_of env at)) then pure tt else declare at (a_typedef qual)

-- the visible declaration of the identifier tells more of its type
abbrev pub renamed : ℕ → Meaning → Env → Env
renamed symbol meaning env = record env { ordinary = changed symbol meaning env.ordinary }

-- a tag is declared in this scope
abbrev pub with_tag_name : ℕ → TagMeaning → Env → Env
with_tag_name symbol meaning env = record env { tag_names = env.tag_names ++ record { symbol = symbol; depth = env.depth; meaning = meaning } ∷ [] }

-- what it stands for: as it is visible, or, where a declaration is `struct S;` alone, in this scope (6.7.2.3p7, 6.7.2.3p8)
abbrev pub tag_seen : Env → (alone : Bool) → ℕ → Option TagMeaning
tag_seen env true symbol = meaning_in (at_depth env.depth (visible symbol env.tag_names))
tag_seen env false symbol = meaning_in (visible symbol env.tag_names)

-- a structure or union more, incomplete (6.7.2.3p4); its number is that of the tags before it
abbrev pub with_new_tag : TagKind → Env → Env
with_new_tag kind env = record env { tags = env.tags ++ record { kind = kind; members = [] } ∷ [] }

-- an enumeration more, incomplete (6.7.2.2p4)
abbrev pub with_new_enumeration : Env → Env
with_new_enumeration env = record env { enumerations = env.enumerations ++ false ∷ [] }

-- 3. Linkage (6.2.2).

abbrev pub is_target : Target → Target → Bool
is_target (target.Static m) (target.Static n) = m == n
is_target (target.Function m) (target.Function n) = m == n
is_target (target.Literal m) (target.Literal n) = m == n
is_target _ _ = false

-- the identifier with linkage that is spelled so
abbrev pub linked_symbol : Env → ℕ → Option Linked
linked_symbol env symbol = meaning_in (visible symbol env.linked)

-- what may have linkage; an object of block scope without `extern` has none, though it may have static storage (6.2.2p6)
abbrev pub target_in : Meaning → Option Target
target_in (an_object (slot.Static name) qual register) = Some (target.Static name)
target_in (a_function number ty) = Some (target.Function number)
target_in _ = None

abbrev pub target_visible : Option Meaning → Option Target
target_visible None = None
target_visible (Some m) = target_in m

abbrev pub if_linked : Option Target → Option Linked → Option Linked
if_linked (Some t) (Some l) = if is_target l.target t then Some l else None
if_linked _ _ = None

-- the identifier with linkage that the visible declaration of the symbol declares, if that has linkage
abbrev pub linkage_seen : Env → ℕ → Option Linked
linkage_seen env symbol = if_linked (target_visible (meaning_of env symbol)) (linked_symbol env symbol)

-- how a declaration gives linkage: `static` at file scope; no storage class at file scope, of an object; `extern`, or none and a function
pub data Given : Type 0 where
  by_static : Given
  by_file_scope : Given
  as_extern : Given

abbrev pub as_before : Option Linked → Bool
as_before None = false
as_before (Some l) = l.internal

-- whether it is internal: as it says, or as the visible prior declaration says, if that has linkage (6.2.2p3, 6.2.2p4, 6.2.2p5)
abbrev pub is_internal : Given → Option Linked → Bool
is_internal by_static prior = true
is_internal by_file_scope prior = false
is_internal as_extern prior = as_before prior

-- an identifier isn't both (6.2.2p7)
abbrev pub keeps_linkage : Bool → Option Linked → Bool
keeps_linkage internal None = true
keeps_linkage internal (Some l) = same_qualifier l.internal internal

-- a declaration of the same scope may be of the same identifier, if it has linkage (6.7p3)
abbrev pub may_redeclare : Option Meaning → Option Linked → Bool
may_redeclare None prior = true
may_redeclare (Some m) prior = is_some prior

-- 4. Types of one identifier.

abbrev pub alike : Qualified → Qualified → Bool
alike p q = same_qualifier p.constant q.constant && compatible p.ty q.ty

abbrev pub all_alike : Qualified → List Qualified → Bool
all_alike q [] = true
all_alike q (p ∷ ps) = alike p q && all_alike q ps

-- all its declarations have compatible types (6.2.7p2, 6.7p4)
abbrev pub agrees : Qualified → Option Linked → Bool
agrees q None = true
agrees q (Some l) = all_alike q l.types

abbrev pub type_in : Meaning → Option Qualified
type_in (an_object slot qual register) = Some qual
type_in (a_function number ty) = Some (record { constant = false; ty = ty })
type_in _ = None

abbrev pub composite_with : Qualified → Option Qualified → Qualified
composite_with q None = q
composite_with q (Some p) = composite_qualified p q

abbrev pub type_visible : Option Meaning → Option Qualified
type_visible None = None
type_visible (Some m) = type_in m

-- the type that the identifier has from here on: the composite with that of the visible declaration, if that has linkage (6.2.7p4)
abbrev pub type_seen : Qualified → Option Meaning → (linked : Bool) → Qualified
type_seen q prior true = composite_with q (type_visible prior)
type_seen q prior false = q

abbrev pub is_among : Qualified → List Qualified → Bool
is_among q [] = false
is_among q (p ∷ ps) = same_qualified p q || is_among q ps

-- 5. Declarations with linkage.

-- what such a declaration finds: its symbol, whether it is internal, the identifier if it is known, and the type seen from here on
pub record Redeclared : Type 0 where
  pub symbol : ℕ
  pub internal : Bool
  pub entity : Option Linked
  pub seen : Qualified

-- it keeps the identifier's linkage, is the first one in its scope or of an identifier with linkage, and has a type like all others
abbrev pub may_stand : Qualified → Given → ℕ → Env → Bool
may_stand qual given symbol env =
    keeps_linkage (is_internal given (linkage_seen env symbol)) (linked_symbol env symbol)
    && (may_redeclare (meaning_here env symbol) (linkage_seen env symbol) && agrees qual (linked_symbol env symbol))

abbrev pub redeclared_at : Qualified → Given → ℕ → Env → Redeclared
redeclared_at qual given symbol env = record {
  symbol = symbol;
  internal = is_internal given (linkage_seen env symbol);
  entity = linked_symbol env symbol;
  seen = type_seen qual (meaning_of env symbol) (is_some (linkage_seen env symbol));
}

unfoldable pub redeclared : ℕ → Qualified → Given → Typing Redeclared
redeclared at qual given = do
  env ← known
  holds (may_stand qual given (symbol_of env at) env)
  pure (redeclared_at qual given (symbol_of env at) env)

abbrev pub is_here : Env → ℕ → Bool
is_here env symbol = is_some (meaning_here env symbol)

-- it is declared in this scope, or the declaration there tells more
abbrev pub bound : ℕ → Meaning → Env → Env
bound symbol meaning env = if is_here env symbol then renamed symbol meaning env else with_declared symbol meaning env

-- an identifier with linkage more
abbrev pub with_link : ℕ → Bool → Target → Qualified → Env → Env
with_link symbol internal t qual env = record env {
  linked = env.linked ++ record { symbol = symbol; depth = 0; meaning = record { target = t; internal = internal; types = qual ∷ [] } } ∷ [];
}

abbrev pub with_one_more : Qualified → Linked → Linked
with_one_more qual l = record l { types = l.types ++ qual ∷ [] }

abbrev pub further : ℕ → Qualified → Option Linked → List (Declared Linked) → List (Declared Linked)
further symbol qual None ls = ls
further symbol qual (Some l) ls = if is_among qual l.types then ls else changed symbol (with_one_more qual l) ls

-- the identifier has a declaration of this type more
abbrev pub with_further : ℕ → Qualified → Env → Env
with_further symbol qual env = record env { linked = further symbol qual (linked_symbol env symbol) env.linked }

-- .. if it stands for this: an object of block scope that isn't `extern` has no linkage, though an identifier that has may be spelled the
-- same (6.2.2p6)
abbrev pub with_further_of : Target → ℕ → Qualified → Env → Env
with_further_of t symbol qual env = record env { linked = further symbol qual (if_linked (Some t) (linked_symbol env symbol)) env.linked }

-- 6. Objects with linkage.

-- a function and an object aren't declared by one identifier (6.2.7p2)
abbrev pub name_of_object : Target → Option ℕ
name_of_object (target.Static name) = Some name
name_of_object _ = None

abbrev pub with_object : Object → Env → Env
with_object o env = record env { objects = env.objects ++ o ∷ [] }

abbrev pub changed_object : ℕ → (Object → Object) → List Object → List Object
changed_object name f [] = []
changed_object name f (o ∷ os) = (if o.name == name then f o else o) ∷ changed_object name f os

abbrev pub changing_object : ℕ → (Object → Object) → Env → Env
changing_object name f env = record env { objects = changed_object name f env.objects }

abbrev pub object_named : ℕ → List Object → Option Object
object_named name [] = None
object_named name (o ∷ os) = if o.name == name then Some o else object_named name os

abbrev pub new_object : ℕ → Qualified → Object
new_object name qual = record { name = name; qual = qual; defined = None; initial = None }

-- the type of an object is that of its declarations of file scope (6.9.2p2)
abbrev pub file_type : ℕ → Qualified → Env → Env
file_type name qual env = if env.depth == 0 then changing_object name (λ o. record o { qual = qual }) env else env

unfoldable pub entity_of_object : ℕ → Qualified → Redeclared → Option Linked → Typing ℕ
entity_of_object at qual r None = do
  knowing (with_link r.symbol r.internal (target.Static at) qual)
  knowing (with_object (new_object at qual))
  pure at
entity_of_object at qual r (Some l) = do
  name ← found (name_of_object l.target)
  knowing (with_further r.symbol qual)
  knowing (file_type name r.seen)
  pure name

-- declares an object with linkage; the answer names it
unfoldable pub declare_object : ℕ → Qualified → Given → Typing ℕ
declare_object at qual given = do
  r ← redeclared at qual given
  name ← entity_of_object at qual r r.entity
  knowing (bound r.symbol (an_object (slot.Static name) r.seen false))
  pure name

abbrev pub first_of : Option ℕ → ℕ → Option ℕ
first_of None at = Some at
first_of (Some was) at = Some was

-- a definition of it, tentative or not (6.9.2p1, 6.9.2p2)
unfoldable pub define_object : ℕ → ℕ → Typing (Unit {0})
define_object name at = knowing (changing_object name (λ o. record o { defined = first_of o.defined at }))

-- the object has its type from its initializer, and so has the identifier that declares it there (6.7.9p22)
unfoldable pub complete_object : ℕ → ℕ → Qualified → Typing (Unit {0})
complete_object at name qual = do
  env ← known
  knowing (changing_object name (λ o. record o { qual = qual }))
  knowing (with_further_of (target.Static name) (symbol_of env at) qual)
  knowing (renamed (symbol_of env at) (an_object (slot.Static name) qual false))

abbrev pub has_initial : Option Object → Bool
has_initial None = false
has_initial (Some o) = is_some o.initial

-- one initializer alone (6.9p3, 6.9p5)
unfoldable pub give_initial : ℕ → List Constant → Typing (Unit {0})
give_initial name constants = do
  env ← known
  holds (not (has_initial (object_named name env.objects)))
  knowing (changing_object name (λ o. record o { initial = Some constants }))

-- 7. Functions.

-- the functions of the library by name (7.21.6.3, 7.21.6.5, 7.21.6.6, 7.21.7, 7.22.3, 7.22.4, 7.24)
abbrev pub library_names : List (List ℕ × LibFunc)
library_names = (codes "malloc", libc.Malloc) ∷ (codes "calloc", libc.Calloc) ∷ (codes "realloc", libc.Realloc) ∷ (codes "free", libc.Free)
    ∷ (codes "memcpy", libc.Memcpy) ∷ (codes "memmove", libc.Memmove) ∷ (codes "memset", libc.Memset) ∷ (codes "memcmp", libc.Memcmp)
    ∷ (codes "strlen", libc.Strlen) ∷ (codes "strcpy", libc.Strcpy) ∷ (codes "strcmp", libc.Strcmp) ∷ (codes "strchr", libc.Strchr)
    ∷ (codes "getchar", libc.Getchar) ∷ (codes "putchar", libc.Putchar) ∷ (codes "puts", libc.Puts) ∷ (codes "printf", libc.Printf)
    ∷ (codes "_cub_fprintf", libc.Fprintf) ∷ (codes "sprintf", libc.Sprintf) ∷ (codes "snprintf", libc.Snprintf)
    ∷ (codes "exit", libc.Exit) ∷ (codes "abort", libc.Abort) ∷ []

abbrev pub library_in : List ℕ → List (List ℕ × LibFunc) → Option LibFunc
library_in name [] = None
library_in name (l ∷ ls) = if bytes_eq l.0 name then Some l.1 else library_in name ls

-- an external name of the library stands for its function (7.1.3p1)
abbrev pub library_of : (internal : Bool) → List ℕ → Option LibFunc
library_of true name = None
library_of false name = library_in name library_names

abbrev pub type_of_signature : Signature → CType
type_of_signature f = function f.result f.params f.variadic

-- it is declared compatibly (7.1.3p2, 7.1.4p2)
abbrev pub fits_library : Signature → Option LibFunc → Bool
fits_library f None = true
fits_library f (Some l) = compatible (type_of_signature (library_type l)) (type_of_signature f)

abbrev pub number_of_function : Target → Option ℕ
number_of_function (target.Function number) = Some number
number_of_function _ = None

abbrev pub changed_function : ℕ → (Routine → Routine) → ℕ → List Routine → List Routine
changed_function number f n [] = []
changed_function number f n (r ∷ rs) = (if n == number then f r else r) ∷ changed_function number f (n + 1) rs

abbrev pub changing_function : ℕ → (Routine → Routine) → Env → Env
changing_function number f env = record env { functions = changed_function number f 0 env.functions }

abbrev pub further_type : Signature → Routine → Routine
further_type f r = if r.defined then r else record r { signature = composite_signature r.signature f }

abbrev pub with_function : Routine → Env → Env
with_function r env = record env { functions = env.functions ++ r ∷ [] }

abbrev pub new_function : Signature → Option LibFunc → Routine
new_function f library = record { signature = f; library = library; defined = false; body = None }

unfoldable pub entity_of_function : Signature → Option LibFunc → Redeclared → Option Linked → Typing ℕ
entity_of_function f library r None = do
  env ← known
  knowing (with_link r.symbol r.internal (target.Function (length env.functions)) (record { constant = false; ty = type_of_signature f }))
  knowing (with_function (new_function f library))
  pure (length env.functions)
entity_of_function f library r (Some l) = do
  number ← found (number_of_function l.target)
  knowing (with_further r.symbol (record { constant = false; ty = type_of_signature f }))
  knowing (changing_function number (further_type f))
  pure number

-- declares a function; the answer is its number, in the order of first declarations
unfoldable pub declare_function : ℕ → Signature → Given → Typing ℕ
declare_function at f given = do
  r ← redeclared at (record { constant = false; ty = type_of_signature f }) given
  env ← known
  let library = library_of r.internal (spelling env at) in (do
    holds (fits_library f library)
    number ← entity_of_function f library r r.entity
    knowing (bound r.symbol (a_function number (r.seen).ty))
    pure number)
