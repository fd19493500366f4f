-- Declarations with linkage, as the state tells of them (6.2.2).
use Rattle.std.specs.Prelude.{◌≡◌, ℕ, false, if◌then◌else◌, slice_get, Option, Some, None, Result, Ok, Err}
use Rattle.std.specs.Option.{option_map}
use Rattle.c_lex.specs.TokenText.{TokenText}
use Rattle.c_types.specs.Types.{CType, function, Qualified, Signature, qualified_of}
use Rattle.c_typed.specs.declared.tree.Slot.TheVariants as slot
use Rattle.c_typed.specs.declared.tree.Target.{Target}
use Rattle.c_typed.specs.declared.tree.Target.TheVariants as target
use Rattle.type_name_space.specs.Scopes.{visible}
use Rattle.typing_env.specs.Env as seen
use Rattle.typing_env.specs.Env.{Typing, ◌>>=◌, ◌>>◌, knowing, an_object, symbol_in}
use Rattle.typing_env.specs.Names as names
use Rattle.typing_env.specs.Names.{Given, by_static, by_file_scope, as_extern, is_target, meaning_in, is_among, with_one_more, type_of_signature}
use Rattle.typing_env.specs.Names.{with_object, new_object, define_object, declare}
use Rattle.type_scope.specs.declared.fault.TypeFault.{TypeFault}
use Rattle.type_scope.specs.declared.rows.Linked.{Linked}
use Rattle.type_scope.specs.declared.rows.Meaning.{Meaning}
use Rattle.type_scope.specs.declared.rows.Meaning.TheVariants as meaning
use Rattle.type_scope.specs.declared.state.State.{State}
use Rattle.type_scope.specs.Known.{Naming, linked_seen}
use Rattle.type_linkage.specs.declared.linkage.Linkage.{Linkage}
use Rattle.type_linkage.specs.declared.linkage.Linkage.TheVariants as linkage
use Rattle.type_linkage.specs.declared.linkage.Found.{Found}

abbrev pub given_of : Linkage → Given
given_of linkage.Internal = by_static
given_of linkage.Plain = by_file_scope
given_of linkage.Extern = as_extern

-- what may have linkage
abbrev pub held_target : Meaning → Option Target
held_target (meaning.Object (slot.Static number) qual register) = Some (target.Static number)
held_target (meaning.Function number ty) = Some (target.Function number)
held_target _ = None

abbrev pub target_held : Option Meaning → Option Target
target_held None = None
target_held (Some m) = held_target m

abbrev pub if_held : Option Target → Option Linked → Option Linked
if_held (Some t) (Some l) = if is_target l.target t then Some l else None
if_held _ _ = None

-- the identifier with linkage that is spelled so
abbrev pub entity_in : State → ℕ → Option Linked
entity_in state symbol = meaning_in (visible symbol state.linked)

-- the one that the visible declaration declares
abbrev pub prior_in : State → ℕ → Option Linked
prior_in state symbol = if_held (target_held (meaning_in (visible symbol (state.names).ordinary))) (entity_in state symbol)

abbrev pub redeclared_seen : Naming → State → Found → names.Redeclared
redeclared_seen n state r = record {
  symbol = r.symbol;
  internal = r.internal;
  entity = option_map (linked_seen n) (entity_in state r.symbol);
  seen = qualified_of r.seen;
}

-- the object that a declaration makes known, if it makes one known, is named by this token
abbrev pub IsNamedOk : Naming → ℕ → Result ℕ TypeFault → Type 0
IsNamedOk n at (Ok number) = n number ≡ at
IsNamedOk n at (Err e) = Unit {0}

abbrev pub IsNamed : Naming → TokenText → ℕ → State → Result ℕ TypeFault → Type 0
IsNamed n tokens at state result = entity_in state (symbol_in tokens (slice_get tokens.list at)) ≡ None → IsNamedOk n at result

-- a function's type as that of an identifier
abbrev pub function_qualified : Signature → Qualified
function_qualified f = record { constant = false; ty = type_of_signature f }

abbrev pub signature_in : CType → Option Signature
signature_in (function result params variadic) = Some (record { result = result; params = params; variadic = variadic })
signature_in _ = None

-- an object of block scope with static storage is declared: it has no linkage (6.2.2p6, 6.2.4p3), is named by its own token, and is defined there
unfoldable pub static_declared : ℕ → Qualified → Typing (Unit {0})
static_declared at q = do
  knowing (with_object (new_object at q))
  define_object at at
  declare at (an_object (slot.Static at) q false)

-- an identifier with a type more among those of its declarations, where it isn't there
abbrev pub one_more_type : Qualified → seen.Linked → Option seen.Linked
one_more_type q l = if is_among q l.types then None else Some (with_one_more q l)
