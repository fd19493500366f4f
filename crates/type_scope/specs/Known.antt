-- What is known where a unit is read up to a place, as the definition of typing has it.
use Rattle.std.specs.Prelude.{◌≡◌, ℕ, Bool, true, false, map, Option, Some, None}
use Rattle.c_lex.specs.TokenText.{TokenText}
use Rattle.c_types.specs.Types.{Signature, type_of, qualified_of, signature_of}
use Rattle.c_types.specs.declared.library.LibFunc.{LibFunc}
use Rattle.c_types.specs.declared.ty.FuncTy.{FuncTy}
use Rattle.c_typed.specs.declared.tree.Slot.{Slot}
use Rattle.c_typed.specs.declared.tree.Slot.TheVariants as slot
use Rattle.c_typed.specs.declared.tree.Target.{Target}
use Rattle.c_typed.specs.declared.tree.Target.TheVariants as target
use Rattle.type_name_space.specs.Scopes.{Declared}
use Rattle.typing_env.specs.Seen.{Statement, tag_seen, seen_body}
use Rattle.typing_env.specs.Env as seen
use Rattle.typing_env.specs.Env.{Env, Meaning, an_object, a_function, a_constant, a_typedef, TagMeaning, a_tag, an_enumeration}
use Rattle.type_scope.specs.InScope.{InScope}
use Rattle.type_scope.specs.declared.rows.Definition.{Definition}
use Rattle.type_scope.specs.declared.rows.Definition.TheVariants as definition
use Rattle.type_scope.specs.declared.rows.FunctionRow.{FunctionRow}
use Rattle.type_scope.specs.declared.rows.Linked.{Linked}
use Rattle.type_scope.specs.declared.rows.Meaning as held
use Rattle.type_scope.specs.declared.rows.Meaning.TheVariants as meaning
use Rattle.type_scope.specs.declared.rows.TagMeaning as held_tag
use Rattle.type_scope.specs.declared.rows.TagMeaning.TheVariants as tag
use Rattle.type_scope.specs.declared.state.State.{State}

-- the token that names the object with static storage of a number: that which declares it first
abbrev pub Naming : Type 0
Naming = ℕ → ℕ

abbrev pub slot_seen : Naming → Slot → Slot
slot_seen naming (slot.Static number) = slot.Static (naming number)
slot_seen naming (slot.Auto block decl) = slot.Auto block decl

abbrev pub target_seen : Naming → Target → Target
target_seen naming (target.Static number) = target.Static (naming number)
target_seen naming t = t

-- an identifier with linkage
abbrev pub linked_seen : Naming → Linked → seen.Linked
linked_seen naming l = record { target = target_seen naming l.target; internal = l.internal; types = map qualified_of l.types }

abbrev pub meaning_seen : Naming → held.Meaning → Meaning
meaning_seen naming (meaning.Object slot qual register) = an_object (slot_seen naming slot) (qualified_of qual) register
meaning_seen naming (meaning.Function number ty) = a_function number (type_of ty)
meaning_seen naming (meaning.Constant z) = a_constant z
meaning_seen naming (meaning.Typedef qual) = a_typedef (qualified_of qual)

abbrev pub tag_meaning_seen : held_tag.TagMeaning → TagMeaning
tag_meaning_seen (tag.Tagged kind number) = a_tag kind number
tag_meaning_seen (tag.Enumerated number) = an_enumeration number

abbrev pub with_meaning : {M N : Type 0} → (M → N) → Declared M → Declared N
with_meaning f d = record { symbol = d.symbol; depth = d.depth; meaning = f d.meaning }

-- with these declarations in scope
abbrev pub with_scopes : Naming → InScope → Env → Env
with_scopes naming s env = record env {
  ordinary = map (with_meaning (meaning_seen naming)) s.ordinary;
  tag_names = map (with_meaning tag_meaning_seen) s.tags;
  depth = s.depth;
  prototype = record {
    ordinary = map (with_meaning (meaning_seen naming)) s.kept_ordinary;
    tags = map (with_meaning tag_meaning_seen) s.kept_tags;
  };
}

-- a function: its type is that of its definition, once it is defined, and else the composite of those of its declarations (6.2.7p4)
abbrev pub signature_seen : FuncTy → Definition → Signature
signature_seen ty (definition.Own own body) = signature_of own
signature_seen ty _ = signature_of ty

abbrev pub library_seen : Definition → Option LibFunc
library_seen (definition.Library library) = Some library
library_seen _ = None

abbrev pub is_own : Definition → Bool
is_own (definition.Own own body) = true
is_own _ = false

abbrev pub body_seen : Definition → Option Statement
body_seen (definition.Own own body) = seen_body body
body_seen _ = None

abbrev pub routine_by : FuncTy → Definition → seen.Routine
routine_by ty d = record { signature = signature_seen ty d; library = library_seen d; defined = is_own d; body = body_seen d }

abbrev pub routine_seen : FunctionRow → seen.Routine
routine_seen row = routine_by row.ty row.definition

-- with these tokens, and the tags, the enumerations, the identifiers with linkage and the functions of this state
abbrev pub with_tables : Naming → TokenText → State → Env → Env
with_tables naming tokens state env = record env {
  tokens = tokens;
  tags = map tag_seen state.tags;
  enumerations = state.enumerations.items;
  linked = map (with_meaning (linked_seen naming)) state.linked;
  functions = map routine_seen state.functions.items;
}

-- what is known by this state; what it doesn't tell is as it was given
abbrev pub known_by : Naming → TokenText → State → Env → Env
known_by naming tokens state env = with_scopes naming state.names (with_tables naming tokens state env)

-- what is known is what the state tells
abbrev pub IsKnown : Naming → TokenText → State → Env → Type 0
IsKnown naming tokens state env = env ≡ known_by naming tokens state env
