-- The words of declarations and the types that they make: specifiers, qualifiers, derived types, parameters, members, tags and
-- enumerations (6.7.1 to 6.7.6). What nests in them stands in `Expressions`.
use Rattle.std.specs.Prelude.{ℕ, zero, suc, Bool, true, false, not, ◌&&◌, if◌then◌else◌, ℤ, pos, int_le, unsigned_abs, List, [], ◌∷◌, ◌++◌}
use Rattle.std.specs.Prelude.{length, slice_get, Option, Some, None, is_some}
use denote.Enum.Bare.{sameb}
use Rattle.c_lex.specs.declared.token.Word.{Word}
use Rattle.c_lex.specs.declared.token.Word.TheVariants as w
use Rattle.c_lex.specs.contracts.token.Word.{the_type as word_type}
use Rattle.c_types.specs.Types.{CType, Params, void, int, enumeration, pointer, array, struct, union, function, Qualified}
use Rattle.c_types.specs.declared.kind.IntKind.TheVariants.{Bool as Boolean, Char, SChar, UChar, Short, UShort, Int, UInt, Long, ULong, LLong, ULLong}
use Rattle.c_types.specs.declared.tags.TagKind.{TagKind}
use Rattle.c_types.specs.declared.tags.TagKind.TheVariants.{Struct, Union}
use Rattle.type_operands.specs.Qualifiers.{qualified}
use Rattle.c_typed.specs.declared.tree.Slot.TheVariants as slot
use Rattle.c_ast.specs.declared.declaration.Base.{Base}
use Rattle.c_ast.specs.declared.declaration.Base.TheBlock.{Tagged', Base-Tagged-2-Some', Enumerated', Base-Enumerated-1-Some'}
use Rattle.typing_env.specs.Seen.{SeenMember, SeenTag}
use Rattle.typing_words.specs.Tags.{is_complete, names, are_distinct, completed}
use Rattle.type_limits.specs.Limits.{is_within}
use Rattle.typing_env.specs.Env.{Typing, if_found, ◌>>=◌, ◌>>◌, pure, refuse, known, knowing, found, holds, an_object, a_typedef}
use Rattle.typing_env.specs.Env.{Meaning, TagMeaning, a_tag, an_enumeration, symbol_of, spelling}
use Rattle.typing_env.specs.Names.{declare, with_tag_name, tag_seen, with_new_tag, with_new_enumeration}

-- 1. Keywords among specifiers.

unfoldable pub is_word : Word → Word → Bool
is_word = sameb word_type

pub data Storage : Type 0 where
  no_storage : Storage
  typedefs : Storage
  externs : Storage
  statics : Storage
  autos : Storage
  registers : Storage

-- what a keyword is there (6.7.1, 6.7.2, 6.7.3, 6.7.4); the profile leaves the others out
pub data Role : Type 0 where
  storage : Storage → Role
  type_word : Role
  const_word : Role
  restrict_word : Role
  function_word : Role
  left_out : Role

abbrev pub role : Word → Role
role w.Typedef = storage typedefs
role w.Extern = storage externs
role w.Static = storage statics
role w.Auto = storage autos
role w.Register = storage registers
role w.Void = type_word
role w.Boolean = type_word
role w.Char = type_word
role w.Short = type_word
role w.Int = type_word
role w.Long = type_word
role w.Signed = type_word
role w.Unsigned = type_word
role w.Const = const_word
role w.Restrict = restrict_word
role w.Inline = function_word
role w.Noreturn = function_word
role _ = left_out

-- what they say together
pub record Words : Type 0 where
  pub storage : Storage
  pub types : List Word
  pub constant : Bool
  pub restricted : Bool
  pub is_function : Bool

abbrev pub no_words : Words
no_words = record { storage = no_storage; types = []; constant = false; restricted = false; is_function = false }

-- at most one storage class (6.7.1p2)
abbrev pub with_storage : Storage → Words → Storage → Option Words
with_storage s ws no_storage = Some (record ws { storage = s })
with_storage s ws _ = None

abbrev pub with_word : Word → Role → Words → Option Words
with_word word (storage s) ws = with_storage s ws ws.storage
with_word word type_word ws = Some (record ws { types = word ∷ ws.types })
with_word word const_word ws = Some (record ws { constant = true })
with_word word restrict_word ws = Some (record ws { restricted = true })
with_word word function_word ws = Some (record ws { is_function = true })
with_word word left_out ws = None

abbrev pub and_word : Word → Option Words → Option Words
and_word word None = None
and_word word (Some ws) = with_word word (role word) ws

abbrev pub said : List Word → Option Words
said [] = Some no_words
said (word ∷ words) = and_word word (said words)

-- 2. Type specifiers (6.7.2).

abbrev pub put_first : Word → Option (List Word) → Option (List Word)
put_first word None = None
put_first word (Some words) = Some (word ∷ words)

-- the words without this one, once
abbrev pub without : Word → List Word → Option (List Word)
without word [] = None
without word (v ∷ vs) = if is_word v word then Some vs else put_first v (without word vs)

abbrev pub is_so : {A : Type 0} → (A → Bool) → Option A → Bool
is_so f None = false
is_so f (Some a) = f a

-- the same words, in any order (6.7.2p2)
abbrev pub are_same_words : List Word → List Word → Bool
are_same_words [] [] = true
are_same_words [] (v ∷ vs) = false
are_same_words (word ∷ words) vs = is_so (are_same_words words) (without word vs)

-- the lists of 6.7.2p2
abbrev pub type_table : List (List Word × CType)
type_table =
    (w.Void ∷ [], void)
    ∷ (w.Char ∷ [], int Char)
    ∷ (w.Signed ∷ w.Char ∷ [], int SChar)
    ∷ (w.Unsigned ∷ w.Char ∷ [], int UChar)
    ∷ (w.Short ∷ [], int Short) ∷ (w.Signed ∷ w.Short ∷ [], int Short)
    ∷ (w.Short ∷ w.Int ∷ [], int Short) ∷ (w.Signed ∷ w.Short ∷ w.Int ∷ [], int Short)
    ∷ (w.Unsigned ∷ w.Short ∷ [], int UShort) ∷ (w.Unsigned ∷ w.Short ∷ w.Int ∷ [], int UShort)
    ∷ (w.Int ∷ [], int Int) ∷ (w.Signed ∷ [], int Int) ∷ (w.Signed ∷ w.Int ∷ [], int Int)
    ∷ (w.Unsigned ∷ [], int UInt) ∷ (w.Unsigned ∷ w.Int ∷ [], int UInt)
    ∷ (w.Long ∷ [], int Long) ∷ (w.Signed ∷ w.Long ∷ [], int Long)
    ∷ (w.Long ∷ w.Int ∷ [], int Long) ∷ (w.Signed ∷ w.Long ∷ w.Int ∷ [], int Long)
    ∷ (w.Unsigned ∷ w.Long ∷ [], int ULong) ∷ (w.Unsigned ∷ w.Long ∷ w.Int ∷ [], int ULong)
    ∷ (w.Long ∷ w.Long ∷ [], int LLong) ∷ (w.Signed ∷ w.Long ∷ w.Long ∷ [], int LLong)
    ∷ (w.Long ∷ w.Long ∷ w.Int ∷ [], int LLong) ∷ (w.Signed ∷ w.Long ∷ w.Long ∷ w.Int ∷ [], int LLong)
    ∷ (w.Unsigned ∷ w.Long ∷ w.Long ∷ [], int ULLong) ∷ (w.Unsigned ∷ w.Long ∷ w.Long ∷ w.Int ∷ [], int ULLong)
    ∷ (w.Boolean ∷ [], int Boolean) ∷ []

abbrev pub type_named : List Word → List (List Word × CType) → Option CType
type_named words [] = None
type_named words (row ∷ rows) = if are_same_words row.0 words then Some row.1 else type_named words rows

abbrev pub plain : CType → Qualified
plain t = record { constant = false; ty = t }

-- the type that a typedef name denotes (6.7.8p3)
abbrev pub typedef_in : Option Meaning → Option Qualified
typedef_in (Some (a_typedef qual)) = Some qual
typedef_in _ = None

-- 3. Qualifiers (6.7.3).

-- only a pointer to an object type is restrict-qualified (6.7.3p2)
abbrev pub may_be_restricted : CType → Bool
may_be_restricted (pointer c (function r ps v)) = false
may_be_restricted (pointer c t) = true
may_be_restricted _ = false

abbrev pub is_function_type : CType → Bool
is_function_type (function r ps v) = true
is_function_type _ = false

-- of an array the element is qualified, and no function type is (6.7.3p9)
abbrev pub const_type : Qualified → Option Qualified
const_type q = if is_function_type q.ty then None else Some (qualified true q.ty)

-- a type with the qualifiers that stand beside it
abbrev pub with_qualifiers : Words → Qualified → Option Qualified
with_qualifiers ws q =
    if ws.restricted && not (may_be_restricted q.ty) then None
    else if ws.constant then const_type q else Some q

abbrev pub is_no_word : List Word → Bool
is_no_word [] = true
is_no_word (word ∷ words) = false

-- 4. Derived types (6.7.6).

pub data Derivation : Type 0 where
  pointer_to : (constant : Bool) → (restricted : Bool) → Derivation
  array_of : (count : Option ℤ) → Derivation
  function_of : Params → (variadic : Bool) → Derivation

-- the qualifiers of a pointer (6.7.6.1)
abbrev pub has_no_storage : Storage → Bool
has_no_storage no_storage = true
has_no_storage _ = false

-- qualifiers, and type specifiers
abbrev pub are_qualifiers : Words → Bool
are_qualifiers ws = has_no_storage ws.storage && (is_no_word ws.types && not ws.is_function)

-- no storage class and no function specifier: what stands in type names and members (6.7.2.1, 6.7.7)
abbrev pub are_qualified : Words → Bool
are_qualified ws = has_no_storage ws.storage && not ws.is_function

abbrev pub pointer_by : Option Words → Option Derivation
pointer_by None = None
pointer_by (Some ws) = if are_qualifiers ws then Some (pointer_to ws.constant ws.restricted) else None

abbrev pub complete : List SeenTag → CType → Option CType
complete tags t = if is_complete tags t then Some t else None

abbrev pub plain_option : Option CType → Option Qualified
plain_option None = None
plain_option (Some t) = Some (plain t)

-- an array has more than 0 elements (6.7.6.2p1), and no more bytes than a type may have
abbrev pub counted_array : List SeenTag → Qualified → ℤ → Option Qualified
counted_array tags q n =
    if int_le n (pos 0) then None else plain_option (complete tags (array q.constant q.ty (Some (unsigned_abs n))))

abbrev pub array_by : List SeenTag → Qualified → Option ℤ → Option Qualified
array_by tags q None = Some (plain (array q.constant q.ty None))
array_by tags q (Some n) = counted_array tags q n

-- its elements have a complete object type (6.7.6.2p1)
abbrev pub array_with : List SeenTag → Qualified → Option ℤ → Option Qualified
array_with tags q count = if is_complete tags q.ty then array_by tags q count else None

-- a function returns no function and no array (6.7.6.3p1); the qualifier of what it returns says nothing (own)
abbrev pub function_with : CType → Params → Bool → Option Qualified
function_with (function r ps v) params variadic = None
function_with (array c t n) params variadic = None
function_with t params variadic = Some (plain (function t params variadic))

abbrev pub derived_by : List SeenTag → Qualified → Derivation → Option Qualified
derived_by tags q (pointer_to c restricted) =
    if restricted && is_function_type q.ty then None else Some (record { constant = c; ty = pointer q.constant q.ty })
derived_by tags q (array_of count) = array_with tags q count
derived_by tags q (function_of params variadic) = function_with q.ty params variadic

-- each derived type is within the limits of types (own)
abbrev pub limited_type : Qualified → Option Qualified
limited_type q = if is_within q.ty then Some q else None

abbrev pub limited : Option Qualified → Option Qualified
limited q = if_found q limited_type

-- the type that a declarator makes of the type in front of it: the part next to the name is derived last (6.7.6p4)
abbrev pub derived : List SeenTag → List Derivation → Qualified → Option Qualified
derived tags [] q = Some q
derived tags (d ∷ ds) q = if_found (limited (derived_by tags q d)) (derived tags ds)

-- how many elements an array type says, if it says so
abbrev pub count_of : CType → Option ℕ
count_of (array c t n) = n
count_of _ = None

-- 5. Parameters (6.7.6.3).

abbrev pub is_void : CType → Bool
is_void void = true
is_void _ = false

-- `(void)`: one parameter, without a name, of unqualified type `void` (6.7.6.3p10)
abbrev pub is_lone_void : Words → Option ℕ → Qualified → Bool
is_lone_void ws name q = are_qualified ws && (not (is_some name) && (not q.constant && is_void q.ty))

-- an array is adjusted to a pointer to its elements, a function to a pointer to it (6.7.6.3p7, 6.7.6.3p8)
abbrev pub adjusted_type : Bool → CType → Qualified
adjusted_type c (array d t n) = plain (pointer d t)
adjusted_type c (function r ps v) = plain (pointer false (function r ps v))
adjusted_type c t = record { constant = c; ty = t }

abbrev pub adjusted : Qualified → Qualified
adjusted q = adjusted_type q.constant q.ty

-- the only storage class is `register` (6.7.6.3p2)
abbrev pub is_register : Storage → Option Bool
is_register no_storage = Some false
is_register registers = Some true
is_register _ = None

unfoldable pub declare_parameter : Option ℕ → ℕ → Qualified → Bool → Typing (Unit {0})
declare_parameter None index qual register = pure tt
declare_parameter (Some at) index qual register = declare at (an_object (slot.Auto 0 index) qual register)

-- a parameter, in scope behind its declarator (6.2.1p7): an object of the function's body block (6.9.1p9)
unfoldable pub parameter : ℕ → Words → Option ℕ → Qualified → Typing Qualified
parameter index ws name qual = do
  register ← found (is_register ws.storage)
  holds (not ws.is_function && not (is_void qual.ty))
  declare_parameter name index (adjusted qual) register
  pure (adjusted qual)

-- 6. Structures and unions (6.7.2.1, 6.7.2.3).

abbrev pub kind_of_tag : Bool → TagKind
kind_of_tag true = Union
kind_of_tag false = Struct

abbrev pub tagged : TagKind → ℕ → CType
tagged Struct number = struct number
tagged Union number = union number

-- a new structure or union, incomplete (6.7.2.3p4)
unfoldable pub new_tag : TagKind → Typing ℕ
new_tag kind = do
  env ← known
  knowing (with_new_tag kind)
  pure (length env.tags)

unfoldable pub declare_tag : ℕ → TagKind → Typing ℕ
declare_tag at kind = do
  number ← new_tag kind
  env ← known
  knowing (with_tag_name (symbol_of env at) (a_tag kind number))
  pure number

abbrev pub is_kind : TagKind → TagKind → Bool
is_kind Struct Struct = true
is_kind Union Union = true
is_kind _ _ = false

-- the tag of that kind, or a new one where none is declared; one of another kind is refused (6.7.2.3p2)
unfoldable pub tag_or_new : ℕ → TagKind → Option TagMeaning → Typing ℕ
tag_or_new at kind None = declare_tag at kind
tag_or_new at kind (Some (a_tag was number)) = do
  holds (is_kind was kind)
  pure number
tag_or_new at kind (Some (an_enumeration number)) = refuse

-- `struct S` without a member list
unfoldable pub reference : (alone : Bool) → TagKind → Option ℕ → Typing Qualified
reference alone kind None = refuse
reference alone kind (Some at) = do
  env ← known
  number ← tag_or_new at kind (tag_seen env alone (symbol_of env at))
  pure (plain (tagged kind number))

abbrev pub is_any : List SeenMember → Bool
is_any [] = false
is_any (m ∷ ms) = true

abbrev pub has_members : Option SeenTag → Bool
has_members None = false
has_members (Some t) = is_any t.members

-- the structure whose member list begins: that of the same tag in this scope, whose content isn't defined so far (6.7.2.3p1), or a new
-- one (6.7.2.3p4)
unfoldable pub open_tag : TagKind → Option ℕ → Typing ℕ
open_tag kind None = new_tag kind
open_tag kind (Some at) = do
  env ← known
  number ← tag_or_new at kind (tag_seen env true (symbol_of env at))
  here ← known
  holds (not (has_members (slice_get here.tags number)))
  pure number

-- the end of the member list: the content is defined once, and so not by a list inside this one (6.7.2.3p1), there is a member
-- (6.7.2.1p8), and no more bytes than a type may have
unfoldable pub close_tag : TagKind → ℕ → List SeenMember → Typing Qualified
close_tag kind number members = do
  env ← known
  holds (not (has_members (slice_get env.tags number)))
  holds (is_complete (completed env.tags number members) (tagged kind number))
  holds (are_distinct (names (completed env.tags number members) number))
  knowing (λ e. record e { tags = completed e.tags number members })
  pure (plain (tagged kind number))

-- a member of complete object type with a name (6.7.2.1p3)
unfoldable pub named_member : Option ℕ → Qualified → Typing (List SeenMember)
named_member None qual = refuse
named_member (Some at) qual = do
  env ← known
  holds (is_complete env.tags qual.ty)
  pure (record { name = spelling env at; qual = qual } ∷ [])

-- an unnamed structure or union without a tag (6.7.2.1p13)
abbrev pub is_unnamed : Base → Bool
is_unnamed (Tagged' u None (Base-Tagged-2-Some' p members)) = true
is_unnamed _ = false

unfoldable pub unnamed_member : Base → Qualified → Typing (List SeenMember)
unnamed_member base qual = do
  holds (is_unnamed base)
  pure (record { name = []; qual = qual } ∷ [])

-- 7. Enumerations (6.7.2.2).

abbrev pub is_set : Option Bool → Bool
is_set None = false
is_set (Some b) = b

abbrev pub flag_at : ℕ → List Bool → Bool
flag_at number flags = is_set (slice_get flags number)

-- `enum E` without its list: one that is complete (6.7.2.3p3)
unfoldable pub enumeration_seen : Option TagMeaning → Typing Qualified
enumeration_seen (Some (an_enumeration number)) = do
  env ← known
  holds (flag_at number env.enumerations)
  pure (plain (enumeration number))
enumeration_seen _ = refuse

unfoldable pub enumeration_reference : Option ℕ → Typing Qualified
enumeration_reference None = refuse
enumeration_reference (Some at) = do
  env ← known
  enumeration_seen (tag_seen env false (symbol_of env at))

unfoldable pub name_enumeration : Option ℕ → ℕ → Typing (Unit {0})
name_enumeration None number = pure tt
name_enumeration (Some at) number = do
  env ← known
  holds (not (is_some (tag_seen env true (symbol_of env at))))
  knowing (with_tag_name (symbol_of env at) (an_enumeration number))

-- the enumeration whose list begins: its tag is new in this scope (6.7.2.3p1)
unfoldable pub open_enumeration : Option ℕ → Typing ℕ
open_enumeration tag = do
  env ← known
  knowing with_new_enumeration
  name_enumeration tag (length env.enumerations)
  pure (length env.enumerations)

abbrev pub flagged : ℕ → List Bool → List Bool
flagged n [] = []
flagged zero (b ∷ bs) = true ∷ bs
flagged (suc n) (b ∷ bs) = b ∷ flagged n bs

unfoldable pub close_enumeration : ℕ → Typing Qualified
close_enumeration number = do
  knowing (λ e. record e { enumerations = flagged number e.enumerations })
  pure (plain (enumeration number))

-- 8. Declarations that declare something (6.7p2).

-- specifiers alone declare a tag, or the constants of an enumeration
abbrev pub declares_alone : Base → Bool
declares_alone (Tagged' u (Some at) members) = true
declares_alone (Enumerated' tag (Base-Enumerated-1-Some' p all)) = true
declares_alone _ = false

-- the specifiers define a type
abbrev pub defines_type : Base → Bool
defines_type (Tagged' u tag (Base-Tagged-2-Some' p members)) = true
defines_type (Enumerated' tag (Base-Enumerated-1-Some' p all)) = true
defines_type _ = false
