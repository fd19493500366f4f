-- Keywords among specifiers as they are kept: what the definition says of them, but that type specifiers are counted, as far as a byte
-- counts (6.7.1 to 6.7.4).
use Rattle.std.specs.Prelude.{◌≡◌, ℕ, ◌+◌, ◌==◌, nat_lt, min, Bool, true, false, ◌&&◌, ◌||◌, if◌then◌else◌, List, [], ◌∷◌, ◌++◌, Option, Some, None, is_some}
use Rattle.c_lex.specs.declared.token.Word.{Word}
use Rattle.c_lex.specs.declared.token.Word.TheVariants as w
use Rattle.c_types.specs.Types.{CType, int}
use Rattle.c_types.specs.declared.kind.IntKind.TheVariants.{Bool as Boolean, Char, SChar, UChar, Short, UShort, Int, UInt, Long, ULong, LLong, ULLong}
use Rattle.type_reasons.specs.declared.reason.Reason.{Reason}
use Rattle.type_reasons.specs.declared.reason.Reason.TheVariants as reason
use Rattle.typing_words.specs.Words.{Role, role, type_word, is_word, Words, Derivation, pointer_to}
use Rattle.typing_words.specs.Words as said
use Rattle.type_declarators.specs.declared.words.Storage.{Storage}
use Rattle.type_declarators.specs.declared.words.Storage.TheVariants as storage
use Rattle.type_declarators.specs.declared.words.Types.{Types}
use Rattle.type_declarators.specs.declared.words.Words as held

-- 1. One keyword more.

abbrev pub storage_seen : Storage → said.Storage
storage_seen storage.None = said.no_storage
storage_seen storage.Typedef = said.typedefs
storage_seen storage.Extern = said.externs
storage_seen storage.Static = said.statics
storage_seen storage.Auto = said.autos
storage_seen storage.Register = said.registers

-- one more, as far as a byte counts
abbrev pub one_more : ℕ → ℕ
one_more n = min (n + 1) 255

abbrev pub with_type : Word → Types → Types
with_type w.Void t = record t { void = one_more t.void }
with_type w.Boolean t = record t { boolean = one_more t.boolean }
with_type w.Char t = record t { character = one_more t.character }
with_type w.Short t = record t { short = one_more t.short }
with_type w.Int t = record t { int = one_more t.int }
with_type w.Long t = record t { long = one_more t.long }
with_type w.Signed t = record t { signed = one_more t.signed }
with_type w.Unsigned t = record t { unsigned = one_more t.unsigned }
with_type _ t = t

abbrev pub is_type_role : Role → Bool
is_type_role type_word = true
is_type_role _ = false

-- the rule of the profile that leaves a keyword out (own)
abbrev pub left_out : Word → Reason
left_out w.Float = reason.LeftOutFloating
left_out w.Double = reason.LeftOutFloating
left_out w.Complex = reason.LeftOutFloating
left_out w.Imaginary = reason.LeftOutFloating
left_out w.Volatile = reason.LeftOutQualifier
left_out w.Atomic = reason.LeftOutQualifier
left_out _ = reason.LeftOutSpecifier

abbrev pub stored : Storage → held.Words → held.Words
stored s h = record h { storage = s; storages = one_more h.storages }

abbrev pub with_other : Word → Bool → held.Words → held.Words
with_other word true h = record h { types = with_type word h.types }
with_other word false h = record h { unknown = Some (left_out word) }

abbrev pub added : Word → held.Words → held.Words
added w.Typedef h = stored storage.Typedef h
added w.Extern h = stored storage.Extern h
added w.Static h = stored storage.Static h
added w.Auto h = stored storage.Auto h
added w.Register h = stored storage.Register h
added w.Const h = record h { constant = true }
added w.Restrict h = record h { restricted = true }
added w.Inline h = record h { function = true }
added w.Noreturn h = record h { function = true }
added word h = with_other word (is_type_role (role word)) h

abbrev pub all_added : held.Words → List Word → held.Words
all_added h [] = h
all_added h (word ∷ words) = all_added (added word h) words

abbrev pub no_types : Types
no_types = record { void = 0; boolean = 0; character = 0; short = 0; int = 0; long = 0; signed = 0; unsigned = 0 }

abbrev pub none_held : held.Words
none_held = record {
  storage = storage.None;
  constant = false;
  restricted = false;
  function = false;
  storages = 0;
  unknown = None;
  types = no_types;
}

-- 2. What is kept of a list of keywords.

-- a keyword that the profile leaves out, or two storage classes
abbrev pub is_refused : held.Words → Bool
is_refused h = is_some h.unknown || nat_lt 1 h.storages

-- the type specifiers of 6.7.2p2 that are keywords of the profile
pub data TypeWord : Type 0 where
  a_void : TypeWord
  a_boolean : TypeWord
  a_character : TypeWord
  a_short : TypeWord
  an_int : TypeWord
  a_long : TypeWord
  a_signed : TypeWord
  an_unsigned : TypeWord

abbrev pub word_of : TypeWord → Word
word_of a_void = w.Void
word_of a_boolean = w.Boolean
word_of a_character = w.Char
word_of a_short = w.Short
word_of an_int = w.Int
word_of a_long = w.Long
word_of a_signed = w.Signed
word_of an_unsigned = w.Unsigned

abbrev pub kept : TypeWord → Types → ℕ
kept a_void t = t.void
kept a_boolean t = t.boolean
kept a_character t = t.character
kept a_short t = t.short
kept an_int t = t.int
kept a_long t = t.long
kept a_signed t = t.signed
kept an_unsigned t = t.unsigned

-- how often a word stands in a list
abbrev pub times : Word → List Word → ℕ
times word [] = 0
times word (v ∷ vs) = if is_word v word then times word vs + 1 else times word vs

abbrev pub are_types : List Word → Bool
are_types [] = true
are_types (v ∷ vs) = is_type_role (role v) && are_types vs

-- these are counted
pub record AreCounted (t : Types) (words : List Word) : Type 0 where
  pub types : are_types words ≡ true
  pub counts : (k : TypeWord) → kept k t ≡ min (times (word_of k) words) 255

-- these are said
pub record IsSaid (h : held.Words) (ws : Words) : Type 0 where
  pub allowed : is_refused h ≡ false
  pub storage : storage_seen h.storage ≡ ws.storage
  pub constant : h.constant ≡ ws.constant
  pub restricted : h.restricted ≡ ws.restricted
  pub function : h.function ≡ ws.is_function
  pub types : AreCounted h.types ws.types

-- what the definition says of them, or that it says nothing
abbrev pub Says : held.Words → Option Words → Type 0
Says h None = is_refused h ≡ true
Says h (Some ws) = IsSaid h ws

-- 3. The type that the type specifiers name.

abbrev pub counts_of : List Word → Types
counts_of [] = no_types
counts_of (v ∷ vs) = with_type v (counts_of vs)

abbrev pub are_same : Types → Types → Bool
are_same a b =
    (a.void == b.void) && ((a.boolean == b.boolean) && ((a.character == b.character) && ((a.short == b.short)
    && ((a.int == b.int) && ((a.long == b.long) && ((a.signed == b.signed) && (a.unsigned == b.unsigned)))))))

abbrev pub named_by : Types → List (List Word × CType) → Option CType
named_by t [] = None
named_by t (row ∷ rows) = if are_same t (counts_of row.0) then Some row.1 else named_by t rows

-- 4. The qualifiers of a pointer (6.7.6.1).

abbrev pub pointer_from : Bool → Bool → List Word → Option Derivation
pointer_from c r [] = Some (pointer_to c r)
pointer_from c r (w.Const ∷ words) = pointer_from true r words
pointer_from c r (w.Restrict ∷ words) = pointer_from c true words
pointer_from c r (_ ∷ words) = None

abbrev pub part_of : Option (Bool × Bool) → Option Derivation
part_of None = None
part_of (Some p) = Some (pointer_to p.0 p.1)

-- rows of the table of 6.7.2p2

abbrev pub character_rows : List (List Word × CType)
character_rows =
    (w.Char ∷ [], int Char)
    ∷ (w.Signed ∷ w.Char ∷ [], int SChar)
    ∷ (w.Unsigned ∷ w.Char ∷ [], int UChar) ∷ []

abbrev pub short_rows : List (List Word × CType)
short_rows =
    (w.Short ∷ [], int Short)
    ∷ (w.Signed ∷ w.Short ∷ [], int Short)
    ∷ (w.Short ∷ w.Int ∷ [], int Short)
    ∷ (w.Signed ∷ w.Short ∷ w.Int ∷ [], int Short)
    ∷ (w.Unsigned ∷ w.Short ∷ [], int UShort)
    ∷ (w.Unsigned ∷ w.Short ∷ w.Int ∷ [], int UShort) ∷ []

abbrev pub int_rows : List (List Word × CType)
int_rows =
    (w.Int ∷ [], int Int)
    ∷ (w.Signed ∷ [], int Int)
    ∷ (w.Signed ∷ w.Int ∷ [], int Int)
    ∷ (w.Unsigned ∷ [], int UInt)
    ∷ (w.Unsigned ∷ w.Int ∷ [], int UInt) ∷ []

abbrev pub long_rows : List (List Word × CType)
long_rows =
    (w.Long ∷ [], int Long)
    ∷ (w.Signed ∷ w.Long ∷ [], int Long)
    ∷ (w.Long ∷ w.Int ∷ [], int Long)
    ∷ (w.Signed ∷ w.Long ∷ w.Int ∷ [], int Long)
    ∷ (w.Unsigned ∷ w.Long ∷ [], int ULong)
    ∷ (w.Unsigned ∷ w.Long ∷ w.Int ∷ [], int ULong) ∷ []

abbrev pub long_long_rows : List (List Word × CType)
long_long_rows =
    (w.Long ∷ w.Long ∷ [], int LLong)
    ∷ (w.Signed ∷ w.Long ∷ w.Long ∷ [], int LLong)
    ∷ (w.Long ∷ w.Long ∷ w.Int ∷ [], int LLong)
    ∷ (w.Signed ∷ w.Long ∷ w.Long ∷ w.Int ∷ [], int LLong)
    ∷ (w.Unsigned ∷ w.Long ∷ w.Long ∷ [], int ULLong)
    ∷ (w.Unsigned ∷ w.Long ∷ w.Long ∷ w.Int ∷ [], int ULLong) ∷ []

abbrev pub integer_rows : List (List Word × CType)
integer_rows = short_rows ++ (int_rows ++ (long_rows ++ long_long_rows))

abbrev pub kind_rows : List (List Word × CType)
kind_rows = character_rows ++ integer_rows

abbrev pub truth_rows : List (List Word × CType)
truth_rows = (w.Boolean ∷ [], int Boolean) ∷ []
