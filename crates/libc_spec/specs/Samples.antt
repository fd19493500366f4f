-- Calls on a small store, worked by hand from 7.21, 7.22 and 7.24: what each gives, and its items.
use Rattle.std.specs.Prelude.{◌≡◌, ℕ, zero, suc, Bool, true, false, List, [], ◌∷◌, Option, Some, None, pos, negsuc, slice_index_or}
use Rattle.ub_base.specs.declared.clause.Clause.{Clause}
use Rattle.ub_base.specs.declared.clause.Clause.TheVariants.{LibraryArgument, StrcpyOverlap, MemcpyOverlap, StoreToConst, Free as FreeOfOther}
use Rattle.ub_base.specs.declared.names.Event.{Event}
use Rattle.ub_base.specs.declared.clause.Kind.TheVariants.{Body}
use Rattle.ub_base.specs.declared.names.ObjName.{ObjName}
use Rattle.ub_base.specs.declared.names.ObjName.TheVariants.{Static}
use Rattle.ub_base.specs.declared.names.Item.{Item}
use Rattle.ub_base.specs.declared.names.Item.TheVariants.{Read, Alive}
use Rattle.addr_map.specs.declared.map.Row.{Row}
use Rattle.exposure.specs.declared.prov.Prov.TheVariants.{Whole}
use Rattle.c_types.specs.declared.library.LibFunc.{LibFunc}
use Rattle.c_types.specs.declared.library.LibFunc.TheVariants.{Malloc, Free, Memcpy, Memset, Strlen, Strcpy, Strcmp, Strchr, Getchar, Putchar, Puts, Exit}
use Rattle.mem_spec.specs.Store.{TaggedByte, fresh, Life, Store}
use Rattle.mem_spec.specs.Streams.{silent}
use Rattle.mem_spec.specs.Script.{Act, Done, Raised, Ended}
use Rattle.libc_spec.specs.Library.{LibValue, number, pointer, null, plain, called}

-- static 0 has "ab" in four bytes, the last of them unwritten, at 16777216; static 1 has two bytes without a zero, const, at 16777248
abbrev pub text_bytes : List TaggedByte
text_bytes = plain 97 ∷ plain 98 ∷ plain 0 ∷ []

abbrev pub open_bytes : List TaggedByte
open_bytes = plain 120 ∷ plain 121 ∷ []

abbrev pub bytes_of : ObjName → ℕ → TaggedByte
bytes_of (Static zero) i = slice_index_or text_bytes i fresh
bytes_of (Static (suc n)) i = slice_index_or open_bytes i fresh
bytes_of _ i = fresh

abbrev pub life_of : Bool → Life
life_of constant = record { live = true; kind = record { heap = false; literal = false; constant = constant }; declared = None }

abbrev pub lives : ObjName → Option Life
lives (Static zero) = Some (life_of false)
lives (Static (suc zero)) = Some (life_of true)
lives _ = None

abbrev pub store : Store
store = record {
  life = lives;
  exposed = λ x. false;
  bytes = bytes_of;
  kept = λ e. None;
  input = 113 ∷ [];
  position = 0;
  output = silent;
  created = 32;
}

abbrev pub rows : List Row
rows =
    (record { name = Static 0; base = 16777216; size = 4; align = 1 })
    ∷ (record { name = Static 1; base = 16777248; size = 2; align = 1 })
    ∷ []

abbrev pub who : Event
who = record { frame = record { 0 = 0 }; turn = 1; node = 0; kind = Body }

abbrev pub text : LibValue
text = pointer 16777216 (Whole (Static 0))

abbrev pub open_text : LibValue
open_text = pointer 16777248 (Whole (Static 1))

-- what a call gives: a value, the end of the run with a status, or a clause
pub data Given : Type 0 where
  value : LibValue → Given
  ends : (status : ℕ) → Given
  raises : Clause → Given
  other : Given

abbrev pub given : Act LibValue → Given
given (Done v is s) = value v
given (Raised c) = raises c
given (Ended n is s) = ends n
given _ = other

abbrev pub items : Act LibValue → List Item
items (Done v is s) = is
items _ = []

abbrev pub printed : Act LibValue → List ℕ
printed (Done v is s) = s.output.standard
printed _ = []

abbrev pub byte_after : Act LibValue → ObjName → ℕ → TaggedByte
byte_after (Done v is s) x i = s.bytes x i
byte_after _ x i = fresh

abbrev pub call : LibFunc → List LibValue → Act LibValue
call f vs = called rows f vs who store

pub record Samples : Type 0 where
  pub length : given (call Strlen (text ∷ [])) ≡ value (number (pos 2))
  pub length_items : items (call Strlen (text ∷ [])) ≡ Alive (Static 0) ∷ Read (Static 0) 0 3 ∷ []
  pub no_zero : given (call Strlen (open_text ∷ [])) ≡ raises LibraryArgument
  pub null_text : given (call Strlen (null ∷ [])) ≡ raises LibraryArgument
  pub below : given (call Strcmp (text ∷ text ∷ [])) ≡ value (number (pos 0))
  pub below_items : items (call Strcmp (text ∷ pointer 16777217 (Whole (Static 0)) ∷ [])) ≡ Alive (Static 0) ∷ Read (Static 0) 0 3 ∷ Alive (Static 0) ∷ Read
      (Static 0) 1 2 ∷ []
  pub found : given (call Strchr (text ∷ number (pos 98) ∷ [])) ≡ value (pointer 16777217 (Whole (Static 0)))
  pub not_found : given (call Strchr (text ∷ number (pos 122) ∷ [])) ≡ value null
  pub on_itself : given (call Strcpy (text ∷ text ∷ [])) ≡ raises StrcpyOverlap
  pub to_const : given (call Memcpy (open_text ∷ text ∷ number (pos 2) ∷ [])) ≡ raises StoreToConst
  pub overlapping : given (call Memcpy (text ∷ pointer 16777217 (Whole (Static 0)) ∷ number (pos 2) ∷ [])) ≡ raises MemcpyOverlap
  pub filled : byte_after (call Memset (text ∷ number (pos 321) ∷ number (pos 1) ∷ [])) (Static 0) 0 ≡ plain 65
  pub next_byte : given (call Getchar []) ≡ value (number (pos 113))
  pub byte_printed : printed (call Putchar (number (negsuc 0) ∷ [])) ≡ 255 ∷ []
  pub line_printed : printed (call Puts (text ∷ [])) ≡ 97 ∷ 98 ∷ 10 ∷ []
  pub status : given (call Exit (number (pos 259) ∷ [])) ≡ ends 3
  pub too_large : given (call Malloc (number (pos 1048577) ∷ [])) ≡ value null
  pub no_row : given (call Malloc (number (pos 8) ∷ [])) ≡ other
  pub no_heap : given (call Free (text ∷ [])) ≡ raises FreeOfOther
