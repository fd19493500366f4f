-- Calls of printf, with the bytes that the C library of an x86-64 GNU/Linux prints, and refusals by 7.21.6.1.
use Rattle.std.specs.Prelude.{◌≡◌, ℕ, zero, suc, true, false, List, [], ◌∷◌, ◌++◌, map, length, codes, Option, Some, None, ℤ, pos, negsuc, slice_index_or, ◌+◌}
use Rattle.ub_base.specs.declared.clause.Clause.{Clause}
use Rattle.ub_base.specs.declared.clause.Clause.TheVariants.{Conversion, TooFewArguments, LibraryArgument}
use Rattle.ub_base.specs.declared.clause.Cause.{Cause}
use Rattle.ub_base.specs.declared.clause.Cause.TheVariants.{Conversion as PastConversion, Directive as PastDirective}
use Rattle.ub_base.specs.declared.names.Item.{Item}
use Rattle.ub_base.specs.declared.names.Item.TheVariants.{Alive, Read, Output}
use Rattle.ub_base.specs.declared.names.ObjName.{ObjName}
use Rattle.ub_base.specs.declared.names.ObjName.TheVariants.{Lit}
use Rattle.addr_map.specs.declared.map.Row.{Row}
use Rattle.exposure.specs.declared.prov.Prov.TheVariants.{Empty, Whole}
use Rattle.c_types.specs.declared.kind.IntKind.{IntKind}
use Rattle.c_types.specs.declared.kind.IntKind.TheVariants.{Char, Int, UInt, Long, ULong}
use Rattle.c_types.specs.Types.{CType, void, int}
use Rattle.c_types.specs.Types as types
use Rattle.mem_spec.specs.Store.{TaggedByte, fresh, Life, Store}
use Rattle.mem_spec.specs.Streams.{Outputs, on_output, silent}
use Rattle.mem_spec.specs.Script.{Act, Done, Raised, Outside}
use Rattle.libc_spec.specs.Library.{LibValue, number, pointer, plain}
use Rattle.libc_spec.specs.Print.{Argument, printed_by}
use Rattle.libc_spec.specs.Formatted.{printed_to_by}

-- lit 0 is the format, at 16777216, and lit 1 is "hi", at 16777472
abbrev pub text_bytes : List ℕ → List TaggedByte
text_bytes cs = map plain (cs ++ 0 ∷ [])

abbrev pub bytes_of : List ℕ → ObjName → ℕ → TaggedByte
bytes_of format (Lit zero) i = slice_index_or (text_bytes format) i fresh
bytes_of format (Lit (suc n)) i = slice_index_or (text_bytes (codes "hi")) i fresh
bytes_of format _ i = fresh

abbrev pub literal : Life
literal = record { live = true; kind = record { heap = false; literal = true; constant = false }; declared = None }

abbrev pub lives : ObjName → Option Life
lives (Lit zero) = Some literal
lives (Lit (suc zero)) = Some literal
lives _ = None

abbrev pub store_of : List ℕ → Store
store_of format = record {
  life = lives;
  exposed = λ x. false;
  bytes = bytes_of format;
  kept = λ e. None;
  input = [];
  position = 0;
  output = silent;
  created = 32;
}

abbrev pub rows_of : List ℕ → List Row
rows_of format =
    (record { name = Lit 0; base = 16777216; size = length format + 1; align = 1 })
    ∷ (record { name = Lit 1; base = 16777472; size = 3; align = 1 })
    ∷ []

abbrev pub pointer_to : CType → CType
pointer_to t = types.pointer true t

abbrev pub given_int : IntKind → ℤ → Argument
given_int kind n = record { value = number n; ty = int kind }

abbrev pub word : Argument
word = record { value = pointer 16777472 (Whole (Lit 1)); ty = pointer_to (int Char) }

abbrev pub call : List ℕ → List Argument → Act LibValue
call format args = printed_by (rows_of format) (pointer 16777216 (Whole (Lit 0))) args (store_of format)

pub data Answer : Type 0 where
  value : LibValue → Answer
  raises : Clause → Answer
  leaves : Cause → ℕ → Answer
  other : Answer

abbrev pub answer_of : Act LibValue → Answer
answer_of (Done v is s) = value v
answer_of (Raised c) = raises c
answer_of (Outside c n) = leaves c n
answer_of _ = other

abbrev pub answers : List ℕ → List Argument → Answer
answers format args = answer_of (call format args)

abbrev pub output_of : Act LibValue → List ℕ
output_of (Done v is s) = s.output.standard
output_of _ = []

abbrev pub prints : List ℕ → List Argument → List ℕ
prints format args = output_of (call format args)

abbrev pub items_of : Act LibValue → List Item
items_of (Done v is s) = is
items_of _ = []

abbrev pub items : List ℕ → List Argument → List Item
items format args = items_of (call format args)

-- the same string from its second byte on
abbrev pub tail : Argument
tail = record { value = pointer 16777473 (Whole (Lit 1)); ty = pointer_to (int Char) }

-- fprintf of "hi" to the stream of a number
abbrev pub call_to : ℤ → Act LibValue
call_to stream = printed_to_by (rows_of (codes "hi")) stream (pointer 16777216 (Whole (Lit 0))) [] (store_of (codes "hi"))

abbrev pub outputs_of : Act LibValue → Outputs
outputs_of (Done v is s) = s.output
outputs_of _ = silent

pub record PrintSamples : Type 0 where
  -- %d of 0
  pub row_0 : prints (codes "%d") ((given_int Int (pos 0)) ∷ []) ≡ 48 ∷ []
  -- %d of 42
  pub row_1 : prints (codes "%d") ((given_int Int (pos 42)) ∷ []) ≡ 52 ∷ 50 ∷ []
  -- %-5d| of 42
  pub row_2 : prints (codes "%-5d|") ((given_int Int (pos 42)) ∷ []) ≡ 52 ∷ 50 ∷ 32 ∷ 32 ∷ 32 ∷ 124 ∷ []
  -- %05d of 42
  pub row_3 : prints (codes "%05d") ((given_int Int (pos 42)) ∷ []) ≡ 48 ∷ 48 ∷ 48 ∷ 52 ∷ 50 ∷ []
  -- %+d of 42
  pub row_4 : prints (codes "%+d") ((given_int Int (pos 42)) ∷ []) ≡ 43 ∷ 52 ∷ 50 ∷ []
  -- % d of 42
  pub row_5 : prints (codes "% d") ((given_int Int (pos 42)) ∷ []) ≡ 32 ∷ 52 ∷ 50 ∷ []
  -- %08.5d of 42
  pub row_6 : prints (codes "%08.5d") ((given_int Int (pos 42)) ∷ []) ≡ 32 ∷ 32 ∷ 32 ∷ 48 ∷ 48 ∷ 48 ∷ 52 ∷ 50 ∷ []
  -- %.0d of 0
  pub row_7 : prints (codes "%.0d") ((given_int Int (pos 0)) ∷ []) ≡ []
  -- %ld of -9223372036854775808
  pub row_8 : prints (codes "%ld") ((given_int Long (negsuc 9223372036854775807)) ∷ []) ≡ 45 ∷ 57 ∷ 50 ∷ 50 ∷ 51 ∷ 51 ∷ 55 ∷ 50 ∷ 48 ∷ 51 ∷ 54 ∷ 56 ∷ 53 ∷ 52
      ∷ 55 ∷ 55 ∷ 53 ∷ 56 ∷ 48 ∷ 56 ∷ []
  -- %hhd of 200
  pub row_9 : prints (codes "%hhd") ((given_int Int (pos 200)) ∷ []) ≡ 45 ∷ 53 ∷ 54 ∷ []
  -- %lu of 18446744073709551615
  pub row_10 : prints (codes "%lu") ((given_int ULong (pos 18446744073709551615)) ∷ []) ≡ 49 ∷ 56 ∷ 52 ∷ 52 ∷ 54 ∷ 55 ∷ 52 ∷ 52 ∷ 48 ∷ 55 ∷ 51 ∷ 55 ∷ 48 ∷ 57
      ∷ 53 ∷ 53 ∷ 49 ∷ 54 ∷ 49 ∷ 53 ∷ []
  -- %hu of 65537
  pub row_11 : prints (codes "%hu") ((given_int UInt (pos 65537)) ∷ []) ≡ 49 ∷ []
  -- %#o of 0
  pub row_12 : prints (codes "%#o") ((given_int UInt (pos 0)) ∷ []) ≡ 48 ∷ []
  -- %#o of 8
  pub row_13 : prints (codes "%#o") ((given_int UInt (pos 8)) ∷ []) ≡ 48 ∷ 49 ∷ 48 ∷ []
  -- %#5o of 0
  pub row_14 : prints (codes "%#5o") ((given_int UInt (pos 0)) ∷ []) ≡ 32 ∷ 32 ∷ 32 ∷ 32 ∷ 48 ∷ []
  -- %x of 0
  pub row_15 : prints (codes "%x") ((given_int UInt (pos 0)) ∷ []) ≡ 48 ∷ []
  -- %x of 171
  pub row_16 : prints (codes "%x") ((given_int UInt (pos 171)) ∷ []) ≡ 97 ∷ 98 ∷ []
  -- %X of 0
  pub row_17 : prints (codes "%X") ((given_int UInt (pos 0)) ∷ []) ≡ 48 ∷ []
  -- %#-6x| of 0
  pub row_18 : prints (codes "%#-6x|") ((given_int UInt (pos 0)) ∷ []) ≡ 48 ∷ 32 ∷ 32 ∷ 32 ∷ 32 ∷ 32 ∷ 124 ∷ []
  -- %#08x of 0
  pub row_19 : prints (codes "%#08x") ((given_int UInt (pos 0)) ∷ []) ≡ 48 ∷ 48 ∷ 48 ∷ 48 ∷ 48 ∷ 48 ∷ 48 ∷ 48 ∷ []
  -- %c of 97
  pub row_20 : prints (codes "%c") ((given_int Int (pos 97)) ∷ []) ≡ 97 ∷ []
  -- %5c of 97
  pub row_21 : prints (codes "%5c") ((given_int Int (pos 97)) ∷ []) ≡ 32 ∷ 32 ∷ 32 ∷ 32 ∷ 97 ∷ []
  -- %s of hi
  pub row_22 : prints (codes "%s") (word ∷ []) ≡ 104 ∷ 105 ∷ []
  -- %-5s| of hi
  pub row_23 : prints (codes "%-5s|") (word ∷ []) ≡ 104 ∷ 105 ∷ 32 ∷ 32 ∷ 32 ∷ 124 ∷ []
  -- %.1s of hi
  pub row_24 : prints (codes "%.1s") (word ∷ []) ≡ 104 ∷ []
  -- %*d| of -5, 42
  pub row_25 : prints (codes "%*d|") ((given_int Int (negsuc 4)) ∷ (given_int Int (pos 42)) ∷ []) ≡ 52 ∷ 50 ∷ 32 ∷ 32 ∷ 32 ∷ 124 ∷ []
  -- %.*d of 4, 42
  pub row_26 : prints (codes "%.*d") ((given_int Int (pos 4)) ∷ (given_int Int (pos 42)) ∷ []) ≡ 48 ∷ 48 ∷ 52 ∷ 50 ∷ []
  -- %d%% of 50
  pub row_27 : prints (codes "%d%%") ((given_int Int (pos 50)) ∷ []) ≡ 53 ∷ 48 ∷ 37 ∷ []
  -- a%db%dc of 1, 2
  pub row_28 : prints (codes "a%db%dc") ((given_int Int (pos 1)) ∷ (given_int Int (pos 2)) ∷ []) ≡ 97 ∷ 49 ∷ 98 ∷ 50 ∷ 99 ∷ []
  -- %p of 16777256
  pub row_29 : prints (codes "%p") ((record { value = pointer 16777256 Empty; ty = pointer_to void }) ∷ []) ≡ 48 ∷ 120 ∷ 49 ∷ 48 ∷ 48 ∷ 48 ∷ 48 ∷ 50 ∷ 56 ∷ []
  pub refusal_0 : answers (codes "%y") ((given_int Int (pos 1)) ∷ []) ≡ raises Conversion
  pub refusal_1 : answers (codes "ab%n") ([]) ≡ leaves PastDirective 2
  pub refusal_2 : answers (codes "%d") ([]) ≡ raises TooFewArguments
  pub refusal_3 : answers (codes "%4096d") ((given_int Int (pos 1)) ∷ []) ≡ leaves PastConversion 4096
  pub refusal_4 : answers (codes "%d") ((given_int Long (pos 1)) ∷ []) ≡ raises Conversion
  pub refusal_5 : answers (codes "%#d") ((given_int Int (pos 1)) ∷ []) ≡ raises Conversion
  -- a string is read whole, or as far as its precision goes
  pub items_0 : items (codes "%s") (word ∷ []) ≡ Alive (Lit 0) ∷ Read (Lit 0) 0 3 ∷ Alive (Lit 1) ∷ Read (Lit 1) 0 3 ∷ Output ∷ []
  pub items_1 : items (codes "%.1s") (word ∷ []) ≡ Alive (Lit 0) ∷ Read (Lit 0) 0 5 ∷ Alive (Lit 1) ∷ Read (Lit 1) 0 1 ∷ Output ∷ []
  -- two strings of which one begins where the other's bytes end
  pub items_2 : items (codes "%.1s%s") (word ∷ tail ∷ []) ≡ Alive (Lit 0) ∷ Read (Lit 0) 0 7 ∷ Alive (Lit 1) ∷ Read (Lit 1) 0 1 ∷ Alive (Lit 1) ∷ Read
      (Lit 1) 1 2 ∷ Output ∷ []
  -- standard output and standard error are two streams, both with the item of output
  pub stream_0 : outputs_of (call_to (pos 1)) ≡ on_output (104 ∷ 105 ∷ [])
  pub stream_1 : outputs_of (call_to (pos 2)) ≡ record { standard = []; errors = 104 ∷ 105 ∷ [] }
  pub stream_2 : items_of (call_to (pos 2)) ≡ Alive (Lit 0) ∷ Read (Lit 0) 0 3 ∷ Output ∷ []
  pub stream_3 : answer_of (call_to (pos 2)) ≡ value (number (pos 2))
  pub stream_4 : answer_of (call_to (pos 0)) ≡ raises LibraryArgument
