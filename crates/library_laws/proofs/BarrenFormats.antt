-- Scripts of calls with a format create nothing.
use Rattle.std.proofs.Common.{ℕ, zero, suc, ◌+◌, ◌-◌, ◌^◌, ◌==◌, Bool, true, false, not, List, [], ◌∷◌, ◌++◌, length, drop, Option, Some, None, refl, ℤ, pos}
use Rattle.std.proofs.Common.{min}
use Rattle.std.specs.Prelude.{nat_lt}
use Rattle.std.specs.Ordering.{int_eq}
use Rattle.ub_base.specs.declared.clause.Clause.TheVariants.{LibraryArgument, Conversion}
use Rattle.ub_base.specs.declared.names.ObjName.{ObjName}
use Rattle.addr_map.specs.declared.map.Row.{Row}
use Rattle.addr_map.specs.Rows.{row_of}
use Rattle.mem_spec.specs.declared.stream.Stream.{Stream}
use Rattle.mem_spec.specs.declared.stream.Stream.TheVariants as streams
use Rattle.mem_spec.specs.Script.{Print, item_of, Script, Give, Raise, Finish, Exceed, Misplace, Do, touch, ◌>>=◌, ◌>>◌}
use Rattle.mem_spec.specs.Acts.{Accessed, argument, expose, candidates, size_in}
use Rattle.libc_spec.specs.Library.{LibValue, number, address_in, prov_in, integer_in, low_byte, read_numbers, without_zero, text, check_target, write_numbers}
use Rattle.libc_spec.specs.Library.{ends_in_zero}
use Rattle.libc_spec.specs.Directives.{Count, absent, count, Length, Directive, directive_of, Form, taken, left_out, invalid, form}
use Rattle.libc_spec.specs.Directives as directives
use Rattle.libc_spec.specs.Print.{Argument, next, is_int, next_int, Width, width_taken, precision_taken, signed_kind, fits_kind, next_integer, is_target}
use Rattle.libc_spec.specs.Print.{next_pointer, Parts, Field, whole_size, field, until_most, bounded_from, string_bytes, put_integer, put_byte, put_string}
use Rattle.libc_spec.specs.Print.{put_address, put_sized, put, put_formed, step_by, step, text_of, print_to, is_signed_conversion, integer_parts}
use Rattle.libc_spec.specs.Print.{integer_field, bare, spaced, address_parts}
use Rattle.libc_spec.specs.Formatted.{formatted, short, short_text, fprintf, room, ended, array, noting, overlaps, placed, store_text, sprintf}
use Rattle.library_laws.proofs.Barren.{Barren, argued, barren_then, either, needs, numbers_read, numbers_written, shown, target, text_read}

-- ---- what is taken of the arguments
next_barren : (given : List Argument) → Barren true (next given)
next_barren [] = tt
next_barren (a ∷ rest) = tt

int_barren : (given : List Argument) → Barren true (next_int given)
int_barren given = barren_then (next given) _ (next_barren given) (λ a. needs (is_int a.item.ty) Conversion (Give _) tt)

width_barren : (n : Count) (given : List Argument) → Barren true (width_taken n given)
width_barren absent given = tt
width_barren (count n) given = tt
width_barren directives.argument given = barren_then (next_int given) _ (int_barren given) (λ n. tt)

precision_barren : (n : Count) (given : List Argument) → Barren true (precision_taken n given)
precision_barren absent given = tt
precision_barren (count n) given = tt
precision_barren directives.argument given = barren_then (next_int given) _ (int_barren given) (λ n. tt)

integer_barren : (m : Length) (signed : Bool) (given : List Argument) → Barren true (next_integer m signed given)
integer_barren m signed given =
    barren_then (next given) _ (next_barren given) (λ a. needs (fits_kind (signed_kind m) signed a.item) Conversion (Give _) tt)

pointer_barren : (may_be_void : Bool) (given : List Argument) → Barren true (next_pointer may_be_void given)
pointer_barren may_be_void given =
    barren_then (next given) _ (next_barren given) (λ a. needs (is_target may_be_void a.item.ty) Conversion (Give _) tt)

-- ---- a directive
field_barren : (p : Parts) (f : Field) → Barren true (field p f)
field_barren p f = either (nat_lt 4095 (whole_size p f)) (Exceed _ _) (Give _) refl tt

most_barren : (wanted left : ℕ) (x : ObjName) (from : ℕ) → Barren true (until_most wanted left x from)
most_barren zero left x from = tt
most_barren (suc wanted) zero x from = tt
most_barren (suc wanted) (suc left) x from = (
  tt,
  λ bs. either (ends_in_zero bs) (Give bs) (until_most wanted left x (suc from) >>= (λ more. Give (bs ++ more))) tt
      (barren_then (until_most wanted left x (suc from)) (λ more. Give (bs ++ more)) (most_barren wanted left x (suc from)) (λ more. tt)),
)

put_integer_barren : (d : Directive) (w : Width) (precision : Option ℕ) (given : List Argument) → Barren true (put_integer d w precision given)
put_integer_barren d w precision given =
    barren_then (next_integer d.modifier (is_signed_conversion d.conversion) given) _
    (integer_barren d.modifier (is_signed_conversion d.conversion) given) (λ n.
    barren_then (field (integer_parts d.flags d.conversion precision n.item) (integer_field d.flags w precision)) _
    (field_barren (integer_parts d.flags d.conversion precision n.item) (integer_field d.flags w precision)) (λ bytes. tt))

put_byte_barren : (d : Directive) (w : Width) (given : List Argument) → Barren true (put_byte d w given)
put_byte_barren d w given = barren_then (next_int given) _ (int_barren given) (λ n.
    barren_then (field (bare (low_byte n.item ∷ [])) (spaced d.flags w)) _ (field_barren (bare (low_byte n.item ∷ [])) (spaced d.flags w)) (λ bytes. tt))

put_address_barren : (d : Directive) (w : Width) (given : List Argument) → Barren true (put_address d w given)
put_address_barren d w given = barren_then (next_pointer true given) _ (pointer_barren true given) (λ v.
    barren_then (expose (prov_in v.item)) _ (shown (candidates (prov_in v.item))) (λ u.
    barren_then (field (address_parts (address_in v.item)) (spaced d.flags w)) _ (field_barren (address_parts (address_in v.item)) (spaced d.flags w))
    (λ bytes. tt)))

module _ (rows : List Row) where
  bounded_barren : (n : ℕ) (o : Option Accessed) → Barren true (bounded_from rows n o)
  bounded_barren n None = tt
  bounded_barren n (Some at) = most_barren n (size_in (row_of rows at.object) - at.from) at.object at.from

  string_barren : (v : LibValue) (precision : Option ℕ) → Barren true (string_bytes rows v precision)
  string_barren v None =
      barren_then (text rows (address_in v) (prov_in v)) _ (text_read rows (address_in v) (prov_in v)) (λ s.
      barren_then (read_numbers s.bytes) _ (numbers_read s.bytes) (λ ns. tt))
  string_barren v (Some n) =
      barren_then (argument rows (min n 1) (address_in v) (prov_in v)) _ (argued rows (min n 1) (address_in v) (prov_in v)) (λ at.
      barren_then (bounded_from rows n at) _ (bounded_barren n at) (λ bs.
      barren_then (read_numbers bs) _ (numbers_read bs) (λ ns. tt)))

  put_string_barren : (d : Directive) (w : Width) (precision : Option ℕ) (given : List Argument) → Barren true (put_string rows d w precision given)
  put_string_barren d w precision given = barren_then (next_pointer false given) _ (pointer_barren false given) (λ v.
      barren_then (string_bytes rows v.item precision) _ (string_barren v.item precision) (λ body.
      barren_then (field (bare body) (spaced d.flags w)) _ (field_barren (bare body) (spaced d.flags w)) (λ bytes. tt)))

  sized_barren : (d : Directive) (w : Width) (precision : Option ℕ) (given : List Argument) → Barren true (put_sized rows d w precision given)
  sized_barren d w precision given =
      either (d.conversion == 99) _ _ (put_byte_barren d w given)
      (either (d.conversion == 115) _ _ (put_string_barren d w precision given)
      (either (d.conversion == 112) _ _ (put_address_barren d w given) (put_integer_barren d w precision given)))

  put_barren : (d : Directive) (given : List Argument) → Barren true (put rows d given)
  put_barren d given =
      either (d.conversion == 37) _ _ tt
      (barren_then (width_taken d.width given) _ (width_barren d.width given) (λ w.
      barren_then (precision_taken d.precision w.rest) _ (precision_barren d.precision w.rest) (λ p. sized_barren d w.item p.item p.rest)))

  formed_barren : (how : Form) (d : Directive) (at : ℕ) (given : List Argument) → Barren true (put_formed rows how d at given)
  formed_barren taken d at given = put_barren d given
  formed_barren left_out d at given = refl
  formed_barren invalid d at given = tt

  -- ---- the text of a format
  directive_barren : (d : Option Directive) (at : ℕ) (given : List Argument) → Barren true (step_by rows d at given)
  directive_barren None at given = tt
  directive_barren (Some d) at given = barren_then (put_formed rows (form d) d at given) _ (formed_barren (form d) d at given) (λ p. tt)

  step_barren : (c : ℕ) (cs : List ℕ) (at : ℕ) (given : List Argument) → Barren true (step rows c cs at given)
  step_barren c cs at given = either (c == 37) _ _ (directive_barren (directive_of cs) at given) tt

  text_of_barren : (fuel at : ℕ) (cs : List ℕ) (given : List Argument) → Barren true (text_of fuel rows at cs given)
  text_of_barren zero at cs given = tt
  text_of_barren (suc fuel) at [] given = tt
  text_of_barren (suc fuel) at (c ∷ cs) given =
      barren_then (step rows c cs at given) _ (step_barren c cs at given) (λ s.
      barren_then (text_of fuel rows (at + 1 + s.len) (drop s.len cs) s.rest) _ (text_of_barren fuel (at + 1 + s.len) (drop s.len cs) s.rest) (λ rest. tt))

  -- ---- the calls
  pub print_barren : (to : Stream) (format : LibValue) (given : List Argument) → Barren true (print_to to rows format given)
  print_barren to format given =
      barren_then (text rows (address_in format) (prov_in format)) _ (text_read rows (address_in format) (prov_in format)) (λ s.
      barren_then (read_numbers s.bytes) _ (numbers_read s.bytes) (λ ns.
      barren_then (text_of (length ns) rows 0 (without_zero ns) given) _ (text_of_barren (length ns) 0 (without_zero ns) given) (λ bytes. (tt, λ r. tt))))

  pub fprintf_barren : (stream : ℤ) (format : LibValue) (given : List Argument) → Barren true (fprintf rows stream format given)
  fprintf_barren stream format given =
      either (int_eq stream (pos 1)) _ _ (print_barren streams.Output format given)
      (either (int_eq stream (pos 2)) _ _ (print_barren streams.Errors format given) tt)

  formatted_barren : (format : LibValue) (given : List Argument) → Barren true (formatted rows format given)
  formatted_barren format given =
      barren_then (text rows (address_in format) (prov_in format)) _ (text_read rows (address_in format) (prov_in format)) (λ s.
      barren_then (read_numbers s.bytes) _ (numbers_read s.bytes) (λ ns. text_of_barren (length ns) 0 (without_zero ns) given))

  short_barren : (format : LibValue) (given : List Argument) → Barren true (short_text rows format given)
  short_barren format given =
      barren_then (formatted rows format given) short (formatted_barren format given) (λ bytes. either (nat_lt (2 ^ 24) (length bytes)) _ _ refl tt)

  array_barren : (n : ℕ) (v : LibValue) → Barren true (array rows n v)
  array_barren zero v = tt
  array_barren (suc n) v =
      barren_then (argument rows (suc n) (address_in v) (prov_in v)) _ (argued rows (suc n) (address_in v) (prov_in v)) (λ at.
      barren_then (check_target (suc n) at) _ (target (suc n) at) (λ u. tt))

  placed_barren : (most : Option ℕ) (to format : LibValue) (given : List Argument) → Barren true (placed rows most to format given)
  placed_barren most to format given =
      barren_then (short_text rows format given) _ (short_barren format given) (λ bytes.
      barren_then (array rows (room most (length bytes)) to) _ (array_barren (room most (length bytes)) to) (λ at. tt))

  noting_barren : {A : Type 0} (p : Script A) → Barren true p → Barren true (noting p)
  noting_barren (Give v) b = tt
  noting_barren (Raise c) b = tt
  noting_barren (Finish n) b = b
  noting_barren (Exceed c n) b = b
  noting_barren Misplace b = tt
  noting_barren (Do t k) b = (
    b.0,
    λ r. barren_then (noting (k r)) (λ n. Give (record { value = n.value; items = item_of t ∷ n.items })) (noting_barren (k r) (b.1 r)) (λ n. tt),
  )

  pub sprintf_barren : (most : Option ℕ) (to format : LibValue) (given : List Argument) → Barren true (sprintf rows most to format given)
  sprintf_barren most to format given =
      barren_then (noting (placed rows most to format given)) (store_text most)
      (noting_barren (placed rows most to format given) (placed_barren most to format given)) (λ p.
      needs (not (overlaps p.value.at (room most (length p.value.bytes)) p.items)) LibraryArgument _
      (barren_then (write_numbers (ended (room most (length p.value.bytes)) p.value.bytes) p.value.at) _
      (numbers_written (ended (room most (length p.value.bytes)) p.value.bytes) p.value.at) (λ w. tt)))
