-- The scripts of functions that take a format, and each of the library, asks before it reads or writes.
use Rattle.std.proofs.Common.{◌≡◌, ℕ, zero, suc, ◌+◌, ◌-◌, Bool, true, false, if◌then◌else◌, List, [], ◌∷◌, ◌++◌, length, drop, Option, Some, None, inl}
use Rattle.std.proofs.Common.{inr, ap}
use Rattle.std.specs.Prelude.{◌==◌, nat_lt, min, map, pos, int_lt, unsigned_abs}
use Rattle.std.specs.Prelude.{ℤ, not, ◌^◌}
use Rattle.std.specs.Ordering.{int_eq}
use Rattle.ub_base.specs.declared.clause.Clause.TheVariants.{Conversion, LibraryArgument}
use Rattle.ub_base.specs.declared.clause.Cause.TheVariants.{Conversion as PastConversion, Output as PastOutput}
use Rattle.ub_base.specs.declared.names.Event.{Event}
use Rattle.ub_base.specs.declared.names.ObjName.{ObjName}
use Rattle.ub_base.specs.declared.names.Item.{Item}
use Rattle.ub_base.specs.declared.names.Item.TheVariants.{Read, Write, Born, Dies, Alive, Expose, Lookup, Narrow, Input, Output}
use Rattle.addr_map.specs.declared.map.Row.{Row}
use Rattle.addr_map.specs.Rows.{row_of}
use Rattle.c_types.specs.declared.library.LibFunc.{LibFunc}
use Rattle.c_types.specs.declared.library.LibFunc.TheVariants.{Printf, Fprintf, Sprintf, Snprintf}
use Rattle.c_types.specs.Types.{CType}
use Rattle.mem_spec.specs.declared.stream.Stream.{Stream}
use Rattle.mem_spec.specs.declared.stream.Stream.TheVariants as streams
use Rattle.mem_spec.specs.Script.{Ask, Get, Put, Bear, Bury, Show, Find, Settle, Take, Print, item_of, Script, Give, Raise, Finish, Exceed}
use Rattle.mem_spec.specs.Script.{Misplace, Do, touch, require, ◌>>=◌, ◌>>◌}
use Rattle.mem_spec.specs.Acts.{Accessed, argument, expose, size_in}
use Rattle.mem_laws.specs.Frame.{any_of}
use Rattle.libc_spec.specs.Library.{LibValue, number, pointer_in, address_in, prov_in, integer_in, low_byte, read_numbers, without_zero, text}
use Rattle.libc_spec.specs.Library.{ends_in_zero, argument_at, check_target, write_numbers, size_of_value}
use Rattle.libc_spec.specs.Directives.{Flags, Count, absent, count, Length, Directive, directive_of, Form, taken, left_out, invalid, form}
use Rattle.libc_spec.specs.Directives as directives
use Rattle.libc_spec.specs.Print as print
use Rattle.libc_spec.specs.Print.{Argument, Taken, next, is_int, next_int, Width, counted, width_taken, not_negative, precision_taken, signed_kind}
use Rattle.libc_spec.specs.Print.{converted, fits_kind, next_integer, is_target, next_pointer, Parts, Field, padded, own_size, whole_size, field}
use Rattle.libc_spec.specs.Print.{integer_parts, integer_field, bare, spaced, is_signed_conversion, until_most, bounded_from, before_zero, string_bytes}
use Rattle.libc_spec.specs.Print.{one, put_integer, put_byte, put_string, address_parts, put_address, put_sized, put_formed, Step, step_by, step, text_of}
use Rattle.libc_spec.specs.Print.{print_to}
use Rattle.libc_spec.specs.Formatted.{formatted, short, short_text, fprintf, room, ended, array, Noted, noting, overlaps, Placed, placed}
use Rattle.libc_spec.specs.Formatted.{store_text, sprintf}
use Rattle.c_model.specs.Libraries.{passed, result, typed, script, library}
use Rattle.order_laws.specs.StrictItems.{asks}
use Rattle.order_laws.specs.Asking.{Post, Anything, Asked, AskedOrEnds}
use Rattle.order_laws.specs.LibraryAsks.{LibraryAsks}
use Rattle.order_laws.proofs.Asks.{bind, need, when}
use Rattle.order_laws.proofs.ActsAsk.{go_on, expose_asks}
use Rattle.order_laws.proofs.LibraryAsk.{OptKnown, opt_more, with_argument, argument_asks, target_asks, write_asks, numbers_ask, text_asks}
use Rattle.order_laws.proofs.LibraryAsk.{scripts_ask}

next_asks : (rows : List Row) (as' : List Argument) (bs : List Item) → Asked rows (next as') bs
next_asks rows [] bs = tt
next_asks rows (a ∷ as') bs = tt

int_asks : (rows : List Row) (as' : List Argument) (bs : List Item) → Asked rows (next_int as') bs
int_asks rows as' bs =
    go_on rows (next as') (λ a. require (is_int a.item.ty) Conversion >> Give (record { item = integer_in a.item.value; rest = a.rest })) bs
    (next_asks rows as' bs)
    (λ a cs. need rows (is_int a.item.ty) Conversion (Give (record { item = integer_in a.item.value; rest = a.rest })) cs Anything tt)

width_asks : (rows : List Row) (c : Count) (as' : List Argument) (bs : List Item) → Asked rows (width_taken c as') bs
width_asks rows absent as' bs = tt
width_asks rows (count n) as' bs = tt
width_asks rows directives.argument as' bs =
    go_on rows (next_int as') (λ n. Give (record {
      item = record { size = counted (unsigned_abs n.item); is_left = int_lt n.item (pos 0) };
      rest = n.rest;
    })) bs (int_asks rows as' bs) (λ n cs. tt)

precision_asks : (rows : List Row) (c : Count) (as' : List Argument) (bs : List Item) → Asked rows (precision_taken c as') bs
precision_asks rows absent as' bs = tt
precision_asks rows (count n) as' bs = tt
precision_asks rows directives.argument as' bs = go_on rows (next_int as') (λ n. Give (record { item = not_negative n.item; rest = n.rest })) bs
    (int_asks rows as' bs) (λ n cs. tt)

integer_asks : (rows : List Row) (m : Length) (signed : Bool) (as' : List Argument) (bs : List Item) → Asked rows (next_integer m signed as') bs
integer_asks rows m signed as' bs =
    go_on rows (next as') (λ a. require (fits_kind (signed_kind m) signed a.item) Conversion >> Give
    (record { item = converted m signed (integer_in a.item.value); rest = a.rest })) bs (next_asks rows as' bs)
    (λ a cs. need rows (fits_kind (signed_kind m) signed a.item) Conversion
    (Give (record { item = converted m signed (integer_in a.item.value); rest = a.rest })) cs Anything tt)

pointer_asks : (rows : List Row) (b : Bool) (as' : List Argument) (bs : List Item) → Asked rows (next_pointer b as') bs
pointer_asks rows b as' bs =
    go_on rows (next as') (λ a. require (is_target b a.item.ty) Conversion >> Give (record { item = pointer_in a.item.value; rest = a.rest })) bs
    (next_asks rows as' bs)
    (λ a cs. need rows (is_target b a.item.ty) Conversion (Give (record { item = pointer_in a.item.value; rest = a.rest })) cs Anything tt)

field_asks : (rows : List Row) (p : Parts) (f : Field) (bs : List Item) → Asked rows (field p f) bs
field_asks rows p f bs = when rows (nat_lt 4095 (whole_size p f)) (Exceed PastConversion (whole_size p f)) (Give (padded p f (whole_size p f - own_size p)))
    bs Anything tt tt

most_asks : (rows : List Row) (wanted left : ℕ) (x : ObjName) (from : ℕ) (bs : List Item) → any_of (λ j. asks j x) bs ≡ true
    → Asked rows (until_most wanted left x from) bs
most_asks rows zero left x from bs k = tt
most_asks rows (suc wanted) zero x from bs k = tt
most_asks rows (suc wanted) (suc left) x from bs k = (
  k,
  (λ ds. when rows (ends_in_zero ds) (Give ds) (until_most wanted left x (suc from) >>= (λ more. Give (ds ++ more))) (Read x from 1 ∷ bs) Anything tt
      (go_on rows (until_most wanted left x (suc from)) (λ more. Give (ds ++ more)) (Read x from 1 ∷ bs)
      (most_asks rows wanted left x (suc from) (Read x from 1 ∷ bs) k) (λ u cs. tt))),
)

bounded_asks : (rows : List Row) (n : ℕ) (o : Option Accessed) (bs : List Item) → OptKnown o bs → Asked rows (bounded_from rows n o) bs
bounded_asks rows n None bs k = tt
bounded_asks rows n (Some at) bs k = most_asks rows n (size_in (row_of rows at.object) - at.from) at.object at.from bs k

string_asks : (rows : List Row) (v : LibValue) (o : Option ℕ) (bs : List Item) → Asked rows (string_bytes rows v o) bs
string_asks rows v None bs =
    go_on rows (text rows (address_in v) (prov_in v)) (λ s. read_numbers s.bytes >>= (λ ns. Give (before_zero ns))) bs
    (text_asks rows (address_in v) (prov_in v) bs)
    (λ s cs. go_on rows (read_numbers s.bytes) (λ ns. Give (before_zero ns)) cs (numbers_ask rows s.bytes cs) (λ ns ds. tt))
string_asks rows v (Some n) bs =
    with_argument rows (min n 1) (address_in v) (prov_in v) (λ at. bounded_from rows n at >>= (λ ds. read_numbers ds >>= (λ ns. Give (before_zero ns)))) bs
    (λ at cs m k. go_on rows (bounded_from rows n at) (λ ds. read_numbers ds >>= (λ ns. Give (before_zero ns))) cs (bounded_asks rows n at cs k)
    (λ ds es. go_on rows (read_numbers ds) (λ ns. Give (before_zero ns)) es (numbers_ask rows ds es) (λ ns fs. tt)))

put_integer_asks : (rows : List Row) (d : Directive) (w : Width) (precision : Option ℕ) (as' : List Argument) (bs : List Item)
    → Asked rows (put_integer d w precision as') bs
put_integer_asks rows d w precision as' bs =
    go_on rows (next_integer d.modifier (is_signed_conversion d.conversion) as')
    (λ n. field (integer_parts d.flags d.conversion precision n.item) (integer_field d.flags w precision) >>= (λ ds. one ds n.rest)) bs
    (integer_asks rows d.modifier (is_signed_conversion d.conversion) as' bs)
    (λ n cs. go_on rows (field (integer_parts d.flags d.conversion precision n.item) (integer_field d.flags w precision)) (λ ds. one ds n.rest) cs
    (field_asks rows (integer_parts d.flags d.conversion precision n.item) (integer_field d.flags w precision) cs) (λ ds es. tt))

put_byte_asks : (rows : List Row) (d : Directive) (w : Width) (as' : List Argument) (bs : List Item) → Asked rows (put_byte d w as') bs
put_byte_asks rows d w as' bs =
    go_on rows (next_int as') (λ n. field (bare (low_byte n.item ∷ [])) (spaced d.flags w) >>= (λ ds. one ds n.rest)) bs (int_asks rows as' bs)
    (λ n cs. go_on rows (field (bare (low_byte n.item ∷ [])) (spaced d.flags w)) (λ ds. one ds n.rest) cs
    (field_asks rows (bare (low_byte n.item ∷ [])) (spaced d.flags w) cs) (λ ds es. tt))

put_string_asks : (rows : List Row) (d : Directive) (w : Width) (precision : Option ℕ) (as' : List Argument) (bs : List Item)
    → Asked rows (put_string rows d w precision as') bs
put_string_asks rows d w precision as' bs =
    go_on rows (next_pointer false as') (λ v. string_bytes rows v.item precision >>=
    (λ body. field (bare body) (spaced d.flags w) >>= (λ ds. one ds v.rest))) bs (pointer_asks rows false as' bs)
    (λ v cs. go_on rows (string_bytes rows v.item precision) (λ body. field (bare body) (spaced d.flags w) >>= (λ ds. one ds v.rest)) cs
    (string_asks rows v.item precision cs)
    (λ body es. go_on rows (field (bare body) (spaced d.flags w)) (λ ds. one ds v.rest) es (field_asks rows (bare body) (spaced d.flags w) es) (λ ds fs. tt)))

put_address_asks : (rows : List Row) (d : Directive) (w : Width) (as' : List Argument) (bs : List Item) → Asked rows (put_address d w as') bs
put_address_asks rows d w as' bs =
    go_on rows (next_pointer true as') (λ v. expose (prov_in v.item) >>
    (field (address_parts (address_in v.item)) (spaced d.flags w) >>= (λ ds. one ds v.rest))) bs (pointer_asks rows true as' bs)
    (λ v cs. go_on rows (expose (prov_in v.item)) (λ u. field (address_parts (address_in v.item)) (spaced d.flags w) >>= (λ ds. one ds v.rest)) cs
    (expose_asks rows (prov_in v.item) cs)
    (λ u es. go_on rows (field (address_parts (address_in v.item)) (spaced d.flags w)) (λ ds. one ds v.rest) es
    (field_asks rows (address_parts (address_in v.item)) (spaced d.flags w) es) (λ ds fs. tt)))

put_sized_asks : (rows : List Row) (d : Directive) (w : Width) (precision : Option ℕ) (as' : List Argument) (bs : List Item)
    → Asked rows (put_sized rows d w precision as') bs
put_sized_asks rows d w precision as' bs =
    when rows (d.conversion == 99) (put_byte d w as')
    (if d.conversion == 115 then put_string rows d w precision as' else if d.conversion == 112 then put_address d w as' else put_integer d w precision as')
    bs Anything
    (put_byte_asks rows d w as' bs)
    (when rows (d.conversion == 115) (put_string rows d w precision as')
    (if d.conversion == 112 then put_address d w as' else put_integer d w precision as') bs Anything
    (put_string_asks rows d w precision as' bs)
    (when rows (d.conversion == 112) (put_address d w as') (put_integer d w precision as') bs Anything (put_address_asks rows d w as' bs)
    (put_integer_asks rows d w precision as' bs)))

put_asks : (rows : List Row) (d : Directive) (as' : List Argument) (bs : List Item) → Asked rows (print.put rows d as') bs
put_asks rows d as' bs =
    when rows (d.conversion == 37) (one (37 ∷ []) as') (width_taken d.width as' >>=
    (λ w. precision_taken d.precision w.rest >>= (λ p. put_sized rows d w.item p.item p.rest))) bs Anything tt
    (go_on rows (width_taken d.width as') (λ w. precision_taken d.precision w.rest >>= (λ p. put_sized rows d w.item p.item p.rest)) bs
    (width_asks rows d.width as' bs)
    (λ w cs. go_on rows (precision_taken d.precision w.rest) (λ p. put_sized rows d w.item p.item p.rest) cs (precision_asks rows d.precision w.rest cs)
    (λ p ds. put_sized_asks rows d w.item p.item p.rest ds)))

formed_asks : (rows : List Row) (f : Form) (d : Directive) (at : ℕ) (as' : List Argument) (bs : List Item) → Asked rows (put_formed rows f d at as') bs
formed_asks rows taken d at as' bs = put_asks rows d as' bs
formed_asks rows left_out d at as' bs = tt
formed_asks rows invalid d at as' bs = tt

by_asks : (rows : List Row) (o : Option Directive) (at : ℕ) (as' : List Argument) (bs : List Item) → Asked rows (step_by rows o at as') bs
by_asks rows None at as' bs = tt
by_asks rows (Some d) at as' bs =
    go_on rows (put_formed rows (form d) d at as') (λ p. Give (record { bytes = p.item; len = d.len; rest = p.rest })) bs
    (formed_asks rows (form d) d at as' bs) (λ p cs. tt)

step_asks : (rows : List Row) (c : ℕ) (cs : List ℕ) (at : ℕ) (as' : List Argument) (bs : List Item) → Asked rows (step rows c cs at as') bs
step_asks rows c cs at as' bs =
    when rows (c == 37) (step_by rows (directive_of cs) at as') (Give (record { bytes = c ∷ []; len = 0; rest = as' })) bs Anything
    (by_asks rows (directive_of cs) at as' bs) tt

text_of_asks : (fuel : ℕ) (rows : List Row) (at : ℕ) (cs : List ℕ) (as' : List Argument) (bs : List Item) → Asked rows (text_of fuel rows at cs as') bs
text_of_asks zero rows at cs as' bs = tt
text_of_asks (suc fuel) rows at [] as' bs = tt
text_of_asks (suc fuel) rows at (c ∷ cs) as' bs =
    go_on rows (step rows c cs at as') (λ s. text_of fuel rows (at + 1 + s.len) (drop s.len cs) s.rest >>= (λ more. Give (s.bytes ++ more))) bs
    (step_asks rows c cs at as' bs)
    (λ s ds. go_on rows (text_of fuel rows (at + 1 + s.len) (drop s.len cs) s.rest) (λ more. Give (s.bytes ++ more)) ds
    (text_of_asks fuel rows (at + 1 + s.len) (drop s.len cs) s.rest ds) (λ more es. tt))

abbrev print_last : Stream → List Row → List Argument → List ℕ → Script LibValue
print_last to rows as' ns = text_of (length ns) rows 0 (without_zero ns) as' >>= (λ out. touch (Print to out) >> Give (number (pos (length out))))

print_to_asks : (to : Stream) (rows : List Row) (format : LibValue) (as' : List Argument) (bs : List Item) → Asked rows (print_to to rows format as') bs
print_to_asks to rows format as' bs =
    go_on rows (text rows (address_in format) (prov_in format)) (λ s. read_numbers s.bytes >>= print_last to rows as') bs
    (text_asks rows (address_in format) (prov_in format) bs)
    (λ s cs. go_on rows (read_numbers s.bytes) (print_last to rows as') cs (numbers_ask rows s.bytes cs)
    (λ ns ds. go_on rows (text_of (length ns) rows 0 (without_zero ns) as') (λ out. touch (Print to out) >> Give (number (pos (length out)))) ds
    (text_of_asks (length ns) rows 0 (without_zero ns) as' ds)
    (λ out es. λ r. tt)))

formatted_asks : (rows : List Row) (format : LibValue) (as' : List Argument) (bs : List Item) → Asked rows (formatted rows format as') bs
formatted_asks rows format as' bs =
    go_on rows (text rows (address_in format) (prov_in format)) (λ s. read_numbers s.bytes >>= (λ ns. text_of (length ns) rows 0 (without_zero ns) as')) bs
    (text_asks rows (address_in format) (prov_in format) bs)
    (λ s cs. go_on rows (read_numbers s.bytes) (λ ns. text_of (length ns) rows 0 (without_zero ns) as') cs (numbers_ask rows s.bytes cs)
    (λ ns ds. text_of_asks (length ns) rows 0 (without_zero ns) as' ds))

short_asks : (rows : List Row) (format : LibValue) (as' : List Argument) (bs : List Item) → Asked rows (short_text rows format as') bs
short_asks rows format as' bs =
    go_on rows (formatted rows format as') short bs (formatted_asks rows format as' bs)
    (λ out cs. when rows (nat_lt (2 ^ 24) (length out)) (Exceed PastOutput (length out)) (Give out) cs Anything tt tt)

fprintf_asks : (rows : List Row) (z : ℤ) (format : LibValue) (as' : List Argument) (bs : List Item) → Asked rows (fprintf rows z format as') bs
fprintf_asks rows z format as' bs =
    when rows (int_eq z (pos 1)) (print_to streams.Output rows format as')
    (if int_eq z (pos 2) then print_to streams.Errors rows format as' else Raise LibraryArgument) bs Anything
    (print_to_asks streams.Output rows format as' bs)
    (when rows (int_eq z (pos 2)) (print_to streams.Errors rows format as') (Raise LibraryArgument) bs Anything
    (print_to_asks streams.Errors rows format as' bs) tt)

-- one more item is noted
note_on : {V : Type 0} → (rows : List Row) (i : Item) (x : Script V) (bs : List Item) (Q : V → List Item → Type 0)
    → Post {V = Noted V} rows (noting x) bs (λ n cs. Q n.value cs)
    → Post {V = Noted V} rows (noting x >>= (λ n. Give (record { value = n.value; items = i ∷ n.items }))) bs (λ n cs. Q n.value cs)
note_on {V = V} rows i x bs Q h =
    bind {A = Noted V} {B = Noted V} rows (noting x) (λ n. Give (record { value = n.value; items = i ∷ n.items })) bs (λ n cs. Q n.value cs)
    (λ n cs. Q n.value cs) h (λ n cs m q. q)

-- a script with its items does so as without them
note_asks : {V : Type 0} → (rows : List Row) (x : Script V) (bs : List Item) (Q : V → List Item → Type 0) → Post rows x bs Q
    → Post {V = Noted V} rows (noting x) bs (λ n cs. Q n.value cs)
note_asks rows (Give v) bs Q h = h
note_asks rows (Raise c) bs Q h = tt
note_asks rows (Finish n) bs Q h = h
note_asks rows (Exceed c n) bs Q h = tt
note_asks rows Misplace bs Q h = tt
note_asks rows (Do (Get x a n) f) bs Q h = (h.0, (λ r. note_on rows (Read x a n) (f r) (Read x a n ∷ bs) Q (note_asks rows (f r) (Read x a n ∷ bs) Q (h.1 r))))
note_asks rows (Do (Put x a cs) f) bs Q h =
    (h.0, (λ r. note_on rows (Write x a (length cs)) (f r) (Write x a (length cs) ∷ bs) Q (note_asks rows (f r) (Write x a (length cs) ∷ bs) Q (h.1 r))))
note_asks rows (Do (Ask x) f) bs Q h = λ r. note_on rows (Alive x) (f r) (Alive x ∷ bs) Q (note_asks rows (f r) (Alive x ∷ bs) Q (h r))
note_asks rows (Do (Bear x size kind declared) f) bs Q h =
    (h.0, (λ r. note_on rows (Born x) (f r) (Born x ∷ bs) Q (note_asks rows (f r) (Born x ∷ bs) Q (h.1 r))))
note_asks rows (Do (Bury x) f) bs Q h = λ r. note_on rows (Dies x) (f r) (Dies x ∷ bs) Q (note_asks rows (f r) (Dies x ∷ bs) Q (h r))
note_asks rows (Do (Show x) f) bs Q h = λ r. note_on rows (Expose x) (f r) (Expose x ∷ bs) Q (note_asks rows (f r) (Expose x ∷ bs) Q (h r))
note_asks rows (Do (Find a) f) bs Q h = λ r. note_on rows (Lookup a) (f r) (Lookup a ∷ bs) Q (note_asks rows (f r) (Lookup a ∷ bs) Q (h r))
note_asks rows (Do (Settle id x c) f) bs Q h = λ r. note_on rows (Narrow id x) (f r) (Narrow id x ∷ bs) Q (note_asks rows (f r) (Narrow id x ∷ bs) Q (h r))
note_asks rows (Do Take f) bs Q h = λ r. note_on rows Input (f r) (Input ∷ bs) Q (note_asks rows (f r) (Input ∷ bs) Q (h r))
note_asks rows (Do (Print to cs) f) bs Q h = λ r. note_on rows Output (f r) (Output ∷ bs) Q (note_asks rows (f r) (Output ∷ bs) Q (h r))

array_asks : (rows : List Row) (n : ℕ) (v : LibValue) (bs : List Item) → Post rows (array rows n v) bs OptKnown
array_asks rows zero v bs = tt
array_asks rows (suc n) v bs =
    bind rows (argument rows (suc n) (address_in v) (prov_in v)) (λ at. check_target (suc n) at >> Give at) bs OptKnown OptKnown
    (argument_asks rows (suc n) (address_in v) (prov_in v) bs)
    (λ at cs m k. bind rows (check_target (suc n) at) (λ u. Give at) cs Anything OptKnown (target_asks rows (suc n) at cs)
    (λ u ds m2 z. opt_more at cs ds m2 k))

placed_asks : (rows : List Row) (most : Option ℕ) (to format : LibValue) (as' : List Argument) (bs : List Item)
    → Post {V = Placed} rows (placed rows most to format as') bs (λ p cs. OptKnown p.at cs)
placed_asks rows most to format as' bs =
    bind rows (short_text rows format as') (λ out. array rows (room most (length out)) to >>= (λ at. Give (record { bytes = out; at = at }))) bs Anything
    (λ p cs. OptKnown p.at cs) (short_asks rows format as' bs)
    (λ out cs m q. bind rows (array rows (room most (length out)) to) (λ at. Give (record { bytes = out; at = at })) cs OptKnown (λ p cs. OptKnown p.at cs)
    (array_asks rows (room most (length out)) to cs) (λ at ds m2 k. k))

sprintf_asks : (rows : List Row) (most : Option ℕ) (to format : LibValue) (as' : List Argument) (bs : List Item)
    → Asked rows (sprintf rows most to format as') bs
sprintf_asks rows most to format as' bs =
    bind rows (noting (placed rows most to format as')) (store_text most) bs (λ n cs. OptKnown n.value.at cs) Anything
    (note_asks rows (placed rows most to format as') bs (λ p cs. OptKnown p.at cs) (placed_asks rows most to format as' bs))
    (λ n cs m k. need rows (not (overlaps n.value.at (room most (length n.value.bytes)) n.items)) LibraryArgument
    (write_numbers (ended (room most (length n.value.bytes)) n.value.bytes) n.value.at >> Give (number (pos (length n.value.bytes)))) cs Anything
    (go_on rows (write_numbers (ended (room most (length n.value.bytes)) n.value.bytes) n.value.at) (λ u. Give (number (pos (length n.value.bytes)))) cs
    (write_asks rows (ended (room most (length n.value.bytes)) n.value.bytes) n.value.at cs k) (λ u ds. tt)))

script_asks : (rows : List Row) (f : LibFunc) (who : Event) (ts : List CType) (vs : List LibValue) (bs : List Item)
    → AskedOrEnds rows (script rows f who ts vs) bs
script_asks rows Printf who ts vs bs = inl (print_to_asks streams.Output rows (argument_at vs 0) (drop 1 (typed ts vs)) bs)
script_asks rows Fprintf who ts vs bs = inl (fprintf_asks rows (integer_in (argument_at vs 0)) (argument_at vs 1) (drop 2 (typed ts vs)) bs)
script_asks rows Sprintf who ts vs bs = inl (sprintf_asks rows None (argument_at vs 0) (argument_at vs 1) (drop 2 (typed ts vs)) bs)
script_asks rows Snprintf who ts vs bs =
    inl (sprintf_asks rows (Some (size_of_value (argument_at vs 1))) (argument_at vs 0) (argument_at vs 2) (drop 3 (typed ts vs)) bs)
script_asks rows f who ts vs bs = scripts_ask rows f vs who bs

pub library_asks : LibraryAsks
library_asks rows f who ts vs bs = go (script_asks rows f who ts (map passed vs) bs)
  where
    go : AskedOrEnds rows (script rows f who ts (map passed vs)) bs → AskedOrEnds rows (library rows f who ts vs) bs
    go (inl h) = inl (go_on rows (script rows f who ts (map passed vs)) (λ v. Give (result v)) bs h (λ v cs. tt))
    go (inr h) = inr (h.0, ap (λ x. x >>= (λ v. Give (result v))) h.1)
