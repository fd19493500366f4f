-- The text of a format has bytes, and what the functions that take one store is small (7.21.6).
use Rattle.std.proofs.Common.{arith, ◌≡◌, ◌+◌, ◌-◌, ◌/◌, ◌%◌, ◌<◌, ◌≤◌, ◌^◌, ℕ, zero, suc, ◌==◌, Bool, true, false, not, ◌&&◌, ◌||◌, if◌then◌else◌}
use Rattle.std.proofs.Common.{List, [], ◌∷◌, ◌++◌, length, drop, take, replicate, min, Option, Some, None, refl, subst, ℤ, pos, negsuc, unsigned_abs}
use Rattle.std.specs.Prelude.{nat_lt}
use Rattle.std.proofs.lemmas.Bool.Decides.{nat_tests}
use Rattle.std.proofs.lemmas.Int.{ints}
use Rattle.std.proofs.lemmas.List.Elements.{All-nil, All-cons, All-head, All-tail, All-append, All-replicate, All-take, All-drop}
use Rattle.ub_base.specs.declared.clause.Clause.TheVariants.{LibraryArgument, Conversion}
use Rattle.ub_base.specs.declared.clause.Cause.TheVariants.{Conversion as PastConversion, Output as PastOutput}
use Rattle.ub_base.specs.declared.names.ObjName.{ObjName}
use Rattle.addr_map.specs.declared.map.Row.{Row}
use Rattle.addr_map.specs.Rows.{row_of}
use Rattle.mem_spec.specs.declared.stream.Stream.{Stream}
use Rattle.mem_spec.specs.Acts.{Accessed, argument, candidates, expose, size_in}
use Rattle.mem_spec.specs.Script.{Do, Exceed, Finish, Give, Misplace, Raise, Script, item_of, ◌>>=◌, ◌>>◌}
use Rattle.mem_spec.specs.Store.{TaggedByte}
use Rattle.libc_spec.specs.Library as lib
use Rattle.libc_spec.specs.Library.{LibValue, address_in, check_target, ends_in_zero, low_byte, numbers, prov_in, read_numbers, text, without_zero}
use Rattle.libc_spec.specs.Library.{write_numbers}
use Rattle.libc_spec.specs.Directives as directives
use Rattle.libc_spec.specs.Directives.{Directive, Flags, Form, taken, left_out, invalid, directive_of, form, is_in}
use Rattle.libc_spec.specs.Print.{Argument, Field, Parts, Step, Taken, Width, address_parts, bare, base_of, before_zero, bounded_from, digit, digits_by}
use Rattle.libc_spec.specs.Print.{field, hex_prefix, integer_field, integer_parts, is_signed_conversion, next_int, next_integer, next_pointer, own_size}
use Rattle.libc_spec.specs.Print.{padded}
use Rattle.libc_spec.specs.Print.{next, is_int, is_target, fits_kind, signed_kind, precision_taken, put, put_address, put_byte, put_formed, put_integer}
use Rattle.libc_spec.specs.Print.{put_sized}
use Rattle.libc_spec.specs.Print.{print_to, put_string, sign, spaced, step, step_by, string_bytes, text_of, until_most, whole_size, width_taken}
use Rattle.libc_spec.specs.Formatted.{Noted, Placed, array, ended, formatted, noting, overlaps, placed, room, short, short_text, sprintf, store_text}
use Rattle.value_facts.specs.Held.{AreBytes}
use Rattle.value_facts.specs.Small.{EndInTime, IsSmallByte}
use Rattle.value_facts.proofs.Accesses.{AreSmallBytes, require_then, show_each_so}
use Rattle.value_facts.proofs.Calls.{IsText, argument_any, text_so}
use Rattle.value_facts.proofs.Parts.{AreNumbersOf, IsSmallLib, numbers_small, numbers_so, target_so, when, when_so, written_so}
use Rattle.value_facts.proofs.Scripts.{Any, GivesSo, after_so, then_so}

abbrev IsByte : ℕ → Type 0
IsByte n = n < 256

-- ---- lists of bytes
none_bytes : AreBytes []
none_bytes = All-nil IsByte

one_byte : (n : ℕ) → n < 256 → AreBytes (n ∷ [])
one_byte n h = All-cons IsByte n [] h none_bytes

joined : (ms ns : List ℕ) → AreBytes ms → AreBytes ns → AreBytes (ms ++ ns)
joined ms ns h k = All-append IsByte ms ns h k

many : (n c : ℕ) → c < 256 → AreBytes (replicate n c)
many n c h = All-replicate IsByte n c h

pick : (b : Bool) (ms ns : List ℕ) → AreBytes ms → AreBytes ns → AreBytes (if b then ms else ns)
pick true ms ns h k = h
pick false ms ns h k = k

number_bytes_of : (bs : List TaggedByte) (ns : List ℕ) → AreSmallBytes bs → AreNumbersOf bs ns → AreBytes ns
number_bytes_of bs ns h e = subst AreBytes (let f : numbers bs ≡ ns = cc (e) in f) (numbers_small bs h)

without_bytes : (ns : List ℕ) → AreBytes ns → AreBytes (without_zero ns)
without_bytes [] h = h
without_bytes (n ∷ []) h = none_bytes
without_bytes (n ∷ m ∷ ns) h = All-cons IsByte n (without_zero (m ∷ ns)) (All-head IsByte n (m ∷ ns) h) (without_bytes (m ∷ ns) (All-tail IsByte n (m ∷ ns) h))

before_bytes : (ns : List ℕ) → AreBytes ns → AreBytes (before_zero ns)
before_bytes [] h = h
before_bytes (zero ∷ ns) h = none_bytes
before_bytes (suc n ∷ ns) h = All-cons IsByte (suc n) (before_zero ns) (All-head IsByte (suc n) ns h) (before_bytes ns (All-tail IsByte (suc n) ns h))

low_is : (z : ℤ) → low_byte z < 256
low_is z = grind (arith, ints)

-- ---- the parts of a conversion
digit_is : (upper : Bool) (n : ℕ) → n < 16 → digit upper n < 256
digit_is upper n h = go upper (nat_lt n 10)
  where
    go : (u b : Bool) → (if b then 48 + n else ((if u then 55 else 87) + n)) < 256
    go u true = omega (arith, h)
    go true false = omega (arith, h)
    go false false = omega (arith, h)

rest_few : (n base : ℕ) → 0 < base → base ≤ 16 → n % base < 16
rest_few n base h k = grind (arith, h, k)

digits_are : (fuel : ℕ) (upper : Bool) (base n : ℕ) → 0 < base → base ≤ 16 → AreBytes (digits_by fuel upper base n)
digits_are zero upper base n h k = none_bytes
digits_are (suc fuel) upper base n h k =
    pick (n == 0) [] (digits_by fuel upper base (n / base) ++ digit upper (n % base) ∷ []) none_bytes
    (joined (digits_by fuel upper base (n / base)) (digit upper (n % base) ∷ []) (digits_are fuel upper base (n / base) h k)
    (one_byte (digit upper (n % base)) (digit_is upper (n % base) (rest_few n base h k))))

base_is : (c : ℕ) → (0 < base_of c) × (base_of c ≤ 16)
base_is c = go (c == 111) (is_in c (120 ∷ 88 ∷ []))
  where
    go : (a b : Bool) → (0 < (if a then 8 else (if b then 16 else 10))) × ((if a then 8 else (if b then 16 else 10)) ≤ 16)
    go true b = (omega arith, omega arith)
    go false true = (omega arith, omega arith)
    go false false = (omega arith, omega arith)

sign_bytes : (flags : Flags) (z : ℤ) → AreBytes (sign flags z)
sign_bytes flags (negsuc n) = one_byte 45 (omega arith)
sign_bytes flags (pos n) =
    pick flags.plus (43 ∷ []) (if flags.space then 32 ∷ [] else []) (one_byte 43 (omega arith))
    (pick flags.space (32 ∷ []) [] (one_byte 32 (omega arith)) none_bytes)

x_is : (c : ℕ) → is_in c (120 ∷ 88 ∷ []) ≡ true → c < 256
x_is c h = go (c == 120) (c == 88) refl refl h
  where
    go : (a b : Bool) → (c == 120) ≡ a → (c == 88) ≡ b → (a || (b || false)) ≡ true → c < 256
    go true b e f h = grind (arith, nat_tests, e)
    go false true e f h = grind (arith, nat_tests, f)
    go false false e f h = absurd (cc (h))

prefix_bytes : (flags : Flags) (c n : ℕ) → AreBytes (hex_prefix flags c n)
prefix_bytes flags c n = go flags.hash (not (n == 0)) (is_in c (120 ∷ 88 ∷ [])) refl
  where
    go : (a b d : Bool) → is_in c (120 ∷ 88 ∷ []) ≡ d → AreBytes (if a && (b && d) then 48 ∷ c ∷ [] else [])
    go true true true e = All-cons IsByte 48 (c ∷ []) (omega arith) (one_byte c (x_is c e))
    go true true false e = none_bytes
    go true false d e = none_bytes
    go false b d e = none_bytes

record HasBytes (p : Parts) : Type 0 where
  prefix : AreBytes p.prefix
  body : AreBytes p.body

integer_bytes : (flags : Flags) (c : ℕ) (precision : Option ℕ) (z : ℤ) → HasBytes (integer_parts flags c precision z)
integer_bytes flags c precision z =
    let b = base_is c in
    record {
      prefix = pick (is_signed_conversion c) (sign flags z) (hex_prefix flags c (unsigned_abs z)) (sign_bytes flags z) (prefix_bytes flags c (unsigned_abs z));
      body = digits_are 64 (c == 88) (base_of c) (unsigned_abs z) b.0 b.1;
    }

bare_bytes : (ns : List ℕ) → AreBytes ns → HasBytes (bare ns)
bare_bytes ns h = record { prefix = none_bytes; body = h }

address_bytes : (a : ℕ) → HasBytes (address_parts a)
address_bytes a = record {
  prefix = All-cons IsByte 48 (120 ∷ []) (omega arith) (one_byte 120 (omega arith));
  body = digits_are 64 false 16 a (omega arith) (omega arith);
}

padded_bytes : (p : Parts) (f : Field) (n : ℕ) → HasBytes p → AreBytes (padded p f n)
padded_bytes p f n h =
    pick f.is_left (p.prefix ++ (replicate p.zeros 48 ++ (p.body ++ replicate n 32)))
    (if f.has_zeros then p.prefix ++ (replicate (p.zeros + n) 48 ++ p.body) else replicate n 32 ++ (p.prefix ++ (replicate p.zeros 48 ++ p.body)))
    (joined p.prefix (replicate p.zeros 48 ++ (p.body ++ replicate n 32)) h.prefix
    (joined (replicate p.zeros 48) (p.body ++ replicate n 32) (many p.zeros 48 (omega arith))
    (joined p.body (replicate n 32) h.body (many n 32 (omega arith)))))
    (pick f.has_zeros (p.prefix ++ (replicate (p.zeros + n) 48 ++ p.body)) (replicate n 32 ++ (p.prefix ++ (replicate p.zeros 48 ++ p.body)))
    (joined p.prefix (replicate (p.zeros + n) 48 ++ p.body) h.prefix
    (joined (replicate (p.zeros + n) 48) p.body (many (p.zeros + n) 48 (omega arith)) h.body))
    (joined (replicate n 32) (p.prefix ++ (replicate p.zeros 48 ++ p.body)) (many n 32 (omega arith))
    (joined p.prefix (replicate p.zeros 48 ++ p.body) h.prefix (joined (replicate p.zeros 48) p.body (many p.zeros 48 (omega arith)) h.body))))

field_so : (p : Parts) (f : Field) → HasBytes p → GivesSo AreBytes (field p f)
field_so p f h =
    when AreBytes (nat_lt 4095 (whole_size p f)) (Exceed PastConversion (whole_size p f)) (Give (padded p f (whole_size p f - own_size p))) tt
    (padded_bytes p f (whole_size p f - own_size p) h)

-- ---- a directive
abbrev TakesBytes : Taken (List ℕ) → Type 0
TakesBytes t = AreBytes t.item

field_then : (p : Parts) (f : Field) (rest : List Argument) → HasBytes p
    → GivesSo TakesBytes (field p f >>= (λ bytes. Give (record { item = bytes; rest = rest })))
field_then p f rest h = then_so AreBytes TakesBytes (field p f) (λ bytes. Give (record { item = bytes; rest = rest })) (field_so p f h) (λ bytes g. g)

next_so : (given : List Argument) → GivesSo Any (next given)
next_so [] = tt
next_so (a ∷ rest) = tt

int_so : (given : List Argument) → GivesSo Any (next_int given)
int_so given = then_so Any Any (next given) _ (next_so given) (λ a any. require_then Any (is_int a.item.ty) Conversion _ (λ e. tt))

integer_so : (m : directives.Length) (signed : Bool) (given : List Argument) → GivesSo Any (next_integer m signed given)
integer_so m signed given =
    then_so Any Any (next given) _ (next_so given) (λ a any. require_then Any (fits_kind (signed_kind m) signed a.item) Conversion _ (λ e. tt))

pointer_so : (may_be_void : Bool) (given : List Argument) → GivesSo Any (next_pointer may_be_void given)
pointer_so may_be_void given =
    then_so Any Any (next given) _ (next_so given) (λ a any. require_then Any (is_target may_be_void a.item.ty) Conversion _ (λ e. tt))

width_so : (n : directives.Count) (given : List Argument) → GivesSo Any (width_taken n given)
width_so directives.absent given = tt
width_so (directives.count n) given = tt
width_so directives.argument given = then_so Any Any (next_int given) _ (int_so given) (λ n any. tt)

precision_so : (n : directives.Count) (given : List Argument) → GivesSo Any (precision_taken n given)
precision_so directives.absent given = tt
precision_so (directives.count n) given = tt
precision_so directives.argument given = then_so Any Any (next_int given) _ (int_so given) (λ n any. tt)

most_so : (wanted left : ℕ) (x : ObjName) (from : ℕ) → GivesSo AreSmallBytes (until_most wanted left x from)
most_so zero left x from = All-nil IsSmallByte
most_so (suc wanted) zero x from = tt
most_so (suc wanted) (suc left) x from = (
  tt,
  λ bs g. when AreSmallBytes (ends_in_zero bs) (Give bs) (until_most wanted left x (suc from) >>= (λ more. Give (bs ++ more))) g.1
      (then_so AreSmallBytes AreSmallBytes (until_most wanted left x (suc from)) (λ more. Give (bs ++ more)) (most_so wanted left x (suc from))
      (λ more h. All-append IsSmallByte bs more g.1 h)),
)

bounded_so : (rows : List Row) (n : ℕ) (o : Option Accessed) → GivesSo AreSmallBytes (bounded_from rows n o)
bounded_so rows n None = All-nil IsSmallByte
bounded_so rows n (Some at) = most_so n (size_in (row_of rows at.object) - at.from) at.object at.from

module _ (rows : List Row) (ends : EndInTime rows) where
  string_so : (v : LibValue) (precision : Option ℕ) → GivesSo AreBytes (string_bytes rows v precision)
  string_so v None =
      then_so (IsText rows ends (address_in v)) AreBytes (text rows (address_in v) (prov_in v)) _ (text_so rows ends (address_in v) (prov_in v)) (λ s t.
      then_so (AreNumbersOf s.bytes) AreBytes (read_numbers s.bytes) _ (numbers_so s.bytes) (λ ns e.
      before_bytes ns (number_bytes_of s.bytes ns t.0 e)))
  string_so v (Some n) =
      then_so Any AreBytes (argument rows (min n 1) (address_in v) (prov_in v)) _ (argument_any rows ends (min n 1) (address_in v) (prov_in v)) (λ at any.
      then_so AreSmallBytes AreBytes (bounded_from rows n at) _ (bounded_so rows n at) (λ bs h.
      then_so (AreNumbersOf bs) AreBytes (read_numbers bs) _ (numbers_so bs) (λ ns e. before_bytes ns (number_bytes_of bs ns h e))))

  put_integer_so : (d : Directive) (w : Width) (precision : Option ℕ) (given : List Argument) → GivesSo TakesBytes (put_integer d w precision given)
  put_integer_so d w precision given =
      then_so Any TakesBytes (next_integer d.modifier (is_signed_conversion d.conversion) given) _
      (integer_so d.modifier (is_signed_conversion d.conversion) given) (λ n any.
      field_then (integer_parts d.flags d.conversion precision n.item) (integer_field d.flags w precision) n.rest
      (integer_bytes d.flags d.conversion precision n.item))

  put_byte_so : (d : Directive) (w : Width) (given : List Argument) → GivesSo TakesBytes (put_byte d w given)
  put_byte_so d w given =
      then_so Any TakesBytes (next_int given) _ (int_so given) (λ n any.
      field_then (bare (low_byte n.item ∷ [])) (spaced d.flags w) n.rest
      (bare_bytes (low_byte n.item ∷ []) (one_byte (low_byte n.item) (low_is n.item))))

  put_string_so : (d : Directive) (w : Width) (precision : Option ℕ) (given : List Argument) → GivesSo TakesBytes (put_string rows d w precision given)
  put_string_so d w precision given =
      then_so Any TakesBytes (next_pointer false given) _ (pointer_so false given) (λ v any.
      then_so AreBytes TakesBytes (string_bytes rows v.item precision) _ (string_so v.item precision) (λ body h.
      field_then (bare body) (spaced d.flags w) v.rest (bare_bytes body h)))

  put_address_so : (d : Directive) (w : Width) (given : List Argument) → GivesSo TakesBytes (put_address d w given)
  put_address_so d w given =
      then_so Any TakesBytes (next_pointer true given) _ (pointer_so true given) (λ v any.
      then_so Any TakesBytes (expose (prov_in v.item)) _ (show_each_so (candidates (prov_in v.item))) (λ u any.
      field_then (address_parts (address_in v.item)) (spaced d.flags w) v.rest (address_bytes (address_in v.item))))

  sized_so : (d : Directive) (w : Width) (precision : Option ℕ) (given : List Argument) → GivesSo TakesBytes (put_sized rows d w precision given)
  sized_so d w precision given =
      when TakesBytes (d.conversion == 99) _ _ (put_byte_so d w given)
      (when TakesBytes (d.conversion == 115) _ _ (put_string_so d w precision given)
      (when TakesBytes (d.conversion == 112) _ _ (put_address_so d w given) (put_integer_so d w precision given)))

  put_so : (d : Directive) (given : List Argument) → GivesSo TakesBytes (put rows d given)
  put_so d given =
      when TakesBytes (d.conversion == 37) _ _ (one_byte 37 (omega arith))
      (then_so Any TakesBytes (width_taken d.width given) _ (width_so d.width given) (λ w any.
      then_so Any TakesBytes (precision_taken d.precision w.rest) _ (precision_so d.precision w.rest) (λ p any.
      sized_so d w.item p.item p.rest)))

  formed_so : (how : Form) (d : Directive) (at : ℕ) (given : List Argument) → GivesSo TakesBytes (put_formed rows how d at given)
  formed_so taken d at given = put_so d given
  formed_so left_out d at given = tt
  formed_so invalid d at given = tt

  -- ---- the text of a format
  abbrev StepsBytes : Step → Type 0
  StepsBytes s = AreBytes s.bytes

  directive_so : (d : Option Directive) (at : ℕ) (given : List Argument) → GivesSo StepsBytes (step_by rows d at given)
  directive_so None at given = tt
  directive_so (Some d) at given =
      then_so TakesBytes StepsBytes (put_formed rows (form d) d at given) _ (formed_so (form d) d at given) (λ p h. h)

  step_so : (c : ℕ) (cs : List ℕ) (at : ℕ) (given : List Argument) → c < 256 → GivesSo StepsBytes (step rows c cs at given)
  step_so c cs at given h =
      when StepsBytes (c == 37) (step_by rows (directive_of cs) at given) (Give (record { bytes = c ∷ []; len = 0; rest = given }))
      (directive_so (directive_of cs) at given) (one_byte c h)

  text_of_so : (fuel at : ℕ) (cs : List ℕ) (given : List Argument) → AreBytes cs → GivesSo AreBytes (text_of fuel rows at cs given)
  text_of_so zero at cs given h = none_bytes
  text_of_so (suc fuel) at [] given h = none_bytes
  text_of_so (suc fuel) at (c ∷ cs) given h =
      then_so StepsBytes AreBytes (step rows c cs at given) _ (step_so c cs at given (All-head IsByte c cs h)) (λ s g.
      then_so AreBytes AreBytes (text_of fuel rows (at + 1 + s.len) (drop s.len cs) s.rest) _
      (text_of_so fuel (at + 1 + s.len) (drop s.len cs) s.rest (All-drop IsByte s.len cs (All-tail IsByte c cs h))) (λ more k. joined s.bytes more g k))

  formatted_so : (format : LibValue) (given : List Argument) → GivesSo AreBytes (formatted rows format given)
  formatted_so format given =
      then_so (IsText rows ends (address_in format)) AreBytes (text rows (address_in format) (prov_in format)) _
      (text_so rows ends (address_in format) (prov_in format)) (λ s t.
      then_so (AreNumbersOf s.bytes) AreBytes (read_numbers s.bytes) _ (numbers_so s.bytes) (λ ns e.
      text_of_so (length ns) 0 (without_zero ns) given (without_bytes ns (number_bytes_of s.bytes ns t.0 e))))

  -- ---- the calls
  pub print_any : (to : Stream) (format : LibValue) (given : List Argument) → GivesSo Any (print_to to rows format given)
  print_any to format given =
      then_so (IsText rows ends (address_in format)) Any (text rows (address_in format) (prov_in format)) _
      (text_so rows ends (address_in format) (prov_in format)) (λ s t.
      then_so (AreNumbersOf s.bytes) Any (read_numbers s.bytes) _ (numbers_so s.bytes) (λ ns e.
      then_so AreBytes Any (text_of (length ns) rows 0 (without_zero ns) given) _
      (text_of_so (length ns) 0 (without_zero ns) given (without_bytes ns (number_bytes_of s.bytes ns t.0 e))) (λ bytes h. (tt, λ u g. tt))))

  abbrev IsShort : List ℕ → Type 0
  IsShort bytes = AreBytes bytes × (length bytes ≤ 2 ^ 24)

  short_so : (bytes : List ℕ) → AreBytes bytes → GivesSo IsShort (short bytes)
  short_so bytes h =
      when_so IsShort (nat_lt (2 ^ 24) (length bytes)) (Exceed PastOutput (length bytes)) (Give bytes) (λ e. tt) (λ e. (h, grind (arith, nat_tests, e)))

  short_text_so : (format : LibValue) (given : List Argument) → GivesSo IsShort (short_text rows format given)
  short_text_so format given = then_so AreBytes IsShort (formatted rows format given) short (formatted_so format given) short_so

  array_so : (n : ℕ) (v : LibValue) → GivesSo Any (array rows n v)
  array_so zero v = tt
  array_so (suc n) v =
      then_so Any Any (argument rows (suc n) (address_in v) (prov_in v)) _ (argument_any rows ends (suc n) (address_in v) (prov_in v)) (λ at any.
      then_so Any Any (check_target (suc n) at) _ (target_so (suc n) at) (λ u any. tt))

  abbrev PlacesShort : Placed → Type 0
  PlacesShort p = IsShort p.bytes

  placed_so : (most : Option ℕ) (to format : LibValue) (given : List Argument) → GivesSo PlacesShort (placed rows most to format given)
  placed_so most to format given =
      then_so IsShort PlacesShort (short_text rows format given) _ (short_text_so format given) (λ bytes h.
      then_so Any PlacesShort (array rows (room most (length bytes)) to) _ (array_so (room most (length bytes)) to) (λ at any. h))

  noting_so : {A : Type 0} (P : A → Type 0) (p : Script A) → GivesSo P p → GivesSo (λ (n : Noted A). P n.value) (noting p)
  noting_so P (Give v) h = h
  noting_so P (Raise c) h = tt
  noting_so P (Finish n) h = tt
  noting_so P (Exceed c n) h = tt
  noting_so P Misplace h = tt
  noting_so {A = A} P (Do t k) h = (
    h.0,
    λ a g. then_so (λ (n : Noted A). P n.value) (λ (n : Noted A). P n.value) (noting (k a))
        (λ n. Give (record { value = n.value; items = item_of t ∷ n.items })) (noting_so P (k a) (h.1 a g)) (λ n q. q),
  )

  ended_bytes : (n : ℕ) (bytes : List ℕ) → AreBytes bytes → AreBytes (ended n bytes)
  ended_bytes zero bytes h = none_bytes
  ended_bytes (suc n) bytes h = joined (take n bytes) (0 ∷ []) (All-take IsByte n bytes h) (one_byte 0 (omega arith))

  few : (n : ℕ) → n ≤ 2 ^ 24 → unsigned_abs (pos n) < 2 ^ 64
  few n h = omega (arith, h)

  stored_so : (most : Option ℕ) (p : Noted Placed) → PlacesShort p.value → GivesSo IsSmallLib (store_text most p)
  stored_so most p h =
      let n = room most (length p.value.bytes) in
      let value = lib.number (pos (length p.value.bytes)) in
      require_then IsSmallLib (not (overlaps p.value.at n p.items)) LibraryArgument
      (write_numbers (ended n p.value.bytes) p.value.at >> Give value) (λ e.
      after_so IsSmallLib (write_numbers (ended n p.value.bytes) p.value.at) (Give value)
      (written_so (ended n p.value.bytes) p.value.at (ended_bytes n p.value.bytes h.0)) (few (length p.value.bytes) h.1))

  pub sprintf_so : (most : Option ℕ) (to format : LibValue) (given : List Argument) → GivesSo IsSmallLib (sprintf rows most to format given)
  sprintf_so most to format given =
      then_so (λ (n : Noted Placed). PlacesShort n.value) IsSmallLib (noting (placed rows most to format given)) (store_text most)
      (noting_so PlacesShort (placed rows most to format given) (placed_so most to format given)) (stored_so most)
