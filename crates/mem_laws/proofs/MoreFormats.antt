-- The scripts of calls with a format under more rows.
use Rattle.std.proofs.Common.{◌≡◌, ℕ, zero, suc, ◌+◌, ◌-◌, ◌^◌, ◌==◌, Bool, true, false, not, List, [], ◌∷◌, ◌++◌, length, drop, Option, Some, None, refl, ap}
use Rattle.std.proofs.Common.{◌∙◌, ℤ, pos, cond, min}
use Rattle.std.specs.Prelude.{nat_lt}
use Rattle.std.specs.Ordering.{int_eq}
use Rattle.ub_base.specs.declared.clause.Clause.{Clause}
use Rattle.ub_base.specs.declared.clause.Clause.TheVariants.{LibraryArgument, Conversion}
use Rattle.ub_base.specs.declared.names.ObjName.{ObjName}
use Rattle.addr_map.specs.declared.map.Row.{Row}
use Rattle.addr_map.specs.Rows.{row_of}
use Rattle.exposure.specs.declared.prov.Prov.{Prov}
use Rattle.mem_spec.specs.declared.stream.Stream.{Stream}
use Rattle.mem_spec.specs.declared.stream.Stream.TheVariants as streams
use Rattle.mem_spec.specs.Store.{Store, TaggedByte}
use Rattle.mem_spec.specs.Script.{Print, item_of, Answer, Script, Give, Raise, Finish, Exceed, Misplace, Do, Act, run, touch, require, ◌>>=◌, ◌>>◌}
use Rattle.mem_spec.specs.Acts.{Accessed, argument, expose, candidates, size_in}
use Rattle.libc_spec.specs.Library.{LibValue, number, address_in, prov_in, integer_in, low_byte, read_numbers, without_zero, text, check_target, write_numbers}
use Rattle.libc_spec.specs.Library.{in_ranges, output_within, ends_in_zero}
use Rattle.libc_spec.specs.Directives.{Flags, Count, absent, count, Length, Directive, directive_of, Form, taken, left_out, invalid, form}
use Rattle.libc_spec.specs.Directives as directives
use Rattle.libc_spec.specs.Print.{Argument, Taken, next, is_int, next_int, Width, width_taken, precision_taken, signed_kind, fits_kind, next_integer, is_target}
use Rattle.libc_spec.specs.Print.{next_pointer, Parts, Field, whole_size, field, until_most, bounded_from, string_bytes, put_integer, put_byte, put_string}
use Rattle.libc_spec.specs.Print.{put_address, put_sized, put, put_formed, Step, step_by, step, text_of, print_to, is_signed_conversion, integer_parts}
use Rattle.libc_spec.specs.Print.{integer_field, bare, spaced, address_parts}
use Rattle.libc_spec.specs.Formatted.{formatted, short, short_text, fprintf, room, ended, array, noting, overlaps, placed, store_text, sprintf}
use Rattle.mem_laws.specs.MoreRows.{Extends, AreIn}
use Rattle.mem_laws.specs.MoreFormats.{FormattedIn, FormatsSameUnderMore}
use Rattle.mem_laws.proofs.MoreCalls.{Finds, Blind, Only, IsAccessedIn, blind_same, numbers_read, target, numbers_written, either, argued, text_read, row}
use Rattle.mem_laws.proofs.MoreCalls.{shown}
use Rattle.mem_laws.proofs.MoreCalls.{argument_only, argument_same, text_same}

-- ---- a script that finds nothing by its address, with what holds of its values
abbrev Fits : {V : Type 0} → (V → Type 0) → Script V → Type 0
Fits P (Give v) = P v
Fits P (Do t k) = Finds t × ((r : Answer t) → Fits P (k r))
Fits P p = Unit {0}

fits_then : {A B : Type 0} (P : A → Type 0) (Q : B → Type 0) (p : Script A) (k : A → Script B) → Fits P p → ((v : A) → P v → Fits Q (k v))
    → Fits Q (p >>= k)
fits_then P Q (Give v) k f h = h v f
fits_then P Q (Raise c) k f h = tt
fits_then P Q (Finish n) k f h = tt
fits_then P Q (Exceed c n) k f h = tt
fits_then P Q Misplace k f h = tt
fits_then P Q (Do t g) k f h = (f.0, λ r. fits_then P Q (g r) k (f.1 r) h)

fits_both : {A : Type 0} (P : A → Type 0) (p : Script A) → Blind p → Only P p → Fits P p
fits_both P (Give v) b o = o
fits_both P (Raise c) b o = tt
fits_both P (Finish n) b o = tt
fits_both P (Exceed c n) b o = tt
fits_both P Misplace b o = tt
fits_both P (Do t k) b o = (b.0, λ r. fits_both P (k r) (b.1 r) (o r))

abbrev Any : {A : Type 0} → A → Type 0
Any v = Unit {0}

fits_any : {A : Type 0} (p : Script A) → Blind p → Fits Any p
fits_any (Give v) b = tt
fits_any (Raise c) b = tt
fits_any (Finish n) b = tt
fits_any (Exceed c n) b = tt
fits_any Misplace b = tt
fits_any (Do t k) b = (b.0, λ r. fits_any (k r) (b.1 r))

blind_of : {A : Type 0} (P : A → Type 0) (p : Script A) → Fits P p → Blind p
blind_of P (Give v) f = tt
blind_of P (Raise c) f = tt
blind_of P (Finish n) f = tt
blind_of P (Exceed c n) f = tt
blind_of P Misplace f = tt
blind_of P (Do t k) f = (f.0, λ r. blind_of P (k r) (f.1 r))

swap : {A B : Type 0} (P : A → Type 0) (p : Script A) (k l : A → Script B) → Fits P p → ((v : A) → P v → l v ≡ k v) → (p >>= l) ≡ (p >>= k)
swap P (Give v) k l f h = h v f
swap P (Raise c) k l f h = refl
swap P (Finish n) k l f h = refl
swap P (Exceed c n) k l f h = refl
swap P Misplace k l f h = refl
swap P (Do t g) k l f h = λ i. Do t (λ r. swap P (g r) k l (f.1 r) h i)

-- ---- a script under the fewer rows and under more: they are one
record Alike {A : Type 0} (P : A → Type 0) (p q : Script A) : Type 0 where
  same : q ≡ p
  fits : Fits P p

follow : {A B : Type 0} (P : A → Type 0) (Q : B → Type 0) (p q : Script A) (k l : A → Script B) → Alike P p q → ((v : A) → P v → Alike Q (k v) (l v))
    → Alike Q (p >>= k) (q >>= l)
follow P Q p q k l a h = record {
  same = ap (λ z. z >>= l) a.same ∙ swap P p k l a.fits (λ v g. (h v g).same);
  fits = fits_then P Q p k a.fits (λ v g. (h v g).fits);
}

gives : {A : Type 0} (P : A → Type 0) (v : A) → P v → Alike P (Give v) (Give v)
gives P v h = record { same = refl; fits = h }

plain : {A : Type 0} (p : Script A) → Blind p → Alike Any p p
plain p b = record { same = refl; fits = fits_any p b }

needs : {B : Type 0} (P : B → Type 0) (b : Bool) (c : Clause) (p q : Script B) → Alike P p q → Alike P (require b c >> p) (require b c >> q)
needs P true c p q a = a
needs P false c p q a = record { same = refl; fits = tt }

choose : {B : Type 0} (P : B → Type 0) (b : Bool) (p q p' q' : Script B) → Alike P p q → Alike P p' q' → Alike P (cond b p p') (cond b q q')
choose P true p q p' q' a e = a
choose P false p q p' q' a e = e

field_plain : (p : Parts) (f : Field) → Alike Any (field p f) (field p f)
field_plain p f = plain (field p f) (either (nat_lt 4095 (whole_size p f)) (Exceed _ _) (Give _) tt tt)

most_blind : (wanted left : ℕ) (x : ObjName) (from : ℕ) → Blind (until_most wanted left x from)
most_blind zero left x from = tt
most_blind (suc wanted) zero x from = tt
most_blind (suc wanted) (suc left) x from = (
  tt,
  λ bs. either (ends_in_zero bs) (Give bs) (until_most wanted left x (suc from) >>= (λ more. Give (bs ++ more))) tt
      (blind_of Any (until_most wanted left x (suc from) >>= (λ more. Give (bs ++ more)))
      (fits_then Any Any (until_most wanted left x (suc from)) (λ more. Give (bs ++ more)) (fits_any _ (most_blind wanted left x (suc from))) (λ more u. tt))),
)

module _ (few more : List Row) (ext : Extends few more) where
  abbrev IsAt : Option Accessed → Type 0
  IsAt o = IsAccessedIn few more ext o

  text_alike : (a : ℕ) (p : Prov) → AreIn few p → Alike Any (text few a p) (text more a p)
  text_alike a p h = record { same = text_same few more ext a p h; fits = fits_any (text few a p) (text_read few a p) }

  argument_alike : (len a : ℕ) (p : Prov) → AreIn few p → Alike IsAt (argument few len a p) (argument more len a p)
  argument_alike len a p h = record {
    same = argument_same few more ext len a p h;
    fits = fits_both IsAt (argument few len a p) (argued few len a p) (argument_only few more ext len a p h);
  }

  numbers_alike : (bs : List TaggedByte) → Alike Any (read_numbers bs) (read_numbers bs)
  numbers_alike bs = plain (read_numbers bs) (numbers_read bs)

  -- ---- what is taken of the arguments, and what is left of them
  abbrev RestIn : {A : Type 0} → Taken A → Type 0
  RestIn t = FormattedIn few t.rest

  abbrev NextIn : Taken Argument → Type 0
  NextIn t = AreIn few (prov_in t.item.value) × FormattedIn few t.rest

  abbrev PointerIn : Taken LibValue → Type 0
  PointerIn t = AreIn few (prov_in t.item) × FormattedIn few t.rest

  next_alike : (given : List Argument) → FormattedIn few given → Alike NextIn (next given) (next given)
  next_alike [] h = record { same = refl; fits = tt }
  next_alike (a ∷ rest) h = record { same = refl; fits = (h.0, h.1) }

  int_alike : (given : List Argument) → FormattedIn few given → Alike RestIn (next_int given) (next_int given)
  int_alike given h =
      follow NextIn RestIn (next given) (next given) _ _ (next_alike given h) (λ a g.
      needs RestIn (is_int a.item.ty) Conversion _ _ (gives RestIn (record { item = integer_in a.item.value; rest = a.rest }) g.1))

  width_alike : (n : Count) (given : List Argument) → FormattedIn few given → Alike RestIn (width_taken n given) (width_taken n given)
  width_alike absent given h = record { same = refl; fits = h }
  width_alike (count n) given h = record { same = refl; fits = h }
  width_alike directives.argument given h = follow RestIn RestIn (next_int given) (next_int given) _ _ (int_alike given h) (λ n g. gives RestIn _ g)

  precision_alike : (n : Count) (given : List Argument) → FormattedIn few given → Alike RestIn (precision_taken n given) (precision_taken n given)
  precision_alike absent given h = record { same = refl; fits = h }
  precision_alike (count n) given h = record { same = refl; fits = h }
  precision_alike directives.argument given h = follow RestIn RestIn (next_int given) (next_int given) _ _ (int_alike given h) (λ n g. gives RestIn _ g)

  integer_alike : (m : Length) (signed : Bool) (given : List Argument) → FormattedIn few given
      → Alike RestIn (next_integer m signed given) (next_integer m signed given)
  integer_alike m signed given h =
      follow NextIn RestIn (next given) (next given) _ _ (next_alike given h) (λ a g.
      needs RestIn (fits_kind (signed_kind m) signed a.item) Conversion _ _ (gives RestIn _ g.1))

  pointer_alike : (may_be_void : Bool) (given : List Argument) → FormattedIn few given
      → Alike PointerIn (next_pointer may_be_void given) (next_pointer may_be_void given)
  pointer_alike may_be_void given h =
      follow NextIn PointerIn (next given) (next given) _ _ (next_alike given h) (λ a g.
      needs PointerIn (is_target may_be_void a.item.ty) Conversion _ _ (gives PointerIn _ (g.0, g.1)))

  -- ---- a directive
  field_then : (p : Parts) (f : Field) (rest : List Argument) → FormattedIn few rest
      → Alike RestIn (field p f >>= (λ bytes. Give (record { item = bytes; rest = rest })))
      (field p f >>= (λ bytes. Give (record { item = bytes; rest = rest })))
  field_then p f rest h = follow Any RestIn (field p f) (field p f) _ _ (field_plain p f) (λ bytes u. gives RestIn _ h)

  bounded_alike : (n : ℕ) (o : Option Accessed) → IsAt o → Alike Any (bounded_from few n o) (bounded_from more n o)
  bounded_alike n None h = record { same = refl; fits = tt }
  bounded_alike n (Some at) h = record {
    same = ap (λ (r : Option Row). until_most n (size_in r - at.from) at.object at.from) (row few more ext at.object h);
    fits = fits_any _ (most_blind n (size_in (row_of few at.object) - at.from) at.object at.from);
  }

  string_alike : (v : LibValue) (precision : Option ℕ) → AreIn few (prov_in v) → Alike Any (string_bytes few v precision) (string_bytes more v precision)
  string_alike v None h =
      follow Any Any (text few (address_in v) (prov_in v)) (text more (address_in v) (prov_in v)) _ _ (text_alike (address_in v) (prov_in v) h) (λ s u.
      follow Any Any (read_numbers s.bytes) (read_numbers s.bytes) _ _ (numbers_alike s.bytes) (λ ns w. gives Any _ tt))
  string_alike v (Some n) h =
      follow IsAt Any (argument few (min n 1) (address_in v) (prov_in v)) (argument more (min n 1) (address_in v) (prov_in v)) _ _
      (argument_alike (min n 1) (address_in v) (prov_in v) h) (λ at is.
      follow Any Any (bounded_from few n at) (bounded_from more n at) _ _ (bounded_alike n at is) (λ bs u.
      follow Any Any (read_numbers bs) (read_numbers bs) _ _ (numbers_alike bs) (λ ns w. gives Any _ tt)))

  put_integer_alike : (d : Directive) (w : Width) (precision : Option ℕ) (given : List Argument) → FormattedIn few given
      → Alike RestIn (put_integer d w precision given) (put_integer d w precision given)
  put_integer_alike d w precision given h =
      follow RestIn RestIn (next_integer d.modifier (is_signed_conversion d.conversion) given) _ _ _
      (integer_alike d.modifier (is_signed_conversion d.conversion) given h) (λ n g.
      field_then (integer_parts d.flags d.conversion precision n.item) (integer_field d.flags w precision) n.rest g)

  put_byte_alike : (d : Directive) (w : Width) (given : List Argument) → FormattedIn few given → Alike RestIn (put_byte d w given) (put_byte d w given)
  put_byte_alike d w given h = follow RestIn RestIn (next_int given) _ _ _ (int_alike given h) (λ n g.
      field_then (bare (low_byte n.item ∷ [])) (spaced d.flags w) n.rest g)

  put_string_alike : (d : Directive) (w : Width) (precision : Option ℕ) (given : List Argument) → FormattedIn few given
      → Alike RestIn (put_string few d w precision given) (put_string more d w precision given)
  put_string_alike d w precision given h =
      follow PointerIn RestIn (next_pointer false given) _ _ _ (pointer_alike false given h) (λ v g.
      follow Any RestIn (string_bytes few v.item precision) (string_bytes more v.item precision) _ _ (string_alike v.item precision g.0) (λ body u.
      field_then (bare body) (spaced d.flags w) v.rest g.1))

  put_address_alike : (d : Directive) (w : Width) (given : List Argument) → FormattedIn few given
      → Alike RestIn (put_address d w given) (put_address d w given)
  put_address_alike d w given h =
      follow PointerIn RestIn (next_pointer true given) _ _ _ (pointer_alike true given h) (λ v g.
      follow Any RestIn (expose (prov_in v.item)) (expose (prov_in v.item)) _ _
      (plain (expose (prov_in v.item)) (shown (candidates (prov_in v.item)))) (λ u x.
      field_then (address_parts (address_in v.item)) (spaced d.flags w) v.rest g.1))

  sized_alike : (d : Directive) (w : Width) (precision : Option ℕ) (given : List Argument) → FormattedIn few given
      → Alike RestIn (put_sized few d w precision given) (put_sized more d w precision given)
  sized_alike d w precision given h =
      choose RestIn (d.conversion == 99) _ _ _ _ (put_byte_alike d w given h)
      (choose RestIn (d.conversion == 115) _ _ _ _ (put_string_alike d w precision given h)
      (choose RestIn (d.conversion == 112) _ _ _ _ (put_address_alike d w given h) (put_integer_alike d w precision given h)))

  put_alike : (d : Directive) (given : List Argument) → FormattedIn few given → Alike RestIn (put few d given) (put more d given)
  put_alike d given h =
      choose RestIn (d.conversion == 37) _ _ _ _ (gives RestIn _ h)
      (follow RestIn RestIn (width_taken d.width given) _ _ _ (width_alike d.width given h) (λ w g.
      follow RestIn RestIn (precision_taken d.precision w.rest) _ _ _ (precision_alike d.precision w.rest g) (λ p f.
      sized_alike d w.item p.item p.rest f)))

  formed_alike : (how : Form) (d : Directive) (at : ℕ) (given : List Argument) → FormattedIn few given
      → Alike RestIn (put_formed few how d at given) (put_formed more how d at given)
  formed_alike taken d at given h = put_alike d given h
  formed_alike left_out d at given h = record { same = refl; fits = tt }
  formed_alike invalid d at given h = record { same = refl; fits = tt }

  -- ---- the text of a format
  abbrev StepIn : Step → Type 0
  StepIn s = FormattedIn few s.rest

  directive_alike : (d : Option Directive) (at : ℕ) (given : List Argument) → FormattedIn few given
      → Alike StepIn (step_by few d at given) (step_by more d at given)
  directive_alike None at given h = record { same = refl; fits = tt }
  directive_alike (Some d) at given h =
      follow RestIn StepIn (put_formed few (form d) d at given) (put_formed more (form d) d at given) _ _ (formed_alike (form d) d at given h) (λ p g.
      gives StepIn _ g)

  step_alike : (c : ℕ) (cs : List ℕ) (at : ℕ) (given : List Argument) → FormattedIn few given → Alike StepIn (step few c cs at given) (step more c cs at given)
  step_alike c cs at given h =
      choose StepIn (c == 37) _ _ _ _ (directive_alike (directive_of cs) at given h) (gives StepIn (record { bytes = c ∷ []; len = 0; rest = given }) h)

  text_of_alike : (fuel at : ℕ) (cs : List ℕ) (given : List Argument) → FormattedIn few given →
      Alike Any (text_of fuel few at cs given) (text_of fuel more at cs given)
  text_of_alike zero at cs given h = record { same = refl; fits = tt }
  text_of_alike (suc fuel) at [] given h = record { same = refl; fits = tt }
  text_of_alike (suc fuel) at (c ∷ cs) given h =
      follow StepIn Any (step few c cs at given) (step more c cs at given) _ _ (step_alike c cs at given h) (λ s g.
      follow Any Any (text_of fuel few (at + 1 + s.len) (drop s.len cs) s.rest) (text_of fuel more (at + 1 + s.len) (drop s.len cs) s.rest) _ _
      (text_of_alike fuel (at + 1 + s.len) (drop s.len cs) s.rest g) (λ rest u. gives Any _ tt))

  -- ---- the calls
  print_alike : (to : Stream) (format : LibValue) (given : List Argument) → AreIn few (prov_in format) → FormattedIn few given
      → Alike Any (print_to to few format given) (print_to to more format given)
  print_alike to format given g h =
      follow Any Any (text few (address_in format) (prov_in format)) (text more (address_in format) (prov_in format)) _ _
      (text_alike (address_in format) (prov_in format) g) (λ s u.
      follow Any Any (read_numbers s.bytes) (read_numbers s.bytes) _ _ (numbers_alike s.bytes) (λ ns w.
      follow Any Any (text_of (length ns) few 0 (without_zero ns) given) (text_of (length ns) more 0 (without_zero ns) given) _ _
      (text_of_alike (length ns) 0 (without_zero ns) given h) (λ bytes x.
      plain (touch (Print to bytes) >> Give (number (pos (length bytes)))) (tt, λ r. tt))))

  fprintf_alike : (stream : ℤ) (format : LibValue) (given : List Argument) → AreIn few (prov_in format) → FormattedIn few given
      → Alike Any (fprintf few stream format given) (fprintf more stream format given)
  fprintf_alike stream format given g h =
      choose Any (int_eq stream (pos 1)) _ _ _ _ (print_alike streams.Output format given g h)
      (choose Any (int_eq stream (pos 2)) _ _ _ _ (print_alike streams.Errors format given g h) (record { same = refl; fits = tt }))

  formatted_alike : (format : LibValue) (given : List Argument) → AreIn few (prov_in format) → FormattedIn few given
      → Alike Any (formatted few format given) (formatted more format given)
  formatted_alike format given g h =
      follow Any Any (text few (address_in format) (prov_in format)) (text more (address_in format) (prov_in format)) _ _
      (text_alike (address_in format) (prov_in format) g) (λ s u.
      follow Any Any (read_numbers s.bytes) (read_numbers s.bytes) _ _ (numbers_alike s.bytes) (λ ns w.
      text_of_alike (length ns) 0 (without_zero ns) given h))

  short_alike : (format : LibValue) (given : List Argument) → AreIn few (prov_in format) → FormattedIn few given
      → Alike Any (short_text few format given) (short_text more format given)
  short_alike format given g h =
      follow Any Any (formatted few format given) (formatted more format given) short short (formatted_alike format given g h) (λ bytes u.
      choose Any (nat_lt (2 ^ 24) (length bytes)) _ _ _ _ (record { same = refl; fits = tt }) (gives Any bytes tt))

  array_alike : (n : ℕ) (v : LibValue) → AreIn few (prov_in v) → Alike Any (array few n v) (array more n v)
  array_alike zero v h = record { same = refl; fits = tt }
  array_alike (suc n) v h =
      follow IsAt Any (argument few (suc n) (address_in v) (prov_in v)) (argument more (suc n) (address_in v) (prov_in v)) _ _
      (argument_alike (suc n) (address_in v) (prov_in v) h) (λ at is.
      follow Any Any (check_target (suc n) at) (check_target (suc n) at) _ _ (plain (check_target (suc n) at) (target (suc n) at)) (λ u w. gives Any at tt))

  placed_alike : (most : Option ℕ) (to format : LibValue) (given : List Argument) → AreIn few (prov_in to) → AreIn few (prov_in format)
      → FormattedIn few given → Alike Any (placed few most to format given) (placed more most to format given)
  placed_alike most to format given f g h =
      follow Any Any (short_text few format given) (short_text more format given) _ _ (short_alike format given g h) (λ bytes u.
      follow Any Any (array few (room most (length bytes)) to) (array more (room most (length bytes)) to) _ _ (array_alike (room most (length bytes)) to f)
      (λ at w. gives Any _ tt))

  noting_blind : {A : Type 0} (p : Script A) → Blind p → Blind (noting p)
  noting_blind (Give v) b = tt
  noting_blind (Raise c) b = tt
  noting_blind (Finish n) b = tt
  noting_blind (Exceed c n) b = tt
  noting_blind Misplace b = tt
  noting_blind (Do t k) b = (
    b.0,
    λ r. blind_of Any (noting (k r) >>= (λ n. Give (record { value = n.value; items = item_of t ∷ n.items })))
        (fits_then Any Any (noting (k r)) _ (fits_any (noting (k r)) (noting_blind (k r) (b.1 r))) (λ n u. tt)),
  )

  noting_alike : {A : Type 0} (p q : Script A) → Alike Any p q → Alike Any (noting p) (noting q)
  noting_alike p q a = record { same = ap noting a.same; fits = fits_any (noting p) (noting_blind p (blind_of Any p a.fits)) }

  sprintf_alike : (most : Option ℕ) (to format : LibValue) (given : List Argument) → AreIn few (prov_in to) → AreIn few (prov_in format)
      → FormattedIn few given → Alike Any (sprintf few most to format given) (sprintf more most to format given)
  sprintf_alike most to format given f g h =
      follow Any Any (noting (placed few most to format given)) (noting (placed more most to format given)) (store_text most) (store_text most)
      (noting_alike (placed few most to format given) (placed more most to format given) (placed_alike most to format given f g h)) (λ p u.
      needs Any (not (overlaps p.value.at (room most (length p.value.bytes)) p.items)) LibraryArgument _ _
      (follow Any Any (write_numbers (ended (room most (length p.value.bytes)) p.value.bytes) p.value.at) _ _ _
      (plain (write_numbers (ended (room most (length p.value.bytes)) p.value.bytes) p.value.at)
      (numbers_written (ended (room most (length p.value.bytes)) p.value.bytes) p.value.at)) (λ w x. gives Any _ tt)))

  does_alike : (p q : Script LibValue) (s : Store) → Alike Any p q → run more q s ≡ run few p s
  does_alike p q s a = ap (λ (z : Script LibValue). run more z s) a.same ∙ blind_same few more p s (blind_of Any p a.fits)

  bounded : (p q : Script LibValue) (s : Store) → Alike Any p q → output_within (in_ranges (run more q s)) ≡ output_within (in_ranges (run few p s))
  bounded p q s a = ap (λ (act : Act LibValue). output_within (in_ranges act)) (does_alike p q s a)

pub formats_same : FormatsSameUnderMore
formats_same few more format given s ext g h = record {
  printed = bounded few more ext (print_to streams.Output few format given) (print_to streams.Output more format given) s
      (print_alike few more ext streams.Output format given g h);
  printed_to = λ stream. bounded few more ext (fprintf few stream format given) (fprintf more stream format given) s
      (fprintf_alike few more ext stream format given g h);
  stored = λ most to f. bounded few more ext (sprintf few most to format given) (sprintf more most to format given) s
      (sprintf_alike few more ext most to format given f g h);
}
