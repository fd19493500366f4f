-- A call of the library gives a small value, where it doesn't pass the limit on the output, and leaves small bytes.
use Rattle.std.proofs.Common.{arith, ◌≡◌, ◌<◌, ◌≤◌, ◌^◌, ℕ, zero, suc, Bool, true, false, if◌then◌else◌, List, [], ◌∷◌, length, map, drop}
use Rattle.std.proofs.Common.{Some, None, sym, subst, slice_get, ℤ, pos, unsigned_abs}
use Rattle.std.specs.Ordering.{int_eq}
use Rattle.std.specs.List.{All}
use Rattle.std.proofs.lemmas.List.{length-append}
use Rattle.std.proofs.lemmas.List.Elements.{All-head, All-tail}
use Rattle.ub_base.specs.declared.clause.Clause.TheVariants.{LibraryArgument}
use Rattle.ub_base.specs.declared.names.Event.{Event}
use Rattle.ub_base.specs.declared.names.Item.{Item}
use Rattle.addr_map.specs.declared.map.Row.{Row}
use Rattle.c_types.specs.Types.{CType}
use Rattle.c_types.specs.declared.library.LibFunc.{LibFunc}
use Rattle.c_types.specs.declared.library.LibFunc.TheVariants.{Malloc, Calloc, Realloc, Free, Memcpy, Memmove, Memset, Memcmp, Strlen, Strcpy, Strcmp}
use Rattle.c_types.specs.declared.library.LibFunc.TheVariants.{Strchr, Getchar, Putchar, Puts, Printf, Fprintf, Sprintf, Snprintf, Exit, Abort}
use Rattle.mem_spec.specs.declared.stream.Stream.{Stream}
use Rattle.mem_spec.specs.declared.stream.Stream.TheVariants as streams
use Rattle.mem_spec.specs.Script.{Done, Give, Print, Raise, Script, Take, left, run, touch, ◌>>◌}
use Rattle.mem_spec.specs.Store.{Store}
use Rattle.mem_spec.specs.Streams.{Outputs, printed_to, total}
use Rattle.libc_spec.specs.Library as lib
use Rattle.libc_spec.specs.Library.{LibValue, address_in, argument_at, byte_or_end, integer_in, number, prov_in, read_numbers, size_of_value, text}
use Rattle.libc_spec.specs.Library.{without_zero}
use Rattle.libc_spec.specs.Print.{Argument, print_to, text_of}
use Rattle.libc_spec.specs.Formatted.{fprintf, sprintf}
use Rattle.c_model.specs.Libraries.{passed, result, script, typed}
use Rattle.c_model.specs.Values.{Value, Int, Ptr, Fun, Missing, Nothing}
use Rattle.c_model.specs.Values as values
use Rattle.value_facts.specs.Held.{IsScalar, AreBytes, LibraryIsSmall}
use Rattle.value_facts.specs.Small.{EndInTime, HasSmallBytes, IsSmall}
use Rattle.value_facts.proofs.Calls.{library_so}
use Rattle.value_facts.proofs.Parts.{AreSmallLib, IsSmallLib}
use Rattle.value_facts.proofs.Formats.{print_any, sprintf_so}
use Rattle.value_facts.proofs.Ran.{given, parted, went}
use Rattle.value_facts.proofs.Scripts.{Any, GivesSo, runs_so}

-- ---- what is printed
longer : (to : Stream) (bytes : List ℕ) (o : Outputs) → length bytes ≤ total (printed_to to bytes o)
longer streams.Output bytes o = let l = length-append o.standard bytes in omega (arith, l)
longer streams.Errors bytes o = let l = length-append o.errors bytes in omega (arith, l)

-- the value is the length of a text that is part of the output
record HasPrinted (v : LibValue) (u : Store) : Type 0 where
  bytes : List ℕ
  value : number (pos (length bytes)) ≡ v
  part : length bytes ≤ total u.output

module _ (rows : List Row) where
  text_printed : (to : Stream) (bytes : List ℕ) (s u : Store) (v : LibValue) (is : List Item)
      → run rows (touch (Print to bytes) >> Give (number (pos (length bytes)))) s ≡ Done v is u → HasPrinted v u
  text_printed to bytes s u v is r =
      let g = went rows (Print to bytes) (λ a. Give (number (pos (length bytes)))) s u v is r in
      let e = given rows (number (pos (length bytes))) v (left (Print to bytes) s) u g.items g.ran in
      record { bytes = bytes; value = e.0; part = subst (λ (z : Store). length bytes ≤ total z.output) e.1 (longer to bytes s.output) }

  print_ran : (to : Stream) (format : LibValue) (as' : List Argument) (s u : Store) (v : LibValue) (is : List Item)
      → run rows (print_to to rows format as') s ≡ Done v is u → HasPrinted v u
  print_ran to format as' s u v is r =
      let a = parted rows (text rows (address_in format) (prov_in format)) _ s u v is r in
      let b = parted rows (read_numbers a.value.bytes) _ a.middle u v a.rest a.second in
      let c = parted rows (text_of (length b.value) rows 0 (without_zero b.value) as') _ b.middle u v b.rest b.second in
      text_printed to c.value c.middle u v c.rest c.second

  few : (v : LibValue) (u : Store) (most : ℕ) → HasPrinted v u → total u.output ≤ most → most < 2 ^ 64 → IsSmallLib v
  few v u most h l k = subst IsSmallLib h.value (below (length h.bytes) h.part)
    where
      below : (n : ℕ) → n ≤ total u.output → unsigned_abs (pos n) < 2 ^ 64
      below n p = omega (arith, p, l, k)

-- ---- the next byte of the input
byte_small : (ns : List ℕ) (i : ℕ) → AreBytes ns → IsSmallLib (byte_or_end (slice_get ns i))
byte_small [] i h = omega arith
byte_small (n ∷ ns) zero h = let l = All-head (λ n. n < 256) n ns h in omega (arith, l)
byte_small (n ∷ ns) (suc i) h = byte_small ns i (All-tail (λ n. n < 256) n ns h)

-- ---- a call
module _ (rows : List Row) (ends : EndInTime rows) (most : ℕ) (limit : most < 2 ^ 64) (who : Event) (ts : List CType) (vs : List LibValue)
    (small : AreSmallLib vs) (s u : Store) (v : LibValue) (is : List Item) (bytes : HasSmallBytes s) (input : AreBytes s.input) where
  abbrev GivesSmall : Type 0
  GivesSmall = IsSmallLib v × HasSmallBytes u

  plainly : (p : Script LibValue) → GivesSo IsSmallLib p → run rows p s ≡ Done v is u → GivesSmall
  plainly p h r = runs_so IsSmallLib rows p s u v is h bytes r

  printing : (to : Stream) (format : LibValue) (as' : List Argument) → run rows (print_to to rows format as') s ≡ Done v is u → total u.output ≤ most
      → GivesSmall
  printing to format as' r l = (
    few rows v u most (print_ran rows to format as' s u v is r) l limit,
    (runs_so Any rows (print_to to rows format as') s u v is (print_any rows ends to format as') bytes r).1,
  )

  printing_to : (z : ℤ) (format : LibValue) (as' : List Argument) → run rows (fprintf rows z format as') s ≡ Done v is u → total u.output ≤ most → GivesSmall
  printing_to z format as' r l = go (int_eq z (pos 1)) (int_eq z (pos 2)) r
    where
      go : (b c : Bool)
          → run rows (if b then print_to streams.Output rows format as' else (if c then print_to streams.Errors rows format as' else Raise LibraryArgument)) s
          ≡ Done v is u → GivesSmall
      go true c r = printing streams.Output format as' r l
      go false true r = printing streams.Errors format as' r l
      go false false r = absurd (cc (r))

  taking : run rows lib.getchar s ≡ Done v is u → GivesSmall
  taking r =
      let g = went rows Take (λ b. Give (byte_or_end b)) s u v is r in
      let e = given rows (byte_or_end (slice_get s.input s.position)) v (left Take s) u g.items g.ran in
      (subst IsSmallLib e.0 (byte_small s.input s.position input), subst HasSmallBytes e.1 (λ x i. bytes x i))

  call_small : (f : LibFunc) → run rows (script rows f who ts vs) s ≡ Done v is u → total u.output ≤ most → GivesSmall
  call_small Printf r l = printing streams.Output (argument_at vs 0) (drop 1 (typed ts vs)) r l
  call_small Fprintf r l = printing_to (integer_in (argument_at vs 0)) (argument_at vs 1) (drop 2 (typed ts vs)) r l
  call_small Sprintf r l =
      plainly (sprintf rows None (argument_at vs 0) (argument_at vs 1) (drop 2 (typed ts vs)))
      (sprintf_so rows ends None (argument_at vs 0) (argument_at vs 1) (drop 2 (typed ts vs))) r
  call_small Snprintf r l =
      plainly (sprintf rows (Some (size_of_value (argument_at vs 1))) (argument_at vs 0) (argument_at vs 2) (drop 3 (typed ts vs)))
      (sprintf_so rows ends (Some (size_of_value (argument_at vs 1))) (argument_at vs 0) (argument_at vs 2) (drop 3 (typed ts vs))) r
  call_small Getchar r l = taking r
  call_small Malloc r l = plainly (lib.library rows Malloc vs who) (library_so rows ends Malloc vs who small tt) r
  call_small Calloc r l = plainly (lib.library rows Calloc vs who) (library_so rows ends Calloc vs who small tt) r
  call_small Realloc r l = plainly (lib.library rows Realloc vs who) (library_so rows ends Realloc vs who small tt) r
  call_small Free r l = plainly (lib.library rows Free vs who) (library_so rows ends Free vs who small tt) r
  call_small Memcpy r l = plainly (lib.library rows Memcpy vs who) (library_so rows ends Memcpy vs who small tt) r
  call_small Memmove r l = plainly (lib.library rows Memmove vs who) (library_so rows ends Memmove vs who small tt) r
  call_small Memset r l = plainly (lib.library rows Memset vs who) (library_so rows ends Memset vs who small tt) r
  call_small Memcmp r l = plainly (lib.library rows Memcmp vs who) (library_so rows ends Memcmp vs who small tt) r
  call_small Strlen r l = plainly (lib.library rows Strlen vs who) (library_so rows ends Strlen vs who small tt) r
  call_small Strcpy r l = plainly (lib.library rows Strcpy vs who) (library_so rows ends Strcpy vs who small tt) r
  call_small Strcmp r l = plainly (lib.library rows Strcmp vs who) (library_so rows ends Strcmp vs who small tt) r
  call_small Strchr r l = plainly (lib.library rows Strchr vs who) (library_so rows ends Strchr vs who small tt) r
  call_small Putchar r l = plainly (lib.library rows Putchar vs who) (library_so rows ends Putchar vs who small tt) r
  call_small Puts r l = plainly (lib.library rows Puts vs who) (library_so rows ends Puts vs who small tt) r
  call_small Exit r l = plainly (lib.library rows Exit vs who) (library_so rows ends Exit vs who small tt) r
  call_small Abort r l = plainly (lib.library rows Abort vs who) (library_so rows ends Abort vs who small tt) r

passed_one : (v : Value) → IsSmall v → IsSmallLib (passed v)
passed_one (Int z) h = h
passed_one (Ptr a p) h = h
passed_one (Fun a) h = tt
passed_one (values.Whole bs source) h = tt
passed_one Missing h = tt
passed_one Nothing h = tt

passed_all : (vs : List Value) → All IsSmall vs → AreSmallLib (map passed vs)
passed_all [] h = tt
passed_all (v ∷ vs) h = (passed_one v (All-head IsSmall v vs h), passed_all vs (All-tail IsSmall v vs h))

result_one : (v : LibValue) → IsSmallLib v → IsSmall (result v)
result_one (lib.number z) h = h
result_one (lib.pointer a p) h = h
result_one lib.nothing h = tt

result_plain : (v : LibValue) → IsScalar (result v)
result_plain (lib.number z) = tt
result_plain (lib.pointer a p) = tt
result_plain lib.nothing = tt

pub library_is_small : LibraryIsSmall
library_is_small world same ends limit f who ts vs s u v is small bytes input r l =
    let q = subst (λ (own : LibFunc → Event → List CType → List Value → Script Value). run world.rows (own f who ts vs) s ≡ Done v is u) same r in
    let a = parted world.rows (script world.rows f who ts (map passed vs)) (λ w. Give (result w)) s u v is q in
    let e = given world.rows (result a.value) v a.middle u a.rest a.second in
    let c = call_small world.rows ends world.limits.output limit who ts (map passed vs) (passed_all vs small) s a.middle a.value a.items bytes input f a.first
    (subst (λ (z : Store). total z.output ≤ world.limits.output) (sym e.1) l) in
    (subst IsSmall e.0 (result_one a.value c.0), subst IsScalar e.0 (result_plain a.value), subst HasSmallBytes e.1 c.1)
