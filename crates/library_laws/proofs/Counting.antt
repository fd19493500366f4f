-- What a call of the library creates: one object of the bytes that it is asked for where it is to allocate one, and nothing else.
use Rattle.std.proofs.Common.{◌≡◌, ℕ, zero, suc, ◌*◌, Bool, true, false, not, refl, sym, subst, List, replicate, drop, Option, Some, None, if◌then◌else◌, min}
use Rattle.ub_base.specs.declared.clause.Clause.TheVariants.{Realloc as ReallocOfOther}
use Rattle.ub_base.specs.declared.names.Event.{Event}
use Rattle.ub_base.specs.declared.names.Item.TheVariants.{Read, Alive}
use Rattle.ub_base.specs.declared.names.ObjName.{ObjName}
use Rattle.addr_map.specs.declared.map.Row.{Row}
use Rattle.addr_map.specs.Rows.{row_of}
use Rattle.exposure.specs.declared.prov.Prov.{Prov}
use Rattle.exposure.specs.declared.prov.Prov.TheVariants.{Empty, Whole, Either}
use Rattle.c_types.specs.declared.library.LibFunc.{LibFunc}
use Rattle.c_types.specs.declared.library.LibFunc.TheVariants.{Malloc, Calloc, Realloc, Free, Memcpy, Memmove, Memset, Memcmp, Strlen, Strcpy, Strcmp}
use Rattle.c_types.specs.declared.library.LibFunc.TheVariants.{Strchr, Getchar, Putchar, Puts, Printf, Fprintf, Sprintf, Snprintf, Exit, Abort}
use Rattle.c_types.specs.Types.{CType}
use Rattle.mem_spec.specs.declared.stream.Stream.TheVariants as streams
use Rattle.mem_spec.specs.Store.{Store, TaggedByte, born, range_from, settled}
use Rattle.mem_spec.specs.Script.{Ask, Get, Put, Bear, Bury, Settle, Script, Give, Misplace, Act, Done, Raised, Ended, Outside, Unplaced, refuses, run, touch}
use Rattle.mem_spec.specs.Script.{require}
use Rattle.mem_spec.specs.Script.{◌>>=◌, ◌>>◌}
use Rattle.mem_spec.specs.Acts.{base_in, has_place, size_in}
use Rattle.libc_spec.specs.Library as lib
use Rattle.libc_spec.specs.Library.{LibValue, argument_at, address_in, asked, created_with, heap_kind, heap_name, integer_in, is_given, is_heap_start, library}
use Rattle.libc_spec.specs.Library.{prov_in, size_of_value, start_object}
use Rattle.c_model.specs.Libraries.{script, typed}
use Rattle.library_laws.specs.Called.{allocates}
use Rattle.library_laws.proofs.Barren.{Barren, Counts, barren_at, barren_counts, counts_step, counts_touched, free_barren, library_barren}
use Rattle.library_laws.proofs.BarrenFormats.{fprintf_barren, print_barren, sprintf_barren}

-- ---- the sum of created bytes, with an object of so many bytes where one is given
abbrev pub count : ℕ → Store → ℕ
count n s = if is_given n then created_with s n else s.created

-- a new object by its row
abbrev pub new_at : Option Row → Event → ℕ → Script ℕ
new_at w who n = if has_place w n 16 then touch (Bear (heap_name who) n heap_kind None) >> Give (base_in w) else Misplace

new_counts : (rows : List Row) (w : Option Row) (who : Event) (n : ℕ) (k : ℕ → Script LibValue) (s : Store) → ((base : ℕ) → Barren false (k base))
    → Counts false (created_with s n) (run rows (new_at w who n >>= k) s)
new_counts rows w who n k s h = by (has_place w n 16)
  where
    by : (b : Bool) → Counts false (created_with s n)
        (run rows ((if b then touch (Bear (heap_name who) n heap_kind None) >> Give (base_in w) else Misplace) >>= k) s)
    by true =
        counts_step false (created_with s n) (refuses (Bear (heap_name who) n heap_kind None) s) (Bear (heap_name who) n heap_kind None)
        (run rows (k (base_in w)) (born s (heap_name who) n heap_kind None))
        (barren_counts rows false (k (base_in w)) (born s (heap_name who) n heap_kind None) (h (base_in w)))
    by false = tt

-- ---- behind a malloc and a calloc
abbrev pub malloc_last : Event → ℕ → Script LibValue
malloc_last who base = Give (lib.pointer base (Whole (heap_name who)))

abbrev pub calloc_last : Event → ℕ → ℕ → Script LibValue
calloc_last who n base =
    touch (Ask (heap_name who)) >>= (λ life. touch (Put (heap_name who) 0 (replicate n (lib.plain 0))) >> Give (lib.pointer base (Whole (heap_name who))))

abbrev pub moved_last : Event → ObjName → List TaggedByte → ℕ → Script LibValue
moved_last who x bs base =
    touch (Ask (heap_name who)) >>= (λ life. touch (Put (heap_name who) 0 bs) >> (touch (Bury x) >>= (λ old. Give (lib.pointer base (Whole (heap_name who))))))

module _ (rows : List Row) (who : Event) where
  malloc_counts : (n : ℕ) (s : Store) → Counts false (count n s) (run rows (lib.malloc rows who n) s)
  malloc_counts n s = by (is_given n)
    where
      by : (b : Bool) → Counts false (if b then created_with s n else s.created)
          (run rows (if b then (new_at (row_of rows (heap_name who)) who n >>= malloc_last who) else Give lib.null) s)
      by true = new_counts rows (row_of rows (heap_name who)) who n (malloc_last who) s (λ base. tt)
      by false = refl

  calloc_counts : (n : ℕ) (s : Store) → Counts false (count n s) (run rows (lib.calloc rows who n) s)
  calloc_counts n s = by (is_given n)
    where
      by : (b : Bool) → Counts false (if b then created_with s n else s.created)
          (run rows (if b then (new_at (row_of rows (heap_name who)) who n >>= calloc_last who n) else Give lib.null) s)
      by true = new_counts rows (row_of rows (heap_name who)) who n (calloc_last who n) s (λ base. (tt, λ life. (tt, λ r. tt)))
      by false = refl

  abbrev moved_if : (b : Bool) → (x : ObjName) (n : ℕ) → Script LibValue
  moved_if b x n = if b then lib.moved rows who x n else Give lib.null

  -- a realloc of an object
  from_start : (b t : Bool) (x : ObjName) (n : ℕ) (s : Store)
      → Counts false (if b then created_with s n else s.created) (run rows (require t ReallocOfOther >> moved_if b x n) s)
  from_start b false x n s = tt
  from_start false true x n s = refl
  from_start true true x n s =
      let bs = range_from (s.bytes x) 0 (min (size_in (row_of rows x)) n) in
      counts_touched false (created_with s n) (Read x 0 (min (size_in (row_of rows x)) n))
      (run rows (new_at (row_of rows (heap_name who)) who n >>= moved_last who x bs) s)
      (new_counts rows (row_of rows (heap_name who)) who n (moved_last who x bs) s (λ base. (tt, λ life. (tt, λ r. (tt, λ old. tt)))))

  asked_counts : (b : Bool) (a : ℕ) (x : ObjName) (n : ℕ) (s : Store) → Counts false (if b then created_with s n else s.created)
      (run rows (touch (Ask x) >>= (λ life. require (is_heap_start (row_of rows x) a life) ReallocOfOther >> moved_if b x n)) s)
  asked_counts b a x n s =
      counts_touched false (if b then created_with s n else s.created) (Alive x)
      (run rows (require (is_heap_start (row_of rows x) a (s.life x)) ReallocOfOther >> moved_if b x n) s)
      (from_start b (is_heap_start (row_of rows x) a (s.life x)) x n s)

  resized_by : (b : Bool) (a n : ℕ) (p : Prov) (s : Store) → Counts false (if b then created_with s n else s.created)
      (run rows (start_object p ReallocOfOther >>= (λ x. touch (Ask x) >>= (λ life. require (is_heap_start (row_of rows x) a life) ReallocOfOther
      >> moved_if b x n))) s)
  resized_by b a n Empty s = tt
  resized_by b a n (Whole x) s = asked_counts b a x n s
  resized_by b a n (Either id past start) s =
      counts_step false (if b then created_with s n else s.created) (refuses (Settle id start ReallocOfOther) s) (Settle id start ReallocOfOther)
      (run rows (touch (Ask start) >>= (λ life. require (is_heap_start (row_of rows start) a life) ReallocOfOther >> moved_if b start n))
      (settled s id start)) (asked_counts b a start n (settled s id start))

  realloc_counts : (a n : ℕ) (p : Prov) (s : Store) → Counts false (count n s) (run rows (lib.realloc rows who a p n) s)
  realloc_counts zero n p s = malloc_counts n s
  realloc_counts (suc a) zero p s =
      barren_counts rows false (lib.free rows (suc a) p ReallocOfOther >> Give lib.null) s
      (barren_at false (lib.free rows (suc a) p ReallocOfOther) (λ u. Give lib.null) (free_barren false rows (suc a) p ReallocOfOther) (λ u. tt))
  realloc_counts (suc a) (suc n) p s = resized_by (is_given (suc n)) (suc a) (suc n) p s

weaker : {V : Type 0} (e : Bool) (n : ℕ) (act : Act V) → Counts false n act → Counts e n act
weaker e n (Done v is s) h = h
weaker e n (Raised c) h = tt
weaker e n (Ended k is s) h = absurd (cc)
weaker e n (Outside c k) h = absurd (cc)
weaker e n Unplaced h = tt

-- ---- each function: one that is to allocate an object doesn't end the run
module _ (rows : List Row) (who : Event) (ts : List CType) (vs : List LibValue) (s : Store) where
  abbrev IsCounted : LibFunc → Type 0
  IsCounted f = Counts (not (is_given (asked f vs))) (count (asked f vs) s) (run rows (script rows f who ts vs) s)

  plain : (f : LibFunc) → allocates f ≡ false → Counts true s.created (run rows (library rows f vs who) s)
  plain f h = barren_counts rows true (library rows f vs who) s (library_barren rows f vs who h)

  pub call_counts : (f : LibFunc) → IsCounted f
  call_counts Malloc = weaker _ _ _ (malloc_counts rows who (size_of_value (argument_at vs 0)) s)
  call_counts Calloc = weaker _ _ _ (calloc_counts rows who (size_of_value (argument_at vs 0) * size_of_value (argument_at vs 1)) s)
  call_counts Realloc =
      weaker _ _ _ (realloc_counts rows who (address_in (argument_at vs 0)) (size_of_value (argument_at vs 1)) (prov_in (argument_at vs 0)) s)
  call_counts Free = plain Free refl
  call_counts Memcpy = plain Memcpy refl
  call_counts Memmove = plain Memmove refl
  call_counts Memset = plain Memset refl
  call_counts Memcmp = plain Memcmp refl
  call_counts Strlen = plain Strlen refl
  call_counts Strcpy = plain Strcpy refl
  call_counts Strcmp = plain Strcmp refl
  call_counts Strchr = plain Strchr refl
  call_counts Getchar = plain Getchar refl
  call_counts Putchar = plain Putchar refl
  call_counts Puts = plain Puts refl
  call_counts Printf =
      barren_counts rows true (script rows Printf who ts vs) s (print_barren rows streams.Output (argument_at vs 0) (drop 1 (typed ts vs)))
  call_counts Fprintf =
      barren_counts rows true (script rows Fprintf who ts vs) s
      (fprintf_barren rows (integer_in (argument_at vs 0)) (argument_at vs 1) (drop 2 (typed ts vs)))
  call_counts Sprintf =
      barren_counts rows true (script rows Sprintf who ts vs) s
      (sprintf_barren rows None (argument_at vs 0) (argument_at vs 1) (drop 2 (typed ts vs)))
  call_counts Snprintf =
      barren_counts rows true (script rows Snprintf who ts vs) s
      (sprintf_barren rows (Some (size_of_value (argument_at vs 1))) (argument_at vs 0) (argument_at vs 2) (drop 3 (typed ts vs)))
  call_counts Exit = plain Exit refl
  call_counts Abort = plain Abort refl
