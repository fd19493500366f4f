-- What a function of the library gives is small, and leaves small bytes: those that take no format, and don't read the input.
use Rattle.std.proofs.Common.{arith, ◌≡◌, ◌+◌, ◌-◌, ◌*◌, ◌<◌, ◌≤◌, ◌^◌, ℕ, zero, suc, ◌==◌, Bool, true, false, not, ◌||◌, if◌then◌else◌}
use Rattle.std.proofs.Common.{List, length, replicate, Option, Some, None, refl, subst, ℤ, pos}
use Rattle.std.proofs.lemmas.Bool.Decides.{nat_tests}
use Rattle.std.proofs.lemmas.List.Elements.{All-replicate}
use Rattle.ub_base.specs.declared.clause.Clause.{Clause}
use Rattle.ub_base.specs.declared.clause.Clause.TheVariants.{LibraryArgument, DeadObject, MemcpyOverlap, StrcpyOverlap}
use Rattle.ub_base.specs.declared.clause.Clause.TheVariants.{Free as FreeOfOther, Realloc as ReallocOfOther}
use Rattle.ub_base.specs.declared.names.Event.{Event}
use Rattle.ub_base.specs.declared.names.ObjName.{ObjName}
use Rattle.addr_map.specs.declared.map.Row.{Row}
use Rattle.addr_map.specs.Rows.{row_of}
use Rattle.exposure.specs.declared.prov.Prov.{Prov}
use Rattle.exposure.specs.declared.prov.Prov.TheVariants.{Empty, Whole, Either}
use Rattle.c_types.specs.Shapes.{Form}
use Rattle.c_types.specs.declared.library.LibFunc.{LibFunc}
use Rattle.c_types.specs.declared.library.LibFunc.TheVariants.{Malloc, Calloc, Realloc, Free, Memcpy, Memmove, Memset, Memcmp, Strlen, Strcpy, Strcmp}
use Rattle.c_types.specs.declared.library.LibFunc.TheVariants.{Strchr, Getchar, Putchar, Puts, Printf, Fprintf, Sprintf, Snprintf, Exit, Abort}
use Rattle.mem_spec.specs.declared.kind.ObjKind.{ObjKind}
use Rattle.mem_spec.specs.Acts.{Accessed, argument, argument_in, argument_object, base_in, copy_between, create, has_place, in_row}
use Rattle.mem_spec.specs.Acts.{offset_in, settle_by, size_in, the_one_in}
use Rattle.mem_spec.specs.Script.{Script, Give, Misplace, Ask, Put, Bear, require, touch, ◌>>=◌, ◌>>◌}
use Rattle.mem_spec.specs.Store.{Life, TaggedByte, is_live}
use Rattle.libc_spec.specs.Library as lib
use Rattle.libc_spec.specs.Library.{LibValue, Text, address_in, argument_at, behind, bytes_at, check_target, ends_in_zero, heap_kind, heap_name, integer_in}
use Rattle.libc_spec.specs.Library.{is_given}
use Rattle.libc_spec.specs.Library.{is_heap_start, new_object, number_of_byte, numbers, order_of, overlap, place_of, pointer_behind, prov_in, read_numbers}
use Rattle.libc_spec.specs.Library.{size_of_value, start_object, text, text_at, text_from, until_zero, without_zero, write_numbers}
use Rattle.value_facts.specs.Held.{AreBytes}
use Rattle.value_facts.specs.Small.{EndInTime, IsSmallByte}
use Rattle.value_facts.proofs.Accesses.{AreSmallBytes, IsFew, require_then}
use Rattle.value_facts.proofs.Scripts.{Any, GivesSo, after_so, require_so, then_so}
use Rattle.value_facts.proofs.Parts.{AreNumbersOf, AreSmallLib, EndsWithin, IsBelow, IsSmallLib, address_few, any_of, argument_small, copied_so, low_below}
use Rattle.value_facts.proofs.Parts.{map_length, numbers_small, numbers_so, order_small, place_below, read_so, settle_so, started_so, target_so, when}
use Rattle.value_facts.proofs.Parts.{written_so, zero_so}

module _ (rows : List Row) (ends : EndInTime rows) where
  pub base_few : (x : ObjName) → base_in (row_of rows x) < 2 ^ 64
  base_few x = go (row_of rows x) refl
    where
      go : (o : Option Row) → row_of rows x ≡ o → base_in o < 2 ^ 64
      go None e = omega arith
      go (Some r) e = let l = ends x r e in omega (arith, l)

  -- ---- a pointer argument
  abbrev IsFound : (len a : ℕ) → Option Accessed → Type 0
  IsFound len a None = Unit {0}
  IsFound len a (Some at) = (in_row (row_of rows at.object) a len ≡ true) × (at.from ≡ offset_in (row_of rows at.object) a)

  module _ (len a : ℕ) where
    object_so : (p : Prov) → GivesSo Any (argument_object rows len a p)
    object_so Empty = tt
    object_so (Whole x) = tt
    object_so (Either id past start) =
        let b = in_row (row_of rows past) a len in
        let c = in_row (row_of rows start) a len in
        after_so Any (settle_by b c id past start LibraryArgument) (Give (the_one_in b c past start)) (settle_so b c id past start LibraryArgument) tt

    there : ObjName → Option Life → Script (Option Accessed)
    there x life = Give (Some (record { object = x; from = offset_in (row_of rows x) a; life = life }))

    found_so : (o : Option ObjName) → GivesSo (IsFound len a) (argument_in rows len a o)
    found_so None = tt
    found_so (Some x) = (
      tt,
      λ life g. require_then (IsFound len a) (is_live life) DeadObject
          (require (in_row (row_of rows x) a len) LibraryArgument >> Give (Some (record { object = x; from = offset_in (row_of rows x) a; life = life })))
          (λ e. require_then (IsFound len a) (in_row (row_of rows x) a len) LibraryArgument
          (Give (Some (record { object = x; from = offset_in (row_of rows x) a; life = life }))) (λ f. (f, refl))),
    )

    argument_so : (p : Prov) → GivesSo (IsFound len a) (argument rows len a p)
    argument_so p =
        require_then (IsFound len a) (not (a == 0)) LibraryArgument (argument_object rows len a p >>= argument_in rows len a) (λ e.
        then_so Any (IsFound len a) (argument_object rows len a p) (argument_in rows len a) (object_so p) (λ o any. found_so o))

    pub argument_any : (p : Prov) → GivesSo Any (argument rows len a p)
    argument_any p = any_of (IsFound len a) (argument rows len a p) (argument_so p)

  -- ---- a string argument, which ends before the last address
  abbrev pub IsText : ℕ → Text → Type 0
  IsText a t = AreSmallBytes t.bytes × (a + length t.bytes < 2 ^ 64)

  room_below : (a n : ℕ) (o : Option Row) → ((r : Row) → o ≡ Some r → r.base + r.size < 2 ^ 64) → in_row o a 1 ≡ true → n ≤ size_in o - offset_in o a
      → a + n < 2 ^ 64
  room_below a n None e h l = absurd (cc (h))
  room_below a n (Some r) e h l = let below = e r refl in grind (arith, nat_tests, h, l, below)

  text_given : (a : ℕ) (at : Accessed) → IsFound 1 a (Some at) → (o : Option (List TaggedByte))
      → EndsWithin (size_in (row_of rows at.object) - at.from) o → GivesSo (IsText a) (text_at at o)
  text_given a at f None h = tt
  text_given a at f (Some bs) h = (
    h.0,
    room_below a (length bs) (row_of rows at.object) (ends at.object) f.0
        (subst (λ (k : ℕ). length bs ≤ size_in (row_of rows at.object) - k) f.1 h.1),
  )

  from_so : (a : ℕ) (o : Option Accessed) → IsFound 1 a o → GivesSo (IsText a) (text_from rows o)
  from_so a None f = tt
  from_so a (Some at) f =
      let n = size_in (row_of rows at.object) - at.from in
      then_so (EndsWithin n) (IsText a) (until_zero n at.object at.from) (text_at at) (zero_so n at.object at.from) (text_given a at f)

  pub text_so : (a : ℕ) (p : Prov) → GivesSo (IsText a) (text rows a p)
  text_so a p = then_so (IsFound 1 a) (IsText a) (argument rows 1 a p) (text_from rows) (argument_so 1 a p) (from_so a)

  -- ---- allocation
  create_so : (x : ObjName) (n align : ℕ) (kind : ObjKind) (form : Option Form) → GivesSo (λ (b : ℕ). b < 2 ^ 64) (create rows x n align kind form)
  create_so x n align kind form =
      when (λ (b : ℕ). b < 2 ^ 64) (has_place (row_of rows x) n align) (touch (Bear x n kind form) >> Give (base_in (row_of rows x))) Misplace
      (tt, λ a g. base_few x) tt

  new_so : (who : Event) (n : ℕ) → GivesSo (λ (b : ℕ). b < 2 ^ 64) (new_object rows who n)
  new_so who n = create_so (heap_name who) n 16 heap_kind None

  null_small : IsSmallLib lib.null
  null_small = omega arith

  malloc_so : (who : Event) (n : ℕ) → GivesSo IsSmallLib (lib.malloc rows who n)
  malloc_so who n =
      when IsSmallLib (is_given n) (new_object rows who n >>= (λ base. Give (lib.pointer base (Whole (heap_name who))))) (Give lib.null)
      (then_so (λ (b : ℕ). b < 2 ^ 64) IsSmallLib (new_object rows who n) (λ base. Give (lib.pointer base (Whole (heap_name who)))) (new_so who n)
      (λ base h. h)) null_small

  zeros_small : (n : ℕ) → AreSmallBytes (replicate n (lib.plain 0))
  zeros_small n = All-replicate IsSmallByte n (lib.plain 0) (omega arith)

  calloc_so : (who : Event) (n : ℕ) → GivesSo IsSmallLib (lib.calloc rows who n)
  calloc_so who n =
      when IsSmallLib (is_given n) (new_object rows who n >>= (λ base. touch (Ask (heap_name who)) >>= (λ life.
      touch (Put (heap_name who) 0 (replicate n (lib.plain 0))) >> Give (lib.pointer base (Whole (heap_name who)))))) (Give lib.null)
      (then_so (λ (b : ℕ). b < 2 ^ 64) IsSmallLib (new_object rows who n) _ (new_so who n) (λ base h. (tt, λ life g. (zeros_small n, λ a f. h))))
      null_small

  free_so : (a : ℕ) (p : Prov) (c : Clause) → GivesSo Any (lib.free rows a p c)
  free_so zero p c = tt
  free_so (suc a) p c =
      then_so Any Any (start_object p c) _ (started_so p c) (λ x any. (tt, λ life g. require_so (is_heap_start (row_of rows x) (suc a) life) c))

  moved_so : (who : Event) (x : ObjName) (n : ℕ) → GivesSo IsSmallLib (lib.moved rows who x n)
  moved_so who x n = (
    tt,
    λ bs g. then_so (λ (b : ℕ). b < 2 ^ 64) IsSmallLib (new_object rows who n) _ (new_so who n)
        (λ base h. (tt, λ life f. (g.1, λ a e. (tt, λ old d. h)))),
  )

  resized_so : (who : Event) (a : ℕ) (p : Prov) (n : ℕ) → GivesSo IsSmallLib (lib.resized rows who a p n)
  resized_so who a p n =
      then_so Any IsSmallLib (start_object p ReallocOfOther) _ (started_so p ReallocOfOther) (λ x any. (
        tt,
        λ life g.
            require_then IsSmallLib (is_heap_start (row_of rows x) a life) ReallocOfOther (if is_given n then lib.moved rows who x n else Give lib.null)
            (λ e. when IsSmallLib (is_given n) (lib.moved rows who x n) (Give lib.null) (moved_so who x n) null_small),
      ))

  realloc_so : (who : Event) (a : ℕ) (p : Prov) (n : ℕ) → GivesSo IsSmallLib (lib.realloc rows who a p n)
  realloc_so who zero p n = malloc_so who n
  realloc_so who (suc a) p zero = after_so IsSmallLib (lib.free rows (suc a) p ReallocOfOther) (Give lib.null) (free_so (suc a) p ReallocOfOther) null_small
  realloc_so who (suc a) p (suc n) = resized_so who (suc a) p (suc n)

  -- ---- the rest
  memmove_so : (may : Bool) (to from n : ℕ) (p q : Prov) → to < 2 ^ 64 → GivesSo IsSmallLib (lib.memmove rows may to p from q n)
  memmove_so may to from n p q h =
      then_so Any IsSmallLib (argument rows n to p) _ (argument_any n to p) (λ o any.
      then_so Any IsSmallLib (argument rows n from q) _ (argument_any n from q) (λ i any.
      then_so Any IsSmallLib (check_target n o) _ (target_so n o) (λ u any.
      require_then IsSmallLib (may || not (overlap n to from)) MemcpyOverlap (copy_between n o i >> Give (lib.pointer to p)) (λ e.
      after_so IsSmallLib (copy_between n o i) (Give (lib.pointer to p)) (copied_so n o i) h))))

  memset_so : (a n : ℕ) (p : Prov) (c : ℤ) → a < 2 ^ 64 → GivesSo IsSmallLib (lib.memset rows a p c n)
  memset_so a n p c h =
      then_so Any IsSmallLib (argument rows n a p) _ (argument_any n a p) (λ o any.
      then_so Any IsSmallLib (check_target n o) _ (target_so n o) (λ u any.
      after_so IsSmallLib (write_numbers (replicate n (lib.low_byte c)) o) (Give (lib.pointer a p))
      (written_so (replicate n (lib.low_byte c)) o (All-replicate (λ n. n < 256) n (lib.low_byte c) (low_below c))) h))

  memcmp_so : (a b n : ℕ) (p q : Prov) → GivesSo IsSmallLib (lib.memcmp rows a p b q n)
  memcmp_so a b n p q =
      then_so Any IsSmallLib (argument rows n a p) _ (argument_any n a p) (λ o any.
      then_so Any IsSmallLib (argument rows n b q) _ (argument_any n b q) (λ i any.
      then_so AreSmallBytes IsSmallLib (bytes_at n o) _ (read_so n o) (λ xs s.
      then_so (AreNumbersOf xs) IsSmallLib (read_numbers xs) _ (numbers_so xs) (λ x e.
      then_so AreSmallBytes IsSmallLib (bytes_at n i) _ (read_so n i) (λ ys t.
      then_so (AreNumbersOf ys) IsSmallLib (read_numbers ys) _ (numbers_so ys) (λ y f. order_small x y))))))

  less_one : (a n : ℕ) → a + n < 2 ^ 64 → IsFew (pos (n - 1))
  less_one a n h = omega (arith, h)

  strlen_so : (a : ℕ) (p : Prov) → GivesSo IsSmallLib (lib.strlen rows a p)
  strlen_so a p =
      then_so (IsText a) IsSmallLib (text rows a p) _ (text_so a p) (λ s t.
      then_so (AreNumbersOf s.bytes) IsSmallLib (read_numbers s.bytes) _ (numbers_so s.bytes) (λ ns e. less_one a (length s.bytes) t.1))

  strcpy_so : (to from : ℕ) (p q : Prov) → to < 2 ^ 64 → GivesSo IsSmallLib (lib.strcpy rows to p from q)
  strcpy_so to from p q h =
      then_so (IsText from) IsSmallLib (text rows from q) _ (text_so from q) (λ s t.
      then_so Any IsSmallLib (argument rows (length s.bytes) to p) _ (argument_any (length s.bytes) to p) (λ o any.
      then_so (AreNumbersOf s.bytes) IsSmallLib (read_numbers s.bytes) _ (numbers_so s.bytes) (λ ns e.
      then_so Any IsSmallLib (check_target (length s.bytes) o) _ (target_so (length s.bytes) o) (λ u any.
      require_then IsSmallLib (not (overlap (length s.bytes) to from)) StrcpyOverlap (write_numbers ns o >> Give (lib.pointer to p)) (λ f.
      after_so IsSmallLib (write_numbers ns o) (Give (lib.pointer to p))
      (written_so ns o (subst AreBytes (let g : numbers s.bytes ≡ ns = cc (e) in g) (numbers_small s.bytes t.0))) h)))))

  strcmp_so : (a b : ℕ) (p q : Prov) → GivesSo IsSmallLib (lib.strcmp rows a p b q)
  strcmp_so a b p q =
      then_so (IsText a) IsSmallLib (text rows a p) _ (text_so a p) (λ s f.
      then_so (IsText b) IsSmallLib (text rows b q) _ (text_so b q) (λ t g.
      then_so (AreNumbersOf s.bytes) IsSmallLib (read_numbers s.bytes) _ (numbers_so s.bytes) (λ x d.
      then_so (AreNumbersOf t.bytes) IsSmallLib (read_numbers t.bytes) _ (numbers_so t.bytes) (λ y e. order_small x y))))

  behind_small : (a : ℕ) (p : Prov) (n : ℕ) (o : Option ℕ) → a + n < 2 ^ 64 → IsBelow n o → IsSmallLib (pointer_behind a p o)
  behind_small a p n None h b = omega arith
  behind_small a p n (Some i) h b = omega (arith, h, b)

  strchr_so : (a : ℕ) (p : Prov) (c : ℤ) → GivesSo IsSmallLib (lib.strchr rows a p c)
  strchr_so a p c =
      then_so (IsText a) IsSmallLib (text rows a p) _ (text_so a p) (λ s t.
      then_so (AreNumbersOf s.bytes) IsSmallLib (read_numbers s.bytes) _ (numbers_so s.bytes) (λ ns e.
      behind_small a p (length s.bytes) (place_of (lib.low_byte c) 0 ns) t.1 (found s.bytes ns e)))
    where
      found : (bs : List TaggedByte) (ns : List ℕ) → AreNumbersOf bs ns → IsBelow (length bs) (place_of (lib.low_byte c) 0 ns)
      found bs ns e =
          subst (λ (ms : List ℕ). IsBelow (length bs) (place_of (lib.low_byte c) 0 ms)) (let f : numbers bs ≡ ns = cc (e) in f)
          (subst (λ (k : ℕ). IsBelow k (place_of (lib.low_byte c) 0 (numbers bs)))
          (let l = map_length number_of_byte bs in let e : 0 + length (numbers bs) ≡ length bs = omega (arith, l) in e)
          (place_below (lib.low_byte c) 0 (numbers bs)))

  puts_so : (a : ℕ) (p : Prov) → GivesSo IsSmallLib (lib.puts rows a p)
  puts_so a p =
      then_so (IsText a) IsSmallLib (text rows a p) _ (text_so a p) (λ s t.
      then_so (AreNumbersOf s.bytes) IsSmallLib (read_numbers s.bytes) _ (numbers_so s.bytes) (λ ns e. (tt, λ u g. omega arith)))

  low_few : (z : ℤ) → IsFew (pos (lib.low_byte z))
  low_few z = let l = low_below z in omega (arith, l)

  -- does a call take no byte of the input?
  abbrev pub TakesNone : LibFunc → Type 0
  TakesNone Getchar = ⊥
  TakesNone f = Unit {0}

  pub library_so : (f : LibFunc) (vs : List LibValue) (who : Event) → AreSmallLib vs → TakesNone f → GivesSo IsSmallLib (lib.library rows f vs who)
  library_so Malloc vs who h t = malloc_so who (size_of_value (argument_at vs 0))
  library_so Calloc vs who h t = calloc_so who (size_of_value (argument_at vs 0) * size_of_value (argument_at vs 1))
  library_so Realloc vs who h t = realloc_so who (address_in (argument_at vs 0)) (prov_in (argument_at vs 0)) (size_of_value (argument_at vs 1))
  library_so Free vs who h t =
      after_so IsSmallLib (lib.free rows (address_in (argument_at vs 0)) (prov_in (argument_at vs 0)) FreeOfOther) (Give lib.nothing)
      (free_so (address_in (argument_at vs 0)) (prov_in (argument_at vs 0)) FreeOfOther) tt
  library_so Memcpy vs who h t = memmove_so false (address_in (argument_at vs 0)) (address_in (argument_at vs 1)) (size_of_value (argument_at vs 2))
      (prov_in (argument_at vs 0)) (prov_in (argument_at vs 1)) (address_few (argument_at vs 0) (argument_small vs 0 h))
  library_so Memmove vs who h t = memmove_so true (address_in (argument_at vs 0)) (address_in (argument_at vs 1)) (size_of_value (argument_at vs 2))
      (prov_in (argument_at vs 0)) (prov_in (argument_at vs 1)) (address_few (argument_at vs 0) (argument_small vs 0 h))
  library_so Memset vs who h t = memset_so (address_in (argument_at vs 0)) (size_of_value (argument_at vs 2)) (prov_in (argument_at vs 0))
      (integer_in (argument_at vs 1)) (address_few (argument_at vs 0) (argument_small vs 0 h))
  library_so Memcmp vs who h t = memcmp_so (address_in (argument_at vs 0)) (address_in (argument_at vs 1)) (size_of_value (argument_at vs 2))
      (prov_in (argument_at vs 0)) (prov_in (argument_at vs 1))
  library_so Strlen vs who h t = strlen_so (address_in (argument_at vs 0)) (prov_in (argument_at vs 0))
  library_so Strcpy vs who h t = strcpy_so (address_in (argument_at vs 0)) (address_in (argument_at vs 1)) (prov_in (argument_at vs 0))
      (prov_in (argument_at vs 1)) (address_few (argument_at vs 0) (argument_small vs 0 h))
  library_so Strcmp vs who h t = strcmp_so (address_in (argument_at vs 0)) (address_in (argument_at vs 1)) (prov_in (argument_at vs 0))
      (prov_in (argument_at vs 1))
  library_so Strchr vs who h t = strchr_so (address_in (argument_at vs 0)) (prov_in (argument_at vs 0)) (integer_in (argument_at vs 1))
  library_so Getchar vs who h t = absurd t
  library_so Putchar vs who h t = (tt, λ u g. low_few (integer_in (argument_at vs 0)))
  library_so Puts vs who h t = puts_so (address_in (argument_at vs 0)) (prov_in (argument_at vs 0))
  library_so Printf vs who h t = tt
  library_so Fprintf vs who h t = tt
  library_so Sprintf vs who h t = tt
  library_so Snprintf vs who h t = tt
  library_so Exit vs who h t = tt
  library_so Abort vs who h t = tt
