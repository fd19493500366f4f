-- Calls of the library under more rows.
use Rattle.std.proofs.Common.{◌≡◌, ◌⊎◌, inl, inr, ℕ, zero, suc, ◌*◌, ◌^◌, ◌&&◌, Bool, true, false, refl, sym, ap, ◌∙◌, List, ◌∷◌, [], Option, Some, None}
use Rattle.std.proofs.Common.{if◌then◌else◌, is_some, nat_lt, replicate, drop, min}
use Rattle.ub_base.specs.declared.clause.Clause.{Clause}
use Rattle.ub_base.specs.declared.clause.Clause.TheVariants.{Realloc as ReallocOfOther}
use Rattle.ub_base.specs.declared.clause.Cause.TheVariants.{Created as PastCreated}
use Rattle.ub_base.specs.declared.names.Event.{Event}
use Rattle.ub_base.specs.declared.names.Item.{Item}
use Rattle.ub_base.specs.declared.names.Item.TheVariants.{Alive, Narrow}
use Rattle.ub_base.specs.declared.names.ObjName.{ObjName}
use Rattle.addr_map.specs.declared.map.Row.{Row}
use Rattle.addr_map.specs.Rows.{row_of}
use Rattle.exposure.specs.Cells.{is_other}
use Rattle.exposure.specs.declared.prov.Prov.{Prov}
use Rattle.exposure.specs.declared.prov.Prov.TheVariants.{Empty, Whole, Either}
use Rattle.c_types.specs.declared.library.LibFunc.{LibFunc}
use Rattle.c_types.specs.declared.library.LibFunc.TheVariants.{Malloc, Calloc, Realloc, Free, Memcpy, Memmove, Memset, Memcmp, Strlen, Strcpy, Strcmp}
use Rattle.c_types.specs.declared.library.LibFunc.TheVariants.{Strchr, Getchar, Putchar, Puts, Printf, Fprintf, Sprintf, Snprintf, Exit, Abort}
use Rattle.c_types.specs.Types.{CType}
use Rattle.mem_spec.specs.Store.{Store, TaggedByte, range_from, settled}
use Rattle.mem_spec.specs.Script.{Ask, Bear, Bury, Get, Put, Settle, Script, Give, Misplace, Act, Done, Raised, Ended, Outside, Unplaced, item_of, left, run}
use Rattle.mem_spec.specs.Script.{touch}
use Rattle.mem_spec.specs.Script.{touched, require, ◌>>=◌, ◌>>◌}
use Rattle.mem_spec.specs.Acts.{base_in, has_place, size_in}
use Rattle.mem_laws.specs.MoreRows.{AreIn, Extends}
use Rattle.mem_laws.specs.MoreCalls.{ArgumentsIn, CallsSame}
use Rattle.mem_laws.specs.MoreFormats.{FormattedIn, FormatsSame, FormatsSameUnderMore}
use Rattle.libc_spec.specs.Library as lib
use Rattle.libc_spec.specs.Library.{LibValue, address_in, argument_at, asked, called, created_with, created_within, heap_kind, heap_name, integer_in, is_given}
use Rattle.libc_spec.specs.Library.{is_heap_start, library, output_within, prov_in, size_of_value, start_object}
use Rattle.libc_spec.specs.Print.{Argument}
use Rattle.c_model.specs.Libraries.{typed}
use Rattle.mem_laws.proofs.MoreCalls.{row}
use Rattle.library_laws.specs.Calls.{CallsMoreRows}
use Rattle.library_laws.specs.Called.{called_with}
use Rattle.library_laws.proofs.Counting.{calloc_last, malloc_last, moved_last, new_at}

-- ---- an allocation where the object has no row among the fewer
-- it raises no clause
abbrev Unraised : {V : Type 0} → Act V → Type 0
Unraised (Raised c) = ⊥
Unraised act = Unit {0}

-- the same is done under more rows; or nothing under the fewer, for want of the row, where under more no clause is raised
abbrev Misses : Act LibValue → Act LibValue → Type 0
Misses more few = (more ≡ few) ⊎ ((few ≡ Unplaced) × Unraised more)

past_by : (b : Bool) (n k : ℕ) (act : Act LibValue) → b ≡ true → (if b then Outside PastCreated k else act) ≡ Outside PastCreated k
past_by true n k act h = refl
past_by false n k act h = absurd (cc)

past : (n : ℕ) (s : Store) (act : Act LibValue) → Unraised act → (is_given n && nat_lt (2 ^ 26) (created_with s n)) ≡ true
    → created_within n s act ≡ Outside PastCreated (created_with s n)
past n s (Done v is u) h x = past_by _ n (created_with s n) (Done v is u) x
past n s (Raised c) h x = absurd h
past n s (Ended k is u) h x = past_by _ n (created_with s n) (Ended k is u) x
past n s (Outside c k) h x = past_by _ n (created_with s n) (Outside c k) x
past n s Unplaced h x = past_by _ n (created_with s n) Unplaced x

not_past : (b : Bool) (k : ℕ) (act : Act LibValue) → b ≡ false → (if b then Outside PastCreated k else act) ≡ act
not_past true k act h = absurd (cc)
not_past false k act h = refl

within_same : (n : ℕ) (s : Store) (more few : Act LibValue) → Misses more few
    → (output_within (created_within n s few) ≡ Unplaced → more ≡ few) → created_within n s more ≡ created_within n s few
within_same n s more few (inl same) placed = ap (created_within n s) same
within_same n s more few (inr m) placed = by (is_given n && nat_lt (2 ^ 26) (created_with s n)) refl
  where
    by : (b : Bool) → (is_given n && nat_lt (2 ^ 26) (created_with s n)) ≡ b → created_within n s more ≡ created_within n s few
    by true x = past n s more m.1 x ∙ sym (ap (created_within n s) m.0 ∙ past n s Unplaced tt x)
    by false x =
        ap (created_within n s)
        (placed (ap (λ (act : Act LibValue). output_within (created_within n s act)) m.0
        ∙ ap (output_within) (not_past (is_given n && nat_lt (2 ^ 26) (created_with s n)) (created_with s n) Unplaced x)))

-- an allocation by the row of its object, which the fewer rows don't have
by_missing : (n : ℕ) (s : Store) (few more : List Row) (does : List Row → Option Row → Act LibValue) (wf wm : Option Row) → wf ≡ None
    → ((w : Option Row) → Misses (does more w) (does few None)) → does more None ≡ does few None
    → (output_within (created_within n s (does few wf)) ≡ Unplaced → wm ≡ wf)
    → output_within (created_within n s (does more wm)) ≡ output_within (created_within n s (does few wf))
by_missing n s few more does wf wm none misses same placed =
    let so : output_within (created_within n s (does few wf)) ≡ output_within (created_within n s (does few None)) =
    ap (λ (w : Option Row). output_within (created_within n s (does few w))) none in
    ap (output_within)
    (within_same n s (does more wm) (does few None) (misses wm)
    (λ p. ap (does more) (placed (so ∙ p) ∙ none) ∙ same)) ∙ sym so

touched_unraised : (i : Item) (act : Act LibValue) → Unraised act → Unraised (touched i act)
touched_unraised i (Done v is s) h = tt
touched_unraised i (Raised c) h = absurd h
touched_unraised i (Ended n is s) h = tt
touched_unraised i (Outside c n) h = tt
touched_unraised i Unplaced h = tt

touched_misses : (i : Item) (more few : Act LibValue) → Misses more few → Misses (touched i more) (touched i few)
touched_misses i more few (inl same) = inl (ap (touched i) same)
touched_misses i more few (inr m) = inr (ap (touched i) m.0, touched_unraised i more m.1)

new_unraised : (rows : List Row) (w : Option Row) (who : Event) (n : ℕ) (k : ℕ → Script LibValue) (s : Store)
    → ((base : ℕ) (u : Store) → Unraised (run rows (k base) u)) → Unraised (run rows (new_at w who n >>= k) s)
new_unraised rows w who n k s h = by (has_place w n 16)
  where
    born_or : (b : Bool) (act : Act LibValue) (t : _) → Unraised act → Unraised (if b then Unplaced else touched t act)
    born_or true act t h = tt
    born_or false act t h = touched_unraised t act h

    by : (b : Bool) → Unraised (run rows ((if b then touch (Bear (heap_name who) n heap_kind None) >> Give (base_in w) else Misplace) >>= k) s)
    by true = born_or (is_some (s.life (heap_name who))) _ _ (h (base_in w) _)
    by false = tt

-- ---- malloc and calloc
module _ (few more : List Row) (who : Event) (n : ℕ) (s : Store) (k : ℕ → Script LibValue)
    (unraised : (base : ℕ) (u : Store) → Unraised (run more (k base) u)) where
  abbrev new_if : Bool → Option Row → Script LibValue
  new_if b w = if b then (new_at w who n >>= k) else Give lib.null

  new_misses : (b : Bool) (w : Option Row) → Misses (run more (new_if b w) s) (run few (new_if b None) s)
  new_misses true w = inr (refl, new_unraised more w who n k s unraised)
  new_misses false w = inl refl

  new_none : (b : Bool) → run more (new_if b None) s ≡ run few (new_if b None) s
  new_none true = refl
  new_none false = refl

  new_same : (wf wm : Option Row) → wf ≡ None → (output_within (created_within n s (run few (new_if (is_given n) wf) s)) ≡ Unplaced → wm ≡ wf)
      → output_within (created_within n s (run more (new_if (is_given n) wm) s)) ≡ output_within (created_within n s (run few (new_if (is_given n) wf) s))
  new_same wf wm none placed =
      by_missing n s few more (λ rows w. run rows (new_if (is_given n) w) s) wf wm none (new_misses (is_given n)) (new_none (is_given n)) placed

-- ---- realloc
abbrev moved_at : Option Row → Option Row → Event → ObjName → ℕ → Script LibValue
moved_at r w who x n = touch (Get x 0 (min (size_in r) n)) >>= (λ bs. new_at w who n >>= moved_last who x bs)

abbrev moved_if : Bool → Option Row → Option Row → Event → ObjName → ℕ → Script LibValue
moved_if b r w who x n = if b then moved_at r w who x n else Give lib.null

abbrev resized_at : Option Row → Option Row → Event → ℕ → ObjName → ℕ → Script LibValue
resized_at r w who a x n =
    touch (Ask x) >>= (λ life. require (is_heap_start r a life) ReallocOfOther >> moved_if (is_given n) r w who x n)

module _ (few more : List Row) (who : Event) (a n : ℕ) where
  module _ (r : Option Row) (x : ObjName) where
    start_misses : (t b : Bool) (w : Option Row) (s : Store) → Misses (run more (require t ReallocOfOther >> moved_if b r w who x n) s)
        (run few (require t ReallocOfOther >> moved_if b r None who x n) s)
    start_misses false b w s = inl refl
    start_misses true false w s = inl refl
    start_misses true true w s =
        inr (refl, touched_unraised _ _ (new_unraised more w who n (moved_last who x (range_from (s.bytes x) 0 (min (size_in r) n))) s (λ base u. tt)))

    start_none : (t b : Bool) (s : Store) → run more (require t ReallocOfOther >> moved_if b r None who x n) s
        ≡ run few (require t ReallocOfOther >> moved_if b r None who x n) s
    start_none false b s = refl
    start_none true false s = refl
    start_none true true s = refl

    resized_misses : (w : Option Row) (s : Store) → Misses (run more (resized_at r w who a x n) s) (run few (resized_at r None who a x n) s)
    resized_misses w s = touched_misses (Alive x) _ _ (start_misses (is_heap_start r a (s.life x)) (is_given n) w s)

    resized_none : (s : Store) → run more (resized_at r None who a x n) s ≡ run few (resized_at r None who a x n) s
    resized_none s = ap (touched (Alive x)) (start_none (is_heap_start r a (s.life x)) (is_given n) s)

  abbrev settled_at : Event → ObjName → Option Row → Option Row → Script LibValue
  settled_at id x r w = touch (Settle id x ReallocOfOther) >>= (λ u. resized_at r w who a x n)

  settled_misses : (id : Event) (x : ObjName) (r w : Option Row) (s : Store)
      → Misses (run more (settled_at id x r w) s) (run few (settled_at id x r None) s)
  settled_misses id x r w s = by (is_other (s.kept id) x)
    where
      by : (b : Bool) → Misses (if b then Raised ReallocOfOther else touched (Narrow id x) (run more (resized_at r w who a x n) (settled s id x)))
          (if b then Raised ReallocOfOther else touched (Narrow id x) (run few (resized_at r None who a x n) (settled s id x)))
      by true = inl refl
      by false = touched_misses (Narrow id x) _ _ (resized_misses r x w (settled s id x))

  settled_none : (id : Event) (x : ObjName) (r : Option Row) (s : Store) → run more (settled_at id x r None) s ≡ run few (settled_at id x r None) s
  settled_none id x r s =
      ap (λ (act : Act LibValue). if is_other (s.kept id) x then Raised ReallocOfOther else touched (Narrow id x) act) (resized_none r x (settled s id x))

module _ (few more : List Row) (ext : Extends few more) (who : Event) (s : Store) (none : row_of few (heap_name who) ≡ None) where
  abbrev bounded : List Row → ℕ → Script LibValue → Act LibValue
  bounded rows n p = output_within (created_within n s (run rows p s))

  malloc_same : (n : ℕ) → (bounded few n (lib.malloc few who n) ≡ Unplaced → row_of more (heap_name who) ≡ row_of few (heap_name who))
      → bounded more n (lib.malloc more who n) ≡ bounded few n (lib.malloc few who n)
  malloc_same n placed = new_same few more who n s (malloc_last who) (λ base u. tt) (row_of few (heap_name who)) (row_of more (heap_name who)) none placed

  calloc_same : (n : ℕ) → (bounded few n (lib.calloc few who n) ≡ Unplaced → row_of more (heap_name who) ≡ row_of few (heap_name who))
      → bounded more n (lib.calloc more who n) ≡ bounded few n (lib.calloc few who n)
  calloc_same n placed =
      new_same few more who n s (calloc_last who n) (λ base u. tt) (row_of few (heap_name who)) (row_of more (heap_name who)) none placed

  abbrev IsIn : ObjName → Type 0
  IsIn x = is_some (row_of few x) ≡ true

  freed : (r : Option Row) (a : ℕ) (x : ObjName) (u : Store)
      → run more (touch (Bury x) >>= (λ life. require (is_heap_start r a life) ReallocOfOther) >> Give lib.null) u
      ≡ run few (touch (Bury x) >>= (λ life. require (is_heap_start r a life) ReallocOfOther) >> Give lib.null) u
  freed r a x u = by (is_heap_start r a (u.life x))
    where
      by : (b : Bool) → touched (item_of (Bury x)) (run more (require b ReallocOfOther >> Give lib.null) (left (Bury x) u))
          ≡ touched (item_of (Bury x)) (run few (require b ReallocOfOther >> Give lib.null) (left (Bury x) u))
      by true = refl
      by false = refl

  released : (a : ℕ) (p : Prov) → AreIn few p
      → run more (lib.free more (suc a) p ReallocOfOther >> Give lib.null) s ≡ run few (lib.free few (suc a) p ReallocOfOther >> Give lib.null) s
  released a Empty h = refl
  released a (Whole x) h =
      ap (λ (r : Option Row). run more (touch (Bury x) >>= (λ life. require (is_heap_start r (suc a) life) ReallocOfOther) >> Give lib.null) s)
      (row few more ext x h) ∙ freed (row_of few x) (suc a) x s
  released a (Either id past start) h =
      ap (λ (r : Option Row). run more (touch (Settle id start ReallocOfOther) >>= (λ u. touch (Bury start) >>= (λ life.
      require (is_heap_start r (suc a) life) ReallocOfOther)) >> Give lib.null) s) (row few more ext start h.1)
      ∙ ap (λ (act : Act LibValue). if is_other (s.kept id) start then Raised ReallocOfOther else touched (Narrow id start) act)
      (freed (row_of few start) (suc a) start (settled s id start))

  resized_same : (a n : ℕ) (p : Prov) → AreIn few p
      → (bounded few n (lib.resized few who a p n) ≡ Unplaced → row_of more (heap_name who) ≡ row_of few (heap_name who))
      → bounded more n (lib.resized more who a p n) ≡ bounded few n (lib.resized few who a p n)
  resized_same a n Empty h placed = refl
  resized_same a n (Whole x) h placed =
      ap (λ (r : Option Row). bounded more n (resized_at r (row_of more (heap_name who)) who a x n)) (row few more ext x h)
      ∙ by_missing n s few more (λ rows w. run rows (resized_at (row_of few x) w who a x n) s) (row_of few (heap_name who)) (row_of more (heap_name who)) none
      (λ w. resized_misses few more who a n (row_of few x) x w s) (resized_none few more who a n (row_of few x) x s) placed
  resized_same a n (Either id past start) h placed =
      ap (λ (r : Option Row). bounded more n (settled_at few more who a n id start r (row_of more (heap_name who)))) (row few more ext start h.1)
      ∙ by_missing n s few more (λ rows w. run rows (settled_at few more who a n id start (row_of few start) w) s) (row_of few (heap_name who))
      (row_of more (heap_name who)) none (λ w. settled_misses few more who a n id start (row_of few start) w s)
      (settled_none few more who a n id start (row_of few start) s) placed

  realloc_same : (a n : ℕ) (p : Prov) → AreIn few p
      → (bounded few n (lib.realloc few who a p n) ≡ Unplaced → row_of more (heap_name who) ≡ row_of few (heap_name who))
      → bounded more n (lib.realloc more who a p n) ≡ bounded few n (lib.realloc few who a p n)
  realloc_same zero n p h placed = malloc_same n placed
  realloc_same (suc a) zero p h placed = ap (λ (act : Act LibValue). output_within (created_within 0 s act)) (released a p h)
  realloc_same (suc a) (suc n) p h placed = resized_same (suc a) (suc n) p h placed

-- ---- each function
argument_in : (rows : List Row) (vs : List LibValue) (i : ℕ) → ArgumentsIn rows vs → AreIn rows (prov_in (argument_at vs i))
argument_in rows [] i h = tt
argument_in rows (v ∷ vs) zero h = h.0
argument_in rows (v ∷ vs) (suc i) h = argument_in rows vs i h.1

typed_in : (rows : List Row) (ts : List CType) (vs : List LibValue) → ArgumentsIn rows vs → FormattedIn rows (typed ts vs)
typed_in rows [] [] h = tt
typed_in rows [] (v ∷ vs) h = tt
typed_in rows (t ∷ ts) [] h = tt
typed_in rows (t ∷ ts) (v ∷ vs) h = (h.0, typed_in rows ts vs h.1)

drop_in : (rows : List Row) (k : ℕ) (given : List Argument) → FormattedIn rows given → FormattedIn rows (drop k given)
drop_in rows zero given h = h
drop_in rows (suc k) [] h = tt
drop_in rows (suc k) (a ∷ rest) h = drop_in rows k rest h.1

module _ (plain : CallsSame) (formats : FormatsSameUnderMore) (few more : List Row) (who : Event) (ts : List CType) (vs : List LibValue) (s : Store)
    (ext : Extends few more) (h : ArgumentsIn few vs) where
  abbrev IsSame : LibFunc → Type 0
  IsSame f = called_with more f who ts vs s ≡ called_with few f who ts vs s

  abbrev IsPlaced : LibFunc → Type 0
  IsPlaced f = called_with few f who ts vs s ≡ Unplaced → row_of more (heap_name who) ≡ row_of few (heap_name who)

  formatted : (i k : ℕ) → FormatsSame few more (argument_at vs i) (drop k (typed ts vs)) s
  formatted i k = formats few more (argument_at vs i) (drop k (typed ts vs)) s ext (argument_in few vs i h) (drop_in few k (typed ts vs) (typed_in few ts vs h))

  there : (o : Option Row) → row_of few (heap_name who) ≡ o → is_some o ≡ true → is_some (row_of few (heap_name who)) ≡ true
  there o is some = ap is_some is ∙ some

  malloc_by : (o : Option Row) → row_of few (heap_name who) ≡ o → IsPlaced Malloc → IsSame Malloc
  malloc_by (Some r) is placed = plain few more Malloc vs who s ext h (there (Some r) is refl)
  malloc_by None is placed = malloc_same few more ext who s is (size_of_value (argument_at vs 0)) placed

  calloc_by : (o : Option Row) → row_of few (heap_name who) ≡ o → IsPlaced Calloc → IsSame Calloc
  calloc_by (Some r) is placed = plain few more Calloc vs who s ext h (there (Some r) is refl)
  calloc_by None is placed = calloc_same few more ext who s is (size_of_value (argument_at vs 0) * size_of_value (argument_at vs 1)) placed

  realloc_by : (o : Option Row) → row_of few (heap_name who) ≡ o → IsPlaced Realloc → IsSame Realloc
  realloc_by (Some r) is placed = plain few more Realloc vs who s ext h (there (Some r) is refl)
  realloc_by None is placed =
      realloc_same few more ext who s is (address_in (argument_at vs 0)) (size_of_value (argument_at vs 1)) (prov_in (argument_at vs 0))
      (argument_in few vs 0 h) placed

  same : (f : LibFunc) → IsPlaced f → IsSame f
  same Malloc placed = malloc_by (row_of few (heap_name who)) refl placed
  same Calloc placed = calloc_by (row_of few (heap_name who)) refl placed
  same Realloc placed = realloc_by (row_of few (heap_name who)) refl placed
  same Free placed = plain few more Free vs who s ext h tt
  same Memcpy placed = plain few more Memcpy vs who s ext h tt
  same Memmove placed = plain few more Memmove vs who s ext h tt
  same Memset placed = plain few more Memset vs who s ext h tt
  same Memcmp placed = plain few more Memcmp vs who s ext h tt
  same Strlen placed = plain few more Strlen vs who s ext h tt
  same Strcpy placed = plain few more Strcpy vs who s ext h tt
  same Strcmp placed = plain few more Strcmp vs who s ext h tt
  same Strchr placed = plain few more Strchr vs who s ext h tt
  same Getchar placed = plain few more Getchar vs who s ext h tt
  same Putchar placed = plain few more Putchar vs who s ext h tt
  same Puts placed = plain few more Puts vs who s ext h tt
  same Printf placed = (formatted 0 1).printed
  same Fprintf placed = (formatted 1 2).printed_to (integer_in (argument_at vs 0))
  same Sprintf placed = (formatted 1 2).stored None (argument_at vs 0) (argument_in few vs 0 h)
  same Snprintf placed = (formatted 2 3).stored (Some (size_of_value (argument_at vs 1))) (argument_at vs 0) (argument_in few vs 0 h)
  same Exit placed = plain few more Exit vs who s ext h tt
  same Abort placed = plain few more Abort vs who s ext h tt

pub calls_more : CallsSame → FormatsSameUnderMore → CallsMoreRows
calls_more plain formats few more f who ts vs s ext h placed = same plain formats few more who ts vs s ext h f placed
