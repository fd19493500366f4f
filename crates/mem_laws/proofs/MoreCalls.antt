-- The scripts of the library under more rows.
use Rattle.std.proofs.Common.{◌≡◌, ℕ, zero, suc, ◌-◌, ◌*◌, ◌==◌, Bool, true, false, not, ◌||◌, ◌∷◌, [], List, length, replicate, Option, Some, None, cond, min}
use Rattle.std.proofs.Common.{refl, ap, ap₂, ◌∙◌, is_some, ℤ, pos, ◌++◌, if◌then◌else◌}
use Rattle.ub_base.specs.declared.clause.Clause.{Clause}
use Rattle.ub_base.specs.declared.clause.Clause.TheVariants.{LibraryArgument, DeadObject, Indeterminate, MemcpyOverlap, StrcpyOverlap}
use Rattle.ub_base.specs.declared.clause.Clause.TheVariants.{StoreToLiteral, StoreToConst, Free as FreeOfOther, Realloc as ReallocOfOther}
use Rattle.ub_base.specs.declared.names.Event.{Event}
use Rattle.ub_base.specs.declared.names.ObjName.{ObjName}
use Rattle.addr_map.specs.declared.map.Row.{Row}
use Rattle.addr_map.specs.Rows.{row_of}
use Rattle.exposure.specs.declared.prov.Prov.{Prov}
use Rattle.exposure.specs.declared.prov.Prov.TheVariants.{Empty, Whole, Either}
use Rattle.c_types.specs.declared.library.LibFunc.{LibFunc}
use Rattle.c_types.specs.declared.library.LibFunc.TheVariants.{Malloc, Calloc, Realloc, Free, Memcpy, Memmove, Memset, Memcmp, Strlen, Strcpy, Strcmp}
use Rattle.c_types.specs.declared.library.LibFunc.TheVariants.{Strchr, Getchar, Putchar, Puts, Printf, Fprintf, Sprintf, Snprintf, Exit, Abort}
use Rattle.mem_spec.specs.declared.stream.Stream.TheVariants as streams
use Rattle.mem_spec.specs.Store.{Store, TaggedByte, Life, is_live}
use Rattle.mem_spec.specs.Script.{Touch, Ask, Get, Put, Bear, Bury, Show, Find, Settle, Take, Print, Answer, item_of, refuses, refused, answer, left, Script}
use Rattle.mem_spec.specs.Script.{Give, Raise, Finish, Exceed, Misplace, Do, Act, touched, run, touch, require, ◌>>=◌, ◌>>◌}
use Rattle.mem_spec.specs.Acts.{Accessed, in_row, offset_in, settle_by, the_one_in, argument_object, argument_in, argument, check_writable, is_literal}
use Rattle.mem_spec.specs.Acts.{is_constant, copy_between, show_each, show_pieces, origins_in, all_written, has_place, base_in, create, size_in}
use Rattle.libc_spec.specs.Library as lib
use Rattle.libc_spec.specs.Library.{LibValue, argument_at, address_in, prov_in, integer_in, size_of_value, heap_name, heap_kind, is_given, new_object}
use Rattle.libc_spec.specs.Library.{is_heap_start, start_object, read_numbers, numbers, check_target, bytes_at, write_numbers, until_zero, behind}
use Rattle.libc_spec.specs.Library.{ends_in_zero, Text, text_at, text_from, text, overlap, low_byte, library, asked, noted, created_within, output_within}
use Rattle.libc_spec.specs.Library.{called}
use Rattle.mem_laws.specs.MoreRows.{Extends, AreIn}
use Rattle.mem_laws.specs.MoreCalls.{ArgumentsIn, AllocatesIn, CallsSame}
use Rattle.mem_laws.proofs.MoreRows.{row_same}

-- ---- a script that finds nothing by its address
abbrev pub Finds : Touch → Type 0
Finds (Find a) = ⊥
Finds t = Unit {0}

abbrev pub Blind : {V : Type 0} → Script V → Type 0
Blind (Do t k) = Finds t × ((r : Answer t) → Blind (k r))
Blind p = Unit {0}

pub blind_then : {A B : Type 0} (p : Script A) (k : A → Script B) → Blind p → ((v : A) → Blind (k v)) → Blind (p >>= k)
blind_then (Give v) k b h = h v
blind_then (Raise c) k b h = tt
blind_then (Finish n) k b h = tt
blind_then (Exceed c n) k b h = tt
blind_then Misplace k b h = tt
blind_then (Do t g) k b h = (b.0, λ r. blind_then (g r) k (b.1 r) h)

same_answer : (few more : List Row) (t : Touch) (s : Store) → Finds t → answer more t s ≡ answer few t s
same_answer few more (Find a) s b = absurd b
same_answer few more (Ask x) s b = refl
same_answer few more (Get x a n) s b = refl
same_answer few more (Put x a bs) s b = refl
same_answer few more (Bear x size kind declared) s b = refl
same_answer few more (Bury x) s b = refl
same_answer few more (Show x) s b = refl
same_answer few more (Settle id x c) s b = refl
same_answer few more Take s b = refl
same_answer few more (Print to bs) s b = refl

pub blind_same : {V : Type 0} (few more : List Row) (p : Script V) (s : Store) → Blind p → run more p s ≡ run few p s
blind_same few more (Give v) s b = refl
blind_same few more (Raise c) s b = refl
blind_same few more (Finish n) s b = refl
blind_same few more (Exceed c n) s b = refl
blind_same few more Misplace s b = refl
blind_same {V = V} few more (Do t k) s b =
    ap (λ (a : Act V). if refuses t s then refused t else touched (item_of t) a)
    (ap (λ (r : Answer t). run more (k r) (left t s)) (same_answer few more t s b.0)
    ∙ blind_same few more (k (answer few t s)) (left t s) (b.1 (answer few t s)))

-- ---- parts that find nothing
required : (b : Bool) (c : Clause) → Blind (require b c)
required true c = tt
required false c = tt

needs : {B : Type 0} (b : Bool) (c : Clause) (p : Script B) → Blind p → Blind (require b c >> p)
needs true c p h = h
needs false c p h = tt

pub either : {B : Type 0} (b : Bool) (p q : Script B) → Blind p → Blind q → Blind (cond b p q)
either true p q h g = h
either false p q h g = g

pub shown : (xs : List ObjName) → Blind (show_each xs)
shown [] = tt
shown (x ∷ xs) = (tt, λ r. shown xs)

pieces : (bs : List TaggedByte) → Blind (show_pieces bs)
pieces [] = tt
pieces (b ∷ bs) = blind_then (show_each (origins_in b.byte)) (λ u. show_pieces bs) (shown (origins_in b.byte)) (λ u. pieces bs)

settled_by : (b1 b2 : Bool) (id : Event) (past start : ObjName) (c : Clause) → Blind (settle_by b1 b2 id past start c)
settled_by true true id past start c = tt
settled_by true false id past start c = (tt, λ r. tt)
settled_by false true id past start c = (tt, λ r. tt)
settled_by false false id past start c = tt

pub numbers_read : (bs : List TaggedByte) → Blind (read_numbers bs)
numbers_read bs =
    needs (all_written bs) Indeterminate (show_pieces bs >> Give (numbers bs))
    (blind_then (show_pieces bs) (λ u. Give (numbers bs)) (pieces bs) (λ u. tt))

writable : (life : Option Life) → Blind (check_writable false life)
writable life = needs (not (is_literal life)) StoreToLiteral (require (not (is_constant life)) StoreToConst) (required (not (is_constant life)) StoreToConst)

pub target : (n : ℕ) (o : Option Accessed) → Blind (check_target n o)
target zero None = tt
target zero (Some at) = tt
target (suc n) None = tt
target (suc n) (Some at) = writable at.life

bytes_read : (n : ℕ) (o : Option Accessed) → Blind (bytes_at n o)
bytes_read zero None = tt
bytes_read zero (Some at) = tt
bytes_read (suc n) None = tt
bytes_read (suc n) (Some at) = (tt, λ r. tt)

pub numbers_written : (ns : List ℕ) (o : Option Accessed) → Blind (write_numbers ns o)
numbers_written [] None = tt
numbers_written [] (Some at) = tt
numbers_written (n ∷ ns) None = tt
numbers_written (n ∷ ns) (Some at) = (tt, λ r. tt)

copied : (n : ℕ) (o p : Option Accessed) → Blind (copy_between n o p)
copied zero None None = tt
copied zero None (Some p) = tt
copied zero (Some o) None = tt
copied zero (Some o) (Some p) = tt
copied (suc n) None None = tt
copied (suc n) None (Some p) = tt
copied (suc n) (Some o) None = tt
copied (suc n) (Some o) (Some p) = blind_then (check_writable false o.life) _ (writable o.life) (λ u. (tt, λ bs. (tt, λ r. tt)))

zero_found : (n : ℕ) (x : ObjName) (from : ℕ) → Blind (until_zero n x from)
zero_found zero x from = tt
zero_found (suc n) x from = (
  tt,
  λ bs. either (ends_in_zero bs) (Give (Some bs)) (until_zero n x (suc from) >>= (λ more. Give (behind bs more))) tt
      (blind_then (until_zero n x (suc from)) (λ more. Give (behind bs more)) (zero_found n x (suc from)) (λ more. tt)),
)

text_given : (at : Accessed) (o : Option (List TaggedByte)) → Blind (text_at at o)
text_given at None = tt
text_given at (Some bs) = tt

module _ (rows : List Row) where
  object_read : (len a : ℕ) (p : Prov) → Blind (argument_object rows len a p)
  object_read len a Empty = tt
  object_read len a (Whole x) = tt
  object_read len a (Either id past start) =
      blind_then (settle_by (in_row (row_of rows past) a len) (in_row (row_of rows start) a len) id past start LibraryArgument)
      (λ u. Give (the_one_in (in_row (row_of rows past) a len) (in_row (row_of rows start) a len) past start))
      (settled_by (in_row (row_of rows past) a len) (in_row (row_of rows start) a len) id past start LibraryArgument) (λ u. tt)

  in_object : (len a : ℕ) (o : Option ObjName) → Blind (argument_in rows len a o)
  in_object len a None = tt
  in_object len a (Some x) = (
    tt,
    λ life. needs (is_live life) DeadObject (require (in_row (row_of rows x) a len) LibraryArgument >> Give
        (Some (record { object = x; from = offset_in (row_of rows x) a; life = life })))
        (needs (in_row (row_of rows x) a len) LibraryArgument (Give (Some (record { object = x; from = offset_in (row_of rows x) a; life = life }))) tt),
  )

  pub argued : (len a : ℕ) (p : Prov) → Blind (argument rows len a p)
  argued len a p =
      needs (not (a == 0)) LibraryArgument (argument_object rows len a p >>= argument_in rows len a)
      (blind_then (argument_object rows len a p) (argument_in rows len a) (object_read len a p) (in_object len a))

  text_behind : (o : Option Accessed) → Blind (text_from rows o)
  text_behind None = tt
  text_behind (Some at) =
      blind_then (until_zero (size_in (row_of rows at.object) - at.from) at.object at.from) (text_at at)
      (zero_found (size_in (row_of rows at.object) - at.from) at.object at.from) (text_given at)

  pub text_read : (a : ℕ) (p : Prov) → Blind (text rows a p)
  text_read a p = blind_then (argument rows 1 a p) (text_from rows) (argued 1 a p) text_behind

  created : (x : ObjName) (n : ℕ) → Blind (create rows x n 16 heap_kind None)
  created x n = either (has_place (row_of rows x) n 16) (touch (Bear x n heap_kind None) >> Give (base_in (row_of rows x))) Misplace (tt, λ r. tt) tt

  started : (p : Prov) (c : Clause) → Blind (start_object p c)
  started Empty c = tt
  started (Whole x) c = tt
  started (Either id past start) c = (tt, λ r. tt)

  malloc_blind : (who : Event) (n : ℕ) → Blind (lib.malloc rows who n)
  malloc_blind who n =
      either (is_given n) (new_object rows who n >>= (λ base. Give (lib.pointer base (Whole (heap_name who))))) (Give lib.null)
      (blind_then (new_object rows who n) (λ base. Give (lib.pointer base (Whole (heap_name who)))) (created (heap_name who) n) (λ base. tt)) tt

  calloc_blind : (who : Event) (n : ℕ) → Blind (lib.calloc rows who n)
  calloc_blind who n =
      either (is_given n) (new_object rows who n >>= (λ base. touch (Ask (heap_name who)) >>= (λ life.
      touch (Put (heap_name who) 0 (replicate n (lib.plain 0))) >> Give (lib.pointer base (Whole (heap_name who)))))) (Give lib.null)
      (blind_then (new_object rows who n) _ (created (heap_name who) n) (λ base. (tt, λ life. (tt, λ r. tt)))) tt

  free_blind : (a : ℕ) (p : Prov) (c : Clause) → Blind (lib.free rows a p c)
  free_blind zero p c = tt
  free_blind (suc a) p c =
      blind_then (start_object p c) _ (started p c) (λ x. (tt, λ life. required (is_heap_start (row_of rows x) (suc a) life) c))

  moved_blind : (who : Event) (x : ObjName) (n : ℕ) → Blind (lib.moved rows who x n)
  moved_blind who x n = (tt, λ bs. blind_then (new_object rows who n) _ (created (heap_name who) n) (λ base. (tt, λ life. (tt, λ r. (tt, λ old. tt)))))

  resized_blind : (who : Event) (a : ℕ) (p : Prov) (n : ℕ) → Blind (lib.resized rows who a p n)
  resized_blind who a p n =
      blind_then (start_object p ReallocOfOther) _ (started p ReallocOfOther) (λ x. (
        tt,
        λ life.
            needs (is_heap_start (row_of rows x) a life) ReallocOfOther (if is_given n then lib.moved rows who x n else Give lib.null)
            (either (is_given n) (lib.moved rows who x n) (Give lib.null) (moved_blind who x n) tt),
      ))

  realloc_blind : (who : Event) (a : ℕ) (p : Prov) (n : ℕ) → Blind (lib.realloc rows who a p n)
  realloc_blind who zero p n = malloc_blind who n
  realloc_blind who (suc a) p zero = blind_then (lib.free rows (suc a) p ReallocOfOther) (λ u. Give lib.null) (free_blind (suc a) p ReallocOfOther) (λ u. tt)
  realloc_blind who (suc a) p (suc n) = resized_blind who (suc a) p (suc n)

  memmove_blind : (may : Bool) (to from n : ℕ) (p q : Prov) → Blind (lib.memmove rows may to p from q n)
  memmove_blind may to from n p q =
      blind_then (argument rows n to p) _ (argued n to p) (λ o.
      blind_then (argument rows n from q) _ (argued n from q) (λ i.
      blind_then (check_target n o) _ (target n o) (λ u.
      needs (may || not (overlap n to from)) MemcpyOverlap (copy_between n o i >> Give (lib.pointer to p))
      (blind_then (copy_between n o i) (λ w. Give (lib.pointer to p)) (copied n o i) (λ w. tt)))))

  memset_blind : (a n : ℕ) (p : Prov) (c : ℤ) → Blind (lib.memset rows a p c n)
  memset_blind a n p c =
      blind_then (argument rows n a p) _ (argued n a p) (λ o.
      blind_then (check_target n o) _ (target n o) (λ u.
      blind_then (write_numbers (replicate n (low_byte c)) o) _ (numbers_written (replicate n (low_byte c)) o) (λ w. tt)))

  memcmp_blind : (a b n : ℕ) (p q : Prov) → Blind (lib.memcmp rows a p b q n)
  memcmp_blind a b n p q =
      blind_then (argument rows n a p) _ (argued n a p) (λ o.
      blind_then (argument rows n b q) _ (argued n b q) (λ i.
      blind_then (bytes_at n o) _ (bytes_read n o) (λ xs.
      blind_then (read_numbers xs) _ (numbers_read xs) (λ x.
      blind_then (bytes_at n i) _ (bytes_read n i) (λ ys.
      blind_then (read_numbers ys) _ (numbers_read ys) (λ y. tt))))))

  strlen_blind : (a : ℕ) (p : Prov) → Blind (lib.strlen rows a p)
  strlen_blind a p = blind_then (text rows a p) _ (text_read a p) (λ s. blind_then (read_numbers s.bytes) _ (numbers_read s.bytes) (λ ns. tt))

  strcpy_blind : (to from : ℕ) (p q : Prov) → Blind (lib.strcpy rows to p from q)
  strcpy_blind to from p q =
      blind_then (text rows from q) _ (text_read from q) (λ s.
      blind_then (argument rows (length s.bytes) to p) _ (argued (length s.bytes) to p) (λ o.
      blind_then (read_numbers s.bytes) _ (numbers_read s.bytes) (λ ns.
      blind_then (check_target (length s.bytes) o) _ (target (length s.bytes) o) (λ u.
      needs (not (overlap (length s.bytes) to from)) StrcpyOverlap (write_numbers ns o >> Give (lib.pointer to p))
      (blind_then (write_numbers ns o) (λ w. Give (lib.pointer to p)) (numbers_written ns o) (λ w. tt))))))

  strcmp_blind : (a b : ℕ) (p q : Prov) → Blind (lib.strcmp rows a p b q)
  strcmp_blind a b p q =
      blind_then (text rows a p) _ (text_read a p) (λ s.
      blind_then (text rows b q) _ (text_read b q) (λ t.
      blind_then (read_numbers s.bytes) _ (numbers_read s.bytes) (λ x.
      blind_then (read_numbers t.bytes) _ (numbers_read t.bytes) (λ y. tt))))

  strchr_blind : (a : ℕ) (p : Prov) (c : ℤ) → Blind (lib.strchr rows a p c)
  strchr_blind a p c = blind_then (text rows a p) _ (text_read a p) (λ s. blind_then (read_numbers s.bytes) _ (numbers_read s.bytes) (λ ns. tt))

  puts_blind : (a : ℕ) (p : Prov) → Blind (lib.puts rows a p)
  puts_blind a p = blind_then (text rows a p) _ (text_read a p) (λ s. blind_then (read_numbers s.bytes) _ (numbers_read s.bytes) (λ ns. (tt, λ u. tt)))

  library_blind : (f : LibFunc) (vs : List LibValue) (who : Event) → Blind (library rows f vs who)
  library_blind Malloc vs who = malloc_blind who (size_of_value (argument_at vs 0))
  library_blind Calloc vs who = calloc_blind who (size_of_value (argument_at vs 0) * size_of_value (argument_at vs 1))
  library_blind Realloc vs who = realloc_blind who (address_in (argument_at vs 0)) (prov_in (argument_at vs 0)) (size_of_value (argument_at vs 1))
  library_blind Free vs who =
      blind_then (lib.free rows (address_in (argument_at vs 0)) (prov_in (argument_at vs 0)) FreeOfOther) (λ u. Give lib.nothing)
      (free_blind (address_in (argument_at vs 0)) (prov_in (argument_at vs 0)) FreeOfOther) (λ u. tt)
  library_blind Memcpy vs who = memmove_blind false (address_in (argument_at vs 0)) (address_in (argument_at vs 1)) (size_of_value (argument_at vs 2))
      (prov_in (argument_at vs 0)) (prov_in (argument_at vs 1))
  library_blind Memmove vs who = memmove_blind true (address_in (argument_at vs 0)) (address_in (argument_at vs 1)) (size_of_value (argument_at vs 2))
      (prov_in (argument_at vs 0)) (prov_in (argument_at vs 1))
  library_blind Memset vs who = memset_blind (address_in (argument_at vs 0)) (size_of_value (argument_at vs 2)) (prov_in (argument_at vs 0))
      (integer_in (argument_at vs 1))
  library_blind Memcmp vs who = memcmp_blind (address_in (argument_at vs 0)) (address_in (argument_at vs 1)) (size_of_value (argument_at vs 2))
      (prov_in (argument_at vs 0)) (prov_in (argument_at vs 1))
  library_blind Strlen vs who = strlen_blind (address_in (argument_at vs 0)) (prov_in (argument_at vs 0))
  library_blind Strcpy vs who = strcpy_blind (address_in (argument_at vs 0)) (address_in (argument_at vs 1)) (prov_in (argument_at vs 0))
      (prov_in (argument_at vs 1))
  library_blind Strcmp vs who = strcmp_blind (address_in (argument_at vs 0)) (address_in (argument_at vs 1)) (prov_in (argument_at vs 0))
      (prov_in (argument_at vs 1))
  library_blind Strchr vs who = strchr_blind (address_in (argument_at vs 0)) (prov_in (argument_at vs 0)) (integer_in (argument_at vs 1))
  library_blind Getchar vs who = (tt, λ b. tt)
  library_blind Putchar vs who = (tt, λ u. tt)
  library_blind Puts vs who = puts_blind (address_in (argument_at vs 0)) (prov_in (argument_at vs 0))
  library_blind Printf vs who = tt
  library_blind Fprintf vs who = tt
  library_blind Sprintf vs who = tt
  library_blind Snprintf vs who = tt
  library_blind Exit vs who = tt
  library_blind Abort vs who = tt

-- ---- the values of a script, whatever its touches give
abbrev pub Only : {V : Type 0} → (V → Type 0) → Script V → Type 0
Only P (Give v) = P v
Only P (Do t k) = (r : Answer t) → Only P (k r)
Only P p = Unit {0}

only_then : {A B : Type 0} (P : A → Type 0) (Q : B → Type 0) (p : Script A) (k : A → Script B) → Only P p → ((v : A) → P v → Only Q (k v))
    → Only Q (p >>= k)
only_then P Q (Give v) k o h = h v o
only_then P Q (Raise c) k o h = tt
only_then P Q (Finish n) k o h = tt
only_then P Q (Exceed c n) k o h = tt
only_then P Q Misplace k o h = tt
only_then P Q (Do t g) k o h = λ r. only_then P Q (g r) k (o r) h

-- two scripts behind one are alike where they are so for its values
alike_then : {A B : Type 0} (P : A → Type 0) (p : Script A) (k l : A → Script B) → Only P p → ((v : A) → P v → k v ≡ l v) → (p >>= k) ≡ (p >>= l)
alike_then P (Give v) k l o h = h v o
alike_then P (Raise c) k l o h = refl
alike_then P (Finish n) k l o h = refl
alike_then P (Exceed c n) k l o h = refl
alike_then P Misplace k l o h = refl
alike_then P (Do t g) k l o h = λ i. Do t (λ r. alike_then P (g r) k l (o r) h i)

-- a new object by its row
abbrev new_at : Option Row → Event → ℕ → Script ℕ
new_at w who n = if has_place w n 16 then touch (Bear (heap_name who) n heap_kind None) >> Give (base_in w) else Misplace

abbrev moved_at : Option Row → Option Row → Event → ObjName → ℕ → Script LibValue
moved_at r w who x n = do
  bs ← touch (Get x 0 (min (size_in r) n))
  base ← new_at w who n
  life ← touch (Ask (heap_name who))
  touch (Put (heap_name who) 0 bs)
  old ← touch (Bury x)
  Give (lib.pointer base (Whole (heap_name who)))

abbrev resized_at : Option Row → Option Row → Event → ℕ → ObjName → ℕ → Script LibValue
resized_at r w who a x n = do
  life ← touch (Ask x)
  require (is_heap_start r a life) ReallocOfOther
  if is_given n then moved_at r w who x n else Give lib.null

module _ (few more : List Row) (ext : Extends few more) where
  abbrev pub IsIn : ObjName → Type 0
  IsIn x = is_some (row_of few x) ≡ true

  abbrev IsInIf : Option ObjName → Type 0
  IsInIf None = Unit {0}
  IsInIf (Some x) = IsIn x

  abbrev pub IsAccessedIn : Option Accessed → Type 0
  IsAccessedIn None = Unit {0}
  IsAccessedIn (Some at) = IsIn at.object

  pub row : (x : ObjName) → IsIn x → row_of more x ≡ row_of few x
  row x h = row_same few more ext x (row_of few x) refl h

  -- ---- an argument
  module _ (len a : ℕ) where
    picked : (b1 b2 : Bool) (id : Event) (past start : ObjName) → IsIn past → IsIn start
        → Only IsInIf (settle_by b1 b2 id past start LibraryArgument >> Give (the_one_in b1 b2 past start))
    picked true true id past start h g = tt
    picked true false id past start h g = λ u. h
    picked false true id past start h g = λ u. g
    picked false false id past start h g = tt

    object_in : (p : Prov) → AreIn few p → Only IsInIf (argument_object few len a p)
    object_in Empty h = tt
    object_in (Whole x) h = h
    object_in (Either id past start) h = picked (in_row (row_of few past) a len) (in_row (row_of few start) a len) id past start h.0 h.1

    checked : (b1 b2 : Bool) (at : Accessed) → IsIn at.object
        → Only IsAccessedIn (require b1 DeadObject >> (require b2 LibraryArgument >> Give (Some at)))
    checked true true at h = h
    checked true false at h = tt
    checked false b2 at h = tt

    accessed_in : (o : Option ObjName) → IsInIf o → Only IsAccessedIn (argument_in few len a o)
    accessed_in None h = tt
    accessed_in (Some x) h = λ life.
        checked (is_live life) (in_row (row_of few x) a len) (record { object = x; from = offset_in (row_of few x) a; life = life }) h

    required_in : (b : Bool) (p : Script (Option Accessed)) → Only IsAccessedIn p → Only IsAccessedIn (require b LibraryArgument >> p)
    required_in true p h = h
    required_in false p h = tt

    pub argument_only : (p : Prov) → AreIn few p → Only IsAccessedIn (argument few len a p)
    argument_only p h =
        required_in (not (a == 0)) (argument_object few len a p >>= argument_in few len a)
        (only_then IsInIf IsAccessedIn (argument_object few len a p) (argument_in few len a) (object_in p h) accessed_in)

    in_same : (o : Option ObjName) → IsInIf o → argument_in more len a o ≡ argument_in few len a o
    in_same None h = refl
    in_same (Some x) h =
        ap (λ (r : Option Row). touch (Ask x) >>= (λ life. require (is_live life) DeadObject >> (require (in_row r a len) LibraryArgument >> Give
        (Some (record { object = x; from = offset_in r a; life = life }))))) (row x h)

    object_same : (p : Prov) → AreIn few p → argument_object more len a p ≡ argument_object few len a p
    object_same Empty h = refl
    object_same (Whole x) h = refl
    object_same (Either id past start) h =
        ap₂ (λ (r w : Option Row). settle_by (in_row r a len) (in_row w a len) id past start LibraryArgument >> Give
        (the_one_in (in_row r a len) (in_row w a len) past start)) (row past h.0) (row start h.1)

    pub argument_same : (p : Prov) → AreIn few p → argument more len a p ≡ argument few len a p
    argument_same p h =
        ap (λ (z : Script (Option Accessed)). require (not (a == 0)) LibraryArgument >> z)
        (ap (λ (z : Script (Option ObjName)). z >>= argument_in more len a) (object_same p h)
        ∙ alike_then IsInIf (argument_object few len a p) (argument_in more len a) (argument_in few len a) (object_in p h) in_same)

  text_from_same : (o : Option Accessed) → IsAccessedIn o → text_from more o ≡ text_from few o
  text_from_same None h = refl
  text_from_same (Some at) h = ap (λ (r : Option Row). until_zero (size_in r - at.from) at.object at.from >>= text_at at) (row at.object h)

  pub text_same : (a : ℕ) (p : Prov) → AreIn few p → text more a p ≡ text few a p
  text_same a p h =
      ap (λ (z : Script (Option Accessed)). z >>= text_from more) (argument_same 1 a p h)
      ∙ alike_then IsAccessedIn (argument few 1 a p) (text_from more) (text_from few) (argument_only 1 a p h) text_from_same

  -- ---- allocation
  free_same : (a : ℕ) (p : Prov) (c : Clause) → AreIn few p → lib.free more a p c ≡ lib.free few a p c
  free_same zero p c h = refl
  free_same (suc a) Empty c h = refl
  free_same (suc a) (Whole x) c h = ap (λ (r : Option Row). touch (Bury x) >>= (λ life. require (is_heap_start r (suc a) life) c)) (row x h)
  free_same (suc a) (Either id past start) c h =
      ap (λ (r : Option Row). touch (Settle id start c) >>= (λ u. touch (Bury start) >>= (λ life. require (is_heap_start r (suc a) life) c))) (row start h.1)

  malloc_same : (who : Event) (n : ℕ) → IsIn (heap_name who) → lib.malloc more who n ≡ lib.malloc few who n
  malloc_same who n h =
      ap (λ (w : Option Row). if is_given n then (new_at w who n >>= (λ base. Give (lib.pointer base (Whole (heap_name who))))) else Give lib.null)
      (row (heap_name who) h)

  calloc_same : (who : Event) (n : ℕ) → IsIn (heap_name who) → lib.calloc more who n ≡ lib.calloc few who n
  calloc_same who n h =
      ap (λ (w : Option Row). if is_given n then (new_at w who n >>= (λ base. touch (Ask (heap_name who)) >>= (λ life.
      touch (Put (heap_name who) 0 (replicate n (lib.plain 0))) >> Give (lib.pointer base (Whole (heap_name who)))))) else Give lib.null)
      (row (heap_name who) h)

  resized_same : (who : Event) (a n : ℕ) (p : Prov) → AreIn few p → IsIn (heap_name who) → lib.resized more who a p n ≡ lib.resized few who a p n
  resized_same who a n Empty h g = refl
  resized_same who a n (Whole x) h g = ap₂ (λ (r w : Option Row). resized_at r w who a x n) (row x h) (row (heap_name who) g)
  resized_same who a n (Either id past start) h g =
      ap₂ (λ (r w : Option Row). touch (Settle id start ReallocOfOther) >>= (λ u. resized_at r w who a start n)) (row start h.1) (row (heap_name who) g)

  realloc_same : (who : Event) (a n : ℕ) (p : Prov) → AreIn few p → IsIn (heap_name who) → lib.realloc more who a p n ≡ lib.realloc few who a p n
  realloc_same who zero n p h g = malloc_same who n g
  realloc_same who (suc a) zero p h g = ap (λ (z : Script (Unit {0})). z >> Give lib.null) (free_same (suc a) p ReallocOfOther h)
  realloc_same who (suc a) (suc n) p h g = resized_same who (suc a) (suc n) p h g

  -- ---- the rest
  memmove_same : (may : Bool) (to from n : ℕ) (p q : Prov) → AreIn few p → AreIn few q → lib.memmove more may to p from q n ≡ lib.memmove few may to p from q n
  memmove_same may to from n p q h g = λ i.
      argument_same n to p h i >>= (λ o. argument_same n from q g i >>= (λ s.
      check_target n o >> (require (may || not (overlap n to from)) MemcpyOverlap >> (copy_between n o s >> Give (lib.pointer to p)))))

  memset_same : (a n : ℕ) (p : Prov) (c : ℤ) → AreIn few p → lib.memset more a p c n ≡ lib.memset few a p c n
  memset_same a n p c h = λ i.
      argument_same n a p h i >>= (λ o. check_target n o >> (write_numbers (replicate n (low_byte c)) o >> Give (lib.pointer a p)))

  memcmp_same : (a b n : ℕ) (p q : Prov) → AreIn few p → AreIn few q → lib.memcmp more a p b q n ≡ lib.memcmp few a p b q n
  memcmp_same a b n p q h g = λ i.
      argument_same n a p h i >>= (λ o. argument_same n b q g i >>= (λ s. bytes_at n o >>= (λ xs. read_numbers xs >>= (λ x.
      bytes_at n s >>= (λ ys. read_numbers ys >>= (λ y. Give (lib.number (lib.order_of x y))))))))

  strlen_same : (a : ℕ) (p : Prov) → AreIn few p → lib.strlen more a p ≡ lib.strlen few a p
  strlen_same a p h = λ i. text_same a p h i >>= (λ s. read_numbers s.bytes >>= (λ ns. Give (lib.number (pos (length s.bytes - 1)))))

  strcpy_same : (to from : ℕ) (p q : Prov) → AreIn few p → AreIn few q → lib.strcpy more to p from q ≡ lib.strcpy few to p from q
  strcpy_same to from p q h g = λ i.
      text_same from q g i >>= (λ s. argument_same (length s.bytes) to p h i >>= (λ o. read_numbers s.bytes >>= (λ ns.
      check_target (length s.bytes) o >> (require (not (overlap (length s.bytes) to from)) StrcpyOverlap >> (write_numbers ns o >> Give (lib.pointer to p))))))

  strcmp_same : (a b : ℕ) (p q : Prov) → AreIn few p → AreIn few q → lib.strcmp more a p b q ≡ lib.strcmp few a p b q
  strcmp_same a b p q h g = λ i.
      text_same a p h i >>= (λ s. text_same b q g i >>= (λ t. read_numbers s.bytes >>= (λ x. read_numbers t.bytes >>= (λ y.
      Give (lib.number (lib.order_of x y))))))

  strchr_same : (a : ℕ) (p : Prov) (c : ℤ) → AreIn few p → lib.strchr more a p c ≡ lib.strchr few a p c
  strchr_same a p c h = λ i.
      text_same a p h i >>= (λ s. read_numbers s.bytes >>= (λ ns. Give (lib.pointer_behind a p (lib.place_of (low_byte c) 0 ns))))

  puts_same : (a : ℕ) (p : Prov) → AreIn few p → lib.puts more a p ≡ lib.puts few a p
  puts_same a p h = λ i. text_same a p h i >>= (λ s. read_numbers s.bytes >>= (λ ns.
      touch (Print streams.Output (lib.without_zero ns ++ 10 ∷ [])) >> Give (lib.number (pos 1))))

  argument_is_in : (vs : List LibValue) (i : ℕ) → ArgumentsIn few vs → AreIn few (prov_in (argument_at vs i))
  argument_is_in [] i h = tt
  argument_is_in (v ∷ vs) zero h = h.0
  argument_is_in (v ∷ vs) (suc i) h = argument_is_in vs i h.1

  module _ (vs : List LibValue) (who : Event) (h : ArgumentsIn few vs) where
    first_in : AreIn few (prov_in (argument_at vs 0))
    first_in = argument_is_in vs 0 h

    second_in : AreIn few (prov_in (argument_at vs 1))
    second_in = argument_is_in vs 1 h

    library_same : (f : LibFunc) → AllocatesIn few f who → library more f vs who ≡ library few f vs who
    library_same Malloc g = malloc_same who (size_of_value (argument_at vs 0)) g
    library_same Calloc g = calloc_same who (size_of_value (argument_at vs 0) * size_of_value (argument_at vs 1)) g
    library_same Realloc g = realloc_same who (address_in (argument_at vs 0)) (size_of_value (argument_at vs 1)) (prov_in (argument_at vs 0)) first_in g
    library_same Free g = ap (λ (z : Script (Unit {0})). z >> Give lib.nothing) (free_same (address_in (argument_at vs 0)) (prov_in (argument_at vs 0))
        FreeOfOther first_in)
    library_same Memcpy g = memmove_same false (address_in (argument_at vs 0)) (address_in (argument_at vs 1)) (size_of_value (argument_at vs 2))
        (prov_in (argument_at vs 0)) (prov_in (argument_at vs 1)) first_in second_in
    library_same Memmove g = memmove_same true (address_in (argument_at vs 0)) (address_in (argument_at vs 1)) (size_of_value (argument_at vs 2))
        (prov_in (argument_at vs 0)) (prov_in (argument_at vs 1)) first_in second_in
    library_same Memset g = memset_same (address_in (argument_at vs 0)) (size_of_value (argument_at vs 2)) (prov_in (argument_at vs 0))
        (integer_in (argument_at vs 1)) first_in
    library_same Memcmp g = memcmp_same (address_in (argument_at vs 0)) (address_in (argument_at vs 1)) (size_of_value (argument_at vs 2))
        (prov_in (argument_at vs 0)) (prov_in (argument_at vs 1)) first_in second_in
    library_same Strlen g = strlen_same (address_in (argument_at vs 0)) (prov_in (argument_at vs 0)) first_in
    library_same Strcpy g = strcpy_same (address_in (argument_at vs 0)) (address_in (argument_at vs 1)) (prov_in (argument_at vs 0))
        (prov_in (argument_at vs 1)) first_in second_in
    library_same Strcmp g = strcmp_same (address_in (argument_at vs 0)) (address_in (argument_at vs 1)) (prov_in (argument_at vs 0))
        (prov_in (argument_at vs 1)) first_in second_in
    library_same Strchr g = strchr_same (address_in (argument_at vs 0)) (prov_in (argument_at vs 0)) (integer_in (argument_at vs 1)) first_in
    library_same Getchar g = refl
    library_same Putchar g = refl
    library_same Puts g = puts_same (address_in (argument_at vs 0)) (prov_in (argument_at vs 0)) first_in
    library_same Printf g = refl
    library_same Fprintf g = refl
    library_same Sprintf g = refl
    library_same Snprintf g = refl
    library_same Exit g = refl
    library_same Abort g = refl

pub calls_same : CallsSame
calls_same few more f vs who s ext h g =
    ap (λ (act : Act LibValue). output_within (created_within (asked f vs) s (noted f act)))
    (ap (λ (p : Script LibValue). run more p s) (library_same few more ext vs who h f g)
    ∙ blind_same few more (library few f vs who) s (library_blind few f vs who))
