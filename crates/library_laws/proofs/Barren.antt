-- Scripts that create nothing: those of the functions of the library that allocate nothing, and take no format.
use Rattle.std.proofs.Common.{◌≡◌, ℕ, zero, suc, ◌-◌, ◌*◌, ◌==◌, Bool, true, false, not, ◌||◌, ◌∷◌, [], List, length, replicate, Option, Some, None, cond, min}
use Rattle.std.proofs.Common.{refl, ap, subst, ℤ, pos, ◌++◌, if◌then◌else◌}
use Rattle.ub_base.specs.declared.clause.Clause.{Clause}
use Rattle.ub_base.specs.declared.clause.Clause.TheVariants.{LibraryArgument, DeadObject, Indeterminate, MemcpyOverlap, StrcpyOverlap}
use Rattle.ub_base.specs.declared.clause.Clause.TheVariants.{StoreToLiteral, StoreToConst, Free as FreeOfOther}
use Rattle.ub_base.specs.declared.names.Event.{Event}
use Rattle.ub_base.specs.declared.names.ObjName.{ObjName}
use Rattle.addr_map.specs.declared.map.Row.{Row}
use Rattle.addr_map.specs.Rows.{row_of}
use Rattle.exposure.specs.declared.prov.Prov.{Prov}
use Rattle.exposure.specs.declared.prov.Prov.TheVariants.{Empty, Whole, Either}
use Rattle.c_types.specs.declared.library.LibFunc.{LibFunc}
use Rattle.c_types.specs.declared.library.LibFunc.TheVariants.{Malloc, Calloc, Realloc, Free, Memcpy, Memmove, Memset, Memcmp, Strlen, Strcpy, Strcmp}
use Rattle.c_types.specs.declared.library.LibFunc.TheVariants.{Strchr, Getchar, Putchar, Puts, Printf, Fprintf, Sprintf, Snprintf, Exit, Abort}
use Rattle.mem_spec.specs.Store.{Store, TaggedByte, Life, is_live}
use Rattle.mem_spec.specs.Script.{Touch, Ask, Get, Put, Bear, Bury, Show, Find, Settle, Take, Print, Answer, item_of, refuses, refused, answer, left, Script}
use Rattle.mem_spec.specs.Script.{Give, Raise, Finish, Exceed, Misplace, Do, Act, Done, Raised, Ended, Outside, Unplaced, touched, run, touch, require, ◌>>=◌}
use Rattle.mem_spec.specs.Script.{◌>>◌}
use Rattle.mem_spec.specs.Acts.{Accessed, in_row, offset_in, settle_by, the_one_in, argument_object, argument_in, argument, check_writable, is_literal}
use Rattle.mem_spec.specs.Acts.{is_constant, copy_between, show_each, show_pieces, origins_in, all_written, size_in}
use Rattle.ub_base.specs.declared.names.Item.{Item}
use Rattle.libc_spec.specs.Library as lib
use Rattle.libc_spec.specs.Library.{LibValue, argument_at, address_in, prov_in, integer_in, size_of_value, is_heap_start, start_object, read_numbers, numbers}
use Rattle.libc_spec.specs.Library.{check_target, bytes_at, write_numbers, until_zero, behind, ends_in_zero, text_at, text_from, text, overlap, low_byte}
use Rattle.libc_spec.specs.Library.{library}
use Rattle.library_laws.specs.Called.{allocates, takes_format}

-- ---- a script that creates nothing, and ends the run, or passes a limit, only where it may
abbrev Plain : Touch → Type 0
Plain (Bear x size kind declared) = ⊥
Plain t = Unit {0}

abbrev pub Barren : {V : Type 0} → (may_end : Bool) → Script V → Type 0
Barren e (Do t k) = Plain t × ((r : Answer t) → Barren e (k r))
Barren e (Finish n) = e ≡ true
Barren e (Exceed c n) = e ≡ true
Barren e p = Unit {0}

pub barren_at : {A B : Type 0} (e : Bool) (p : Script A) (k : A → Script B) → Barren e p → ((v : A) → Barren e (k v)) → Barren e (p >>= k)
barren_at e (Give v) k b h = h v
barren_at e (Raise c) k b h = tt
barren_at e (Finish n) k b h = b
barren_at e (Exceed c n) k b h = b
barren_at e Misplace k b h = tt
barren_at e (Do t g) k b h = (b.0, λ r. barren_at e (g r) k (b.1 r) h)

pub needs_at : {B : Type 0} (e b : Bool) (c : Clause) (p : Script B) → Barren e p → Barren e (require b c >> p)
needs_at e true c p h = h
needs_at e false c p h = tt

pub required_at : (e b : Bool) (c : Clause) → Barren e (require b c)
required_at e true c = tt
required_at e false c = tt

started : (e : Bool) (p : Prov) (c : Clause) → Barren e (start_object p c)
started e Empty c = tt
started e (Whole x) c = tt
started e (Either id past start) c = (tt, λ r. tt)

pub free_barren : (e : Bool) (rows : List Row) (a : ℕ) (p : Prov) (c : Clause) → Barren e (lib.free rows a p c)
free_barren e rows zero p c = tt
free_barren e rows (suc a) p c =
    barren_at e (start_object p c) _ (started e p c) (λ x. (tt, λ life. required_at e (is_heap_start (row_of rows x) (suc a) life) c))

-- ---- the sum of created bytes stands so behind an act that is done, and it ends the run, or passes a limit, only where it may
abbrev pub Counts : {V : Type 0} → (may_end : Bool) → ℕ → Act V → Type 0
Counts e n (Done v is s) = s.created ≡ n
Counts e n (Raised c) = Unit {0}
Counts e n (Ended k is s) = e ≡ true
Counts e n (Outside c k) = e ≡ true
Counts e n Unplaced = Unit {0}

pub counts_touched : {V : Type 0} (e : Bool) (n : ℕ) (i : Item) (act : Act V) → Counts e n act → Counts e n (touched i act)
counts_touched e n i (Done v is s) h = h
counts_touched e n i (Raised c) h = tt
counts_touched e n i (Ended k is s) h = h
counts_touched e n i (Outside c k) h = h
counts_touched e n i Unplaced h = tt

counts_refused : (V : Type 0) (e : Bool) (n : ℕ) (t : Touch) → Counts e n (refused {V = V} t)
counts_refused V e n (Ask x) = tt
counts_refused V e n (Get x a len) = tt
counts_refused V e n (Put x a bs) = tt
counts_refused V e n (Bear x size kind declared) = tt
counts_refused V e n (Bury x) = tt
counts_refused V e n (Show x) = tt
counts_refused V e n (Find a) = tt
counts_refused V e n (Settle id x c) = tt
counts_refused V e n Take = tt
counts_refused V e n (Print to bs) = tt

pub counts_step : {V : Type 0} (e : Bool) (n : ℕ) (b : Bool) (t : Touch) (act : Act V) → Counts e n act
    → Counts e n (if b then refused t else touched (item_of t) act)
counts_step {V = V} e n true t act h = counts_refused V e n t
counts_step e n false t act h = counts_touched e n (item_of t) act h

created_left : (t : Touch) (s : Store) → Plain t → (left t s).created ≡ s.created
created_left (Ask x) s p = refl
created_left (Get x a len) s p = refl
created_left (Put x a bs) s p = refl
created_left (Bear x size kind declared) s p = absurd p
created_left (Bury x) s p = refl
created_left (Show x) s p = refl
created_left (Find a) s p = refl
created_left (Settle id x c) s p = refl
created_left Take s p = refl
created_left (Print to bs) s p = refl

pub barren_counts : {V : Type 0} (rows : List Row) (e : Bool) (p : Script V) (s : Store) → Barren e p → Counts e s.created (run rows p s)
barren_counts rows e (Give v) s b = refl
barren_counts rows e (Raise c) s b = tt
barren_counts rows e (Finish n) s b = b
barren_counts rows e (Exceed c n) s b = b
barren_counts rows e Misplace s b = tt
barren_counts {V = V} rows e (Do t k) s b =
    counts_step e s.created (refuses t s) t (run rows (k (answer rows t s)) (left t s))
    (subst (λ (n : ℕ). Counts e n (run rows (k (answer rows t s)) (left t s))) (created_left t s b.0)
    (barren_counts rows e (k (answer rows t s)) (left t s) (b.1 (answer rows t s))))

-- ---- where it may end the run
pub barren_then : {A B : Type 0} (p : Script A) (k : A → Script B) → Barren true p → ((v : A) → Barren true (k v)) → Barren true (p >>= k)
barren_then p k b h = barren_at true p k b h

pub needs : {B : Type 0} (b : Bool) (c : Clause) (p : Script B) → Barren true p → Barren true (require b c >> p)
needs b c p h = needs_at true b c p h

required : (b : Bool) (c : Clause) → Barren true (require b c)
required b c = required_at true b c

-- ---- parts of the library's scripts
pub either : {B : Type 0} (b : Bool) (p q : Script B) → Barren true p → Barren true q → Barren true (cond b p q)
either true p q h g = h
either false p q h g = g

pub shown : (xs : List ObjName) → Barren true (show_each xs)
shown [] = tt
shown (x ∷ xs) = (tt, λ r. shown xs)

pieces : (bs : List TaggedByte) → Barren true (show_pieces bs)
pieces [] = tt
pieces (b ∷ bs) = barren_then (show_each (origins_in b.byte)) (λ u. show_pieces bs) (shown (origins_in b.byte)) (λ u. pieces bs)

settled_by : (b1 b2 : Bool) (id : Event) (past start : ObjName) (c : Clause) → Barren true (settle_by b1 b2 id past start c)
settled_by true true id past start c = tt
settled_by true false id past start c = (tt, λ r. tt)
settled_by false true id past start c = (tt, λ r. tt)
settled_by false false id past start c = tt

pub numbers_read : (bs : List TaggedByte) → Barren true (read_numbers bs)
numbers_read bs =
    needs (all_written bs) Indeterminate (show_pieces bs >> Give (numbers bs))
    (barren_then (show_pieces bs) (λ u. Give (numbers bs)) (pieces bs) (λ u. tt))

writable : (life : Option Life) → Barren true (check_writable false life)
writable life = needs (not (is_literal life)) StoreToLiteral (require (not (is_constant life)) StoreToConst) (required (not (is_constant life)) StoreToConst)

pub target : (n : ℕ) (o : Option Accessed) → Barren true (check_target n o)
target zero None = tt
target zero (Some at) = tt
target (suc n) None = tt
target (suc n) (Some at) = writable at.life

bytes_read : (n : ℕ) (o : Option Accessed) → Barren true (bytes_at n o)
bytes_read zero None = tt
bytes_read zero (Some at) = tt
bytes_read (suc n) None = tt
bytes_read (suc n) (Some at) = (tt, λ r. tt)

pub numbers_written : (ns : List ℕ) (o : Option Accessed) → Barren true (write_numbers ns o)
numbers_written [] None = tt
numbers_written [] (Some at) = tt
numbers_written (n ∷ ns) None = tt
numbers_written (n ∷ ns) (Some at) = (tt, λ r. tt)

copied : (n : ℕ) (o p : Option Accessed) → Barren true (copy_between n o p)
copied zero None None = tt
copied zero None (Some p) = tt
copied zero (Some o) None = tt
copied zero (Some o) (Some p) = tt
copied (suc n) None None = tt
copied (suc n) None (Some p) = tt
copied (suc n) (Some o) None = tt
copied (suc n) (Some o) (Some p) = barren_then (check_writable false o.life) _ (writable o.life) (λ u. (tt, λ bs. (tt, λ r. tt)))

zero_found : (n : ℕ) (x : ObjName) (from : ℕ) → Barren true (until_zero n x from)
zero_found zero x from = tt
zero_found (suc n) x from = (
  tt,
  λ bs. either (ends_in_zero bs) (Give (Some bs)) (until_zero n x (suc from) >>= (λ more. Give (behind bs more))) tt
      (barren_then (until_zero n x (suc from)) (λ more. Give (behind bs more)) (zero_found n x (suc from)) (λ more. tt)),
)

text_given : (at : Accessed) (o : Option (List TaggedByte)) → Barren true (text_at at o)
text_given at None = tt
text_given at (Some bs) = tt

module _ (rows : List Row) where
  object_read : (len a : ℕ) (p : Prov) → Barren true (argument_object rows len a p)
  object_read len a Empty = tt
  object_read len a (Whole x) = tt
  object_read len a (Either id past start) =
      barren_then (settle_by (in_row (row_of rows past) a len) (in_row (row_of rows start) a len) id past start LibraryArgument)
      (λ u. Give (the_one_in (in_row (row_of rows past) a len) (in_row (row_of rows start) a len) past start))
      (settled_by (in_row (row_of rows past) a len) (in_row (row_of rows start) a len) id past start LibraryArgument) (λ u. tt)

  in_object : (len a : ℕ) (o : Option ObjName) → Barren true (argument_in rows len a o)
  in_object len a None = tt
  in_object len a (Some x) = (
    tt,
    λ life. needs (is_live life) DeadObject (require (in_row (row_of rows x) a len) LibraryArgument >> Give
        (Some (record { object = x; from = offset_in (row_of rows x) a; life = life })))
        (needs (in_row (row_of rows x) a len) LibraryArgument (Give (Some (record { object = x; from = offset_in (row_of rows x) a; life = life }))) tt),
  )

  pub argued : (len a : ℕ) (p : Prov) → Barren true (argument rows len a p)
  argued len a p =
      needs (not (a == 0)) LibraryArgument (argument_object rows len a p >>= argument_in rows len a)
      (barren_then (argument_object rows len a p) (argument_in rows len a) (object_read len a p) (in_object len a))

  text_behind : (o : Option Accessed) → Barren true (text_from rows o)
  text_behind None = tt
  text_behind (Some at) =
      barren_then (until_zero (size_in (row_of rows at.object) - at.from) at.object at.from) (text_at at)
      (zero_found (size_in (row_of rows at.object) - at.from) at.object at.from) (text_given at)

  pub text_read : (a : ℕ) (p : Prov) → Barren true (text rows a p)
  text_read a p = barren_then (argument rows 1 a p) (text_from rows) (argued 1 a p) text_behind

  memmove_barren : (may : Bool) (to from n : ℕ) (p q : Prov) → Barren true (lib.memmove rows may to p from q n)
  memmove_barren may to from n p q =
      barren_then (argument rows n to p) _ (argued n to p) (λ o.
      barren_then (argument rows n from q) _ (argued n from q) (λ i.
      barren_then (check_target n o) _ (target n o) (λ u.
      needs (may || not (overlap n to from)) MemcpyOverlap (copy_between n o i >> Give (lib.pointer to p))
      (barren_then (copy_between n o i) (λ w. Give (lib.pointer to p)) (copied n o i) (λ w. tt)))))

  memset_barren : (a n : ℕ) (p : Prov) (c : ℤ) → Barren true (lib.memset rows a p c n)
  memset_barren a n p c =
      barren_then (argument rows n a p) _ (argued n a p) (λ o.
      barren_then (check_target n o) _ (target n o) (λ u.
      barren_then (write_numbers (replicate n (low_byte c)) o) _ (numbers_written (replicate n (low_byte c)) o) (λ w. tt)))

  memcmp_barren : (a b n : ℕ) (p q : Prov) → Barren true (lib.memcmp rows a p b q n)
  memcmp_barren a b n p q =
      barren_then (argument rows n a p) _ (argued n a p) (λ o.
      barren_then (argument rows n b q) _ (argued n b q) (λ i.
      barren_then (bytes_at n o) _ (bytes_read n o) (λ xs.
      barren_then (read_numbers xs) _ (numbers_read xs) (λ x.
      barren_then (bytes_at n i) _ (bytes_read n i) (λ ys.
      barren_then (read_numbers ys) _ (numbers_read ys) (λ y. tt))))))

  strlen_barren : (a : ℕ) (p : Prov) → Barren true (lib.strlen rows a p)
  strlen_barren a p = barren_then (text rows a p) _ (text_read a p) (λ s. barren_then (read_numbers s.bytes) _ (numbers_read s.bytes) (λ ns. tt))

  strcpy_barren : (to from : ℕ) (p q : Prov) → Barren true (lib.strcpy rows to p from q)
  strcpy_barren to from p q =
      barren_then (text rows from q) _ (text_read from q) (λ s.
      barren_then (argument rows (length s.bytes) to p) _ (argued (length s.bytes) to p) (λ o.
      barren_then (read_numbers s.bytes) _ (numbers_read s.bytes) (λ ns.
      barren_then (check_target (length s.bytes) o) _ (target (length s.bytes) o) (λ u.
      needs (not (overlap (length s.bytes) to from)) StrcpyOverlap (write_numbers ns o >> Give (lib.pointer to p))
      (barren_then (write_numbers ns o) (λ w. Give (lib.pointer to p)) (numbers_written ns o) (λ w. tt))))))

  strcmp_barren : (a b : ℕ) (p q : Prov) → Barren true (lib.strcmp rows a p b q)
  strcmp_barren a b p q =
      barren_then (text rows a p) _ (text_read a p) (λ s.
      barren_then (text rows b q) _ (text_read b q) (λ t.
      barren_then (read_numbers s.bytes) _ (numbers_read s.bytes) (λ x.
      barren_then (read_numbers t.bytes) _ (numbers_read t.bytes) (λ y. tt))))

  strchr_barren : (a : ℕ) (p : Prov) (c : ℤ) → Barren true (lib.strchr rows a p c)
  strchr_barren a p c = barren_then (text rows a p) _ (text_read a p) (λ s. barren_then (read_numbers s.bytes) _ (numbers_read s.bytes) (λ ns. tt))

  puts_barren : (a : ℕ) (p : Prov) → Barren true (lib.puts rows a p)
  puts_barren a p = barren_then (text rows a p) _ (text_read a p) (λ s. barren_then (read_numbers s.bytes) _ (numbers_read s.bytes) (λ ns. (tt, λ u. tt)))

  -- ---- each function
  pub library_barren : (f : LibFunc) (vs : List LibValue) (who : Event) → allocates f ≡ false → Barren true (library rows f vs who)
  library_barren Malloc vs who h = absurd (cc)
  library_barren Calloc vs who h = absurd (cc)
  library_barren Realloc vs who h = absurd (cc)
  library_barren Free vs who h =
      barren_then (lib.free rows (address_in (argument_at vs 0)) (prov_in (argument_at vs 0)) FreeOfOther) (λ u. Give lib.nothing)
      (free_barren true rows (address_in (argument_at vs 0)) (prov_in (argument_at vs 0)) FreeOfOther) (λ u. tt)
  library_barren Memcpy vs who h = memmove_barren false (address_in (argument_at vs 0)) (address_in (argument_at vs 1)) (size_of_value (argument_at vs 2))
      (prov_in (argument_at vs 0)) (prov_in (argument_at vs 1))
  library_barren Memmove vs who h = memmove_barren true (address_in (argument_at vs 0)) (address_in (argument_at vs 1)) (size_of_value (argument_at vs 2))
      (prov_in (argument_at vs 0)) (prov_in (argument_at vs 1))
  library_barren Memset vs who h = memset_barren (address_in (argument_at vs 0)) (size_of_value (argument_at vs 2)) (prov_in (argument_at vs 0))
      (integer_in (argument_at vs 1))
  library_barren Memcmp vs who h = memcmp_barren (address_in (argument_at vs 0)) (address_in (argument_at vs 1)) (size_of_value (argument_at vs 2))
      (prov_in (argument_at vs 0)) (prov_in (argument_at vs 1))
  library_barren Strlen vs who h = strlen_barren (address_in (argument_at vs 0)) (prov_in (argument_at vs 0))
  library_barren Strcpy vs who h = strcpy_barren (address_in (argument_at vs 0)) (address_in (argument_at vs 1)) (prov_in (argument_at vs 0))
      (prov_in (argument_at vs 1))
  library_barren Strcmp vs who h = strcmp_barren (address_in (argument_at vs 0)) (address_in (argument_at vs 1)) (prov_in (argument_at vs 0))
      (prov_in (argument_at vs 1))
  library_barren Strchr vs who h = strchr_barren (address_in (argument_at vs 0)) (prov_in (argument_at vs 0)) (integer_in (argument_at vs 1))
  library_barren Getchar vs who h = (tt, λ b. tt)
  library_barren Putchar vs who h = (tt, λ u. tt)
  library_barren Puts vs who h = puts_barren (address_in (argument_at vs 0)) (prov_in (argument_at vs 0))
  library_barren Printf vs who h = tt
  library_barren Fprintf vs who h = tt
  library_barren Sprintf vs who h = tt
  library_barren Snprintf vs who h = tt
  library_barren Exit vs who h = refl
  library_barren Abort vs who h = refl
