-- The scripts of libc_spec ask before they read or write.
use Rattle.std.proofs.Common.{◌≡◌, ℕ, zero, suc, ◌-◌, ◌*◌, Bool, true, false, not, ◌||◌, if◌then◌else◌, List, [], ◌∷◌, ◌++◌, length, Option, Some, None}
use Rattle.std.proofs.Common.{ap, inl, inr, refl}
use Rattle.std.specs.Prelude.{◌==◌, min, replicate, ℤ, pos}
use Rattle.ub_base.specs.declared.clause.Clause.{Clause}
use Rattle.ub_base.specs.declared.clause.Clause.TheVariants.{LibraryArgument, DeadObject, MemcpyOverlap, StrcpyOverlap, Indeterminate}
use Rattle.ub_base.specs.declared.clause.Clause.TheVariants.{Realloc as ReallocOfOther, Free as FreeOfOther}
use Rattle.ub_base.specs.declared.names.Event.{Event}
use Rattle.ub_base.specs.declared.names.ObjName.{ObjName}
use Rattle.ub_base.specs.declared.names.Item.{Item}
use Rattle.ub_base.specs.declared.names.Item.TheVariants.{Read, Dies, Alive}
use Rattle.ub_base.proofs.NameLemmas.{same_object_refl}
use Rattle.addr_map.specs.declared.map.Row.{Row}
use Rattle.addr_map.specs.Rows.{row_of}
use Rattle.exposure.specs.declared.prov.Prov.{Prov}
use Rattle.exposure.specs.declared.prov.Prov.TheVariants as prov
use Rattle.c_types.specs.declared.library.LibFunc.{LibFunc}
use Rattle.c_types.specs.declared.library.LibFunc.TheVariants.{Malloc, Calloc, Realloc, Free, Memcpy, Memmove, Memset, Memcmp, Strlen, Strcpy, Strcmp}
use Rattle.c_types.specs.declared.library.LibFunc.TheVariants.{Strchr, Getchar, Putchar, Puts, Printf, Fprintf, Sprintf, Snprintf, Exit, Abort}
use Rattle.mem_spec.specs.Store.{TaggedByte, is_live}
use Rattle.mem_spec.specs.declared.stream.Stream.TheVariants as streams
use Rattle.mem_spec.specs.Script.{Ask, Get, Put, Bury, Print, Script, Give, touch, require, ◌>>=◌, ◌>>◌}
use Rattle.mem_spec.specs.Acts.{Accessed, argument, argument_object, argument_in, the_one_in, in_row, offset_in, settle_by, check_writable, copy_between}
use Rattle.mem_spec.specs.Acts.{declared_of, stored_from, whole, all_written, show_pieces, size_in, retagged}
use Rattle.mem_laws.specs.Frame.{any_of}
use Rattle.libc_spec.specs.Library.{LibValue, number, pointer, nothing, null, argument_at, address_in, prov_in, integer_in, size_of_value, low_byte}
use Rattle.libc_spec.specs.Library.{plain, numbers, read_numbers, check_target, bytes_at, write_numbers, ends_in_zero, behind, until_zero, Text, text_at}
use Rattle.libc_spec.specs.Library.{text_from, text, order_of, overlap, heap_name, heap_kind, is_given, new_object, malloc, calloc, is_heap_start}
use Rattle.libc_spec.specs.Library.{start_object, free, moved, resized, realloc, memmove, memset, memcmp, strlen, strcpy, strcmp, place_of}
use Rattle.libc_spec.specs.Library.{pointer_behind, strchr, getchar, putchar, puts, without_zero, byte_or_end}
use Rattle.libc_spec.specs.Library as scripts
use Rattle.order_laws.specs.StrictItems.{asks}
use Rattle.order_laws.specs.Asking.{Post, Anything, Asked, AskedOrEnds}
use Rattle.order_laws.proofs.Asks.{More, Known, bind, need, needs, when, writable_asks}
use Rattle.order_laws.proofs.ActsAsk.{go_on, pieces_asks, settle_asks}
use Rattle.order_laws.proofs.ProgramAsks.{create_asks}

abbrev pub OptKnown : Option Accessed → List Item → Type 0
OptKnown None cs = Unit {0}
OptKnown (Some at) cs = Known at cs

pub opt_more : (o : Option Accessed) (bs cs : List Item) → More bs cs → OptKnown o bs → OptKnown o cs
opt_more None bs cs m k = tt
opt_more (Some at) bs cs m k = m at.object k

argument_in_asks : (rows : List Row) (len a : ℕ) (o : Option ObjName) (bs : List Item) → Post rows (argument_in rows len a o) bs OptKnown
argument_in_asks rows len a None bs = tt
argument_in_asks rows len a (Some x) bs = λ life.
    need rows (is_live life) DeadObject (require (in_row (row_of rows x) a len) LibraryArgument >> Give
    (Some (record { object = x; from = offset_in (row_of rows x) a; life = life }))) (Alive x ∷ bs) OptKnown
    (need rows (in_row (row_of rows x) a len) LibraryArgument (Give (Some (record { object = x; from = offset_in (row_of rows x) a; life = life })))
    (Alive x ∷ bs) OptKnown
    (ap (λ b. b || any_of (λ j. asks j x) bs) (same_object_refl x)))

object_asks : (rows : List Row) (len a : ℕ) (p : Prov) (bs : List Item) → Asked rows (argument_object rows len a p) bs
object_asks rows len a prov.Empty bs = tt
object_asks rows len a (prov.Whole x) bs = tt
object_asks rows len a (prov.Either id past start) bs =
    go_on rows (settle_by (in_row (row_of rows past) a len) (in_row (row_of rows start) a len) id past start LibraryArgument)
    (λ u. Give (the_one_in (in_row (row_of rows past) a len) (in_row (row_of rows start) a len) past start)) bs
    (settle_asks rows (in_row (row_of rows past) a len) (in_row (row_of rows start) a len) id past start LibraryArgument bs) (λ u cs. tt)

pub argument_asks : (rows : List Row) (len a : ℕ) (p : Prov) (bs : List Item) → Post rows (argument rows len a p) bs OptKnown
argument_asks rows len a p bs =
    need rows (not (a == 0)) LibraryArgument (argument_object rows len a p >>= argument_in rows len a) bs OptKnown
    (bind rows (argument_object rows len a p) (argument_in rows len a) bs Anything OptKnown (object_asks rows len a p bs)
    (λ x cs m q. argument_in_asks rows len a x cs))

-- with an argument that was checked
pub with_argument : {B : Type 0} → (rows : List Row) (len a : ℕ) (p : Prov) (k : Option Accessed → Script B) (bs : List Item)
    → ((o : Option Accessed) (cs : List Item) → More bs cs → OptKnown o cs → Asked rows (k o) cs) → Asked rows (argument rows len a p >>= k) bs
with_argument rows len a p k bs g = bind rows (argument rows len a p) k bs OptKnown Anything (argument_asks rows len a p bs) g

pub numbers_ask : (rows : List Row) (ds : List TaggedByte) (bs : List Item) → Asked rows (read_numbers ds) bs
numbers_ask rows ds bs =
    need rows (all_written ds) Indeterminate (show_pieces ds >> Give (numbers ds)) bs Anything
    (go_on rows (show_pieces ds) (λ u. Give (numbers ds)) bs (pieces_asks rows ds bs) (λ u cs. tt))

until_asks : (rows : List Row) (n : ℕ) (x : ObjName) (from : ℕ) (bs : List Item) → any_of (λ j. asks j x) bs ≡ true → Asked rows (until_zero n x from) bs
until_asks rows zero x from bs k = tt
until_asks rows (suc n) x from bs k = (
  k,
  (λ ds. when rows (ends_in_zero ds) (Give (Some ds)) (until_zero n x (suc from) >>= (λ more. Give (behind ds more))) (Read x from 1 ∷ bs) Anything tt
      (go_on rows (until_zero n x (suc from)) (λ more. Give (behind ds more)) (Read x from 1 ∷ bs) (until_asks rows n x (suc from) (Read x from 1 ∷ bs) k)
      (λ u cs. tt))),
)

text_at_asks : (rows : List Row) (at : Accessed) (o : Option (List TaggedByte)) (bs : List Item) → Asked rows (text_at at o) bs
text_at_asks rows at None bs = tt
text_at_asks rows at (Some ds) bs = tt

text_from_asks : (rows : List Row) (o : Option Accessed) (bs : List Item) → OptKnown o bs → Asked rows (text_from rows o) bs
text_from_asks rows None bs k = tt
text_from_asks rows (Some at) bs k =
    go_on rows (until_zero (size_in (row_of rows at.object) - at.from) at.object at.from) (text_at at) bs
    (until_asks rows (size_in (row_of rows at.object) - at.from) at.object at.from bs k) (λ o cs. text_at_asks rows at o cs)

pub text_asks : (rows : List Row) (a : ℕ) (p : Prov) (bs : List Item) → Asked rows (text rows a p) bs
text_asks rows a p bs = with_argument rows 1 a p (text_from rows) bs (λ o cs m k. text_from_asks rows o cs k)

pub target_asks : (rows : List Row) (n : ℕ) (o : Option Accessed) (bs : List Item) → Asked rows (check_target n o) bs
target_asks rows zero None bs = tt
target_asks rows zero (Some at) bs = tt
target_asks rows (suc n) None bs = tt
target_asks rows (suc n) (Some at) bs = writable_asks rows false at.life bs

bytes_at_asks : (rows : List Row) (n : ℕ) (o : Option Accessed) (bs : List Item) → OptKnown o bs → Asked rows (bytes_at n o) bs
bytes_at_asks rows zero None bs k = tt
bytes_at_asks rows zero (Some at) bs k = tt
bytes_at_asks rows (suc n) None bs k = tt
bytes_at_asks rows (suc n) (Some at) bs k = (k, (λ r. tt))

pub write_asks : (rows : List Row) (ns : List ℕ) (o : Option Accessed) (bs : List Item) → OptKnown o bs → Asked rows (write_numbers ns o) bs
write_asks rows [] None bs k = tt
write_asks rows [] (Some at) bs k = tt
write_asks rows (n ∷ ns) None bs k = tt
write_asks rows (n ∷ ns) (Some at) bs k = (k, (λ r. tt))

abbrev cmp_last : List ℕ → List TaggedByte → Script LibValue
cmp_last x ys = read_numbers ys >>= (λ y. Give (number (order_of x y)))

abbrev cmp_two : ℕ → Option Accessed → Option Accessed → Script LibValue
cmp_two n first second = bytes_at n first >>= (λ xs. read_numbers xs >>= (λ x. bytes_at n second >>= cmp_last x))

abbrev strcpy_last : ℕ → Prov → ℕ → Text → Option Accessed → List ℕ → Script LibValue
strcpy_last to p from s t ns = check_target (length s.bytes) t >>
    (require (not (overlap (length s.bytes) to from)) StrcpyOverlap >> (write_numbers ns t >> Give (pointer to p)))

abbrev strcpy_two : ℕ → Prov → ℕ → Text → Option Accessed → Script LibValue
strcpy_two to p from s t = read_numbers s.bytes >>= strcpy_last to p from s t

abbrev calloc_last : Event → ℕ → ℕ → Script LibValue
calloc_last who n base = touch (Ask (heap_name who)) >>= (λ life. touch (Put (heap_name who) 0 (replicate n (plain 0))) >> Give
    (pointer base (prov.Whole (heap_name who))))

abbrev moved_last : Event → ObjName → List TaggedByte → ℕ → Script LibValue
moved_last who x ds base =
    touch (Ask (heap_name who)) >>= (λ life. touch (Put (heap_name who) 0 ds) >>
    (touch (Bury x) >>= (λ old. Give (pointer base (prov.Whole (heap_name who))))))

copy_asks : (rows : List Row) (n : ℕ) (target source : Option Accessed) (bs : List Item) → OptKnown target bs → OptKnown source bs
    → Asked rows (copy_between n target source) bs
copy_asks rows zero None source bs k l = tt
copy_asks rows zero (Some t) source bs k l = tt
copy_asks rows (suc n) None source bs k l = tt
copy_asks rows (suc n) (Some t) None bs k l = tt
copy_asks rows (suc n) (Some t) (Some s) bs k l =
    bind rows (check_writable false t.life)
    (λ u. touch (Get s.object s.from (suc n)) >>= (λ ds. touch (Put t.object t.from
    (stored_from (declared_of t.life) whole 0 (retagged (declared_of s.life) s.from ds))))) bs Anything Anything
    (writable_asks rows false t.life bs) (λ u cs m q. (m s.object l, (λ ds. (m t.object k, (λ r. tt)))))

move_asks : (rows : List Row) (may : Bool) (to : ℕ) (p : Prov) (from : ℕ) (q : Prov) (n : ℕ) (bs : List Item) → Asked rows (memmove rows may to p from q n) bs
move_asks rows may to p from q n bs =
    with_argument rows n to p (λ t. argument rows n from q >>= (λ s. check_target n t >>
    (require (may || not (overlap n to from)) MemcpyOverlap >> (copy_between n t s >> Give (pointer to p))))) bs
    (λ t cs m k. with_argument rows n from q (λ s. check_target n t >>
    (require (may || not (overlap n to from)) MemcpyOverlap >> (copy_between n t s >> Give (pointer to p)))) cs
    (λ s ds m2 l. bind rows (check_target n t) (λ u. require (may || not (overlap n to from)) MemcpyOverlap >> (copy_between n t s >> Give (pointer to p)))
    ds Anything Anything (target_asks rows n t ds)
    (λ u es m3 z. need rows (may || not (overlap n to from)) MemcpyOverlap (copy_between n t s >> Give (pointer to p)) es Anything
    (go_on rows (copy_between n t s) (λ u. Give (pointer to p)) es
    (copy_asks rows n t s es (opt_more t ds es m3 (opt_more t cs ds m2 k)) (opt_more s ds es m3 l)) (λ u fs. tt)))))

set_asks : (rows : List Row) (a : ℕ) (p : Prov) (c : ℤ) (n : ℕ) (bs : List Item) → Asked rows (memset rows a p c n) bs
set_asks rows a p c n bs =
    with_argument rows n a p (λ t. check_target n t >> (write_numbers (replicate n (low_byte c)) t >> Give (pointer a p))) bs
    (λ t cs m k. bind rows (check_target n t) (λ u. write_numbers (replicate n (low_byte c)) t >> Give (pointer a p)) cs Anything Anything
    (target_asks rows n t cs)
    (λ u ds m2 z. go_on rows (write_numbers (replicate n (low_byte c)) t) (λ u. Give (pointer a p)) ds
    (write_asks rows (replicate n (low_byte c)) t ds (opt_more t cs ds m2 k)) (λ u es. tt)))

cmp_asks : (rows : List Row) (a : ℕ) (p : Prov) (b : ℕ) (q : Prov) (n : ℕ) (bs : List Item) → Asked rows (memcmp rows a p b q n) bs
cmp_asks rows a p b q n bs =
    with_argument rows n a p (λ first. argument rows n b q >>= cmp_two n first) bs
    (λ first cs m k. with_argument rows n b q (cmp_two n first) cs
    (λ second ds m2 l. bind rows (bytes_at n first) (λ xs. read_numbers xs >>= (λ x. bytes_at n second >>= cmp_last x)) ds Anything Anything
    (bytes_at_asks rows n first ds (opt_more first cs ds m2 k))
    (λ xs es m3 z. bind rows (read_numbers xs) (λ x. bytes_at n second >>= cmp_last x) es Anything Anything (numbers_ask rows xs es)
    (λ x fs m4 z. go_on rows (bytes_at n second) (cmp_last x) fs (bytes_at_asks rows n second fs (opt_more second es fs m4 (opt_more second ds es m3 l)))
    (λ ys gs. go_on rows (read_numbers ys) (λ y. Give (number (order_of x y))) gs (numbers_ask rows ys gs) (λ y hs. tt))))))

length_asks : (rows : List Row) (a : ℕ) (p : Prov) (bs : List Item) → Asked rows (strlen rows a p) bs
length_asks rows a p bs =
    go_on rows (text rows a p) (λ s. read_numbers s.bytes >>= (λ ns. Give (number (pos (length s.bytes - 1))))) bs (text_asks rows a p bs)
    (λ s cs. go_on rows (read_numbers s.bytes) (λ ns. Give (number (pos (length s.bytes - 1)))) cs (numbers_ask rows s.bytes cs) (λ ns ds. tt))

strcpy_asks : (rows : List Row) (to : ℕ) (p : Prov) (from : ℕ) (q : Prov) (bs : List Item) → Asked rows (strcpy rows to p from q) bs
strcpy_asks rows to p from q bs =
    go_on rows (text rows from q) (λ s. argument rows (length s.bytes) to p >>= strcpy_two to p from s) bs (text_asks rows from q bs)
    (λ s cs. with_argument rows (length s.bytes) to p (strcpy_two to p from s) cs
    (λ t ds m k. bind rows (read_numbers s.bytes) (strcpy_last to p from s t) ds Anything Anything (numbers_ask rows s.bytes ds)
    (λ ns es m2 z. bind rows (check_target (length s.bytes) t) (λ u. require (not (overlap (length s.bytes) to from)) StrcpyOverlap >>
    (write_numbers ns t >> Give (pointer to p))) es Anything Anything
    (target_asks rows (length s.bytes) t es)
    (λ u fs m3 z. need rows (not (overlap (length s.bytes) to from)) StrcpyOverlap (write_numbers ns t >> Give (pointer to p)) fs Anything
    (go_on rows (write_numbers ns t) (λ u. Give (pointer to p)) fs (write_asks rows ns t fs (opt_more t es fs m3 (opt_more t ds es m2 k))) (λ u gs. tt))))))

strcmp_asks : (rows : List Row) (a : ℕ) (p : Prov) (b : ℕ) (q : Prov) (bs : List Item) → Asked rows (strcmp rows a p b q) bs
strcmp_asks rows a p b q bs =
    go_on rows (text rows a p) (λ s. text rows b q >>= (λ t. read_numbers s.bytes >>= (λ x. read_numbers t.bytes >>= (λ y. Give (number (order_of x y))))))
    bs (text_asks rows a p bs)
    (λ s cs. go_on rows (text rows b q) (λ t. read_numbers s.bytes >>= (λ x. read_numbers t.bytes >>= (λ y. Give (number (order_of x y))))) cs
    (text_asks rows b q cs)
    (λ t ds. go_on rows (read_numbers s.bytes) (λ x. read_numbers t.bytes >>= (λ y. Give (number (order_of x y)))) ds (numbers_ask rows s.bytes ds)
    (λ x es. go_on rows (read_numbers t.bytes) (λ y. Give (number (order_of x y))) es (numbers_ask rows t.bytes es) (λ y fs. tt))))

strchr_asks : (rows : List Row) (a : ℕ) (p : Prov) (c : ℤ) (bs : List Item) → Asked rows (strchr rows a p c) bs
strchr_asks rows a p c bs =
    go_on rows (text rows a p) (λ s. read_numbers s.bytes >>= (λ ns. Give (pointer_behind a p (place_of (low_byte c) 0 ns)))) bs (text_asks rows a p bs)
    (λ s cs. go_on rows (read_numbers s.bytes) (λ ns. Give (pointer_behind a p (place_of (low_byte c) 0 ns))) cs (numbers_ask rows s.bytes cs) (λ ns ds. tt))

puts_asks : (rows : List Row) (a : ℕ) (p : Prov) (bs : List Item) → Asked rows (puts rows a p) bs
puts_asks rows a p bs =
    go_on rows (text rows a p) (λ s. read_numbers s.bytes >>= (λ ns. touch (Print streams.Output (without_zero ns ++ 10 ∷ [])) >> Give (number (pos 1)))) bs
    (text_asks rows a p bs)
    (λ s cs. go_on rows (read_numbers s.bytes) (λ ns. touch (Print streams.Output (without_zero ns ++ 10 ∷ [])) >> Give (number (pos 1))) cs
    (numbers_ask rows s.bytes cs)
    (λ ns ds. λ r. tt))

new_asks : (rows : List Row) (who : Event) (n : ℕ) (bs : List Item) → Asked rows (new_object rows who n) bs
new_asks rows who n bs = create_asks rows (heap_name who) n 16 heap_kind None bs

malloc_asks : (rows : List Row) (who : Event) (n : ℕ) (bs : List Item) → Asked rows (malloc rows who n) bs
malloc_asks rows who n bs =
    when rows (is_given n) (new_object rows who n >>= (λ b. Give (pointer b (prov.Whole (heap_name who))))) (Give null) bs Anything
    (go_on rows (new_object rows who n) (λ b. Give (pointer b (prov.Whole (heap_name who)))) bs (new_asks rows who n bs) (λ b cs. tt)) tt

-- the object was just asked for
just : (x : ObjName) (bs : List Item) → any_of (λ j. asks j x) (Alive x ∷ bs) ≡ true
just x bs = ap (λ b. b || any_of (λ j. asks j x) bs) (same_object_refl x)

calloc_asks : (rows : List Row) (who : Event) (n : ℕ) (bs : List Item) → Asked rows (calloc rows who n) bs
calloc_asks rows who n bs =
    when rows (is_given n) (new_object rows who n >>= calloc_last who n) (Give null) bs Anything
    (go_on rows (new_object rows who n) (calloc_last who n) bs (new_asks rows who n bs) (λ b cs. λ life. (just (heap_name who) cs, (λ r. tt)))) tt

start_asks : (rows : List Row) (p : Prov) (c : Clause) (bs : List Item) → Asked rows (start_object p c) bs
start_asks rows prov.Empty c bs = tt
start_asks rows (prov.Whole x) c bs = tt
start_asks rows (prov.Either id past start) c bs = λ r. tt

free_asks : (rows : List Row) (a : ℕ) (p : Prov) (c : Clause) (bs : List Item) → Asked rows (free rows a p c) bs
free_asks rows zero p c bs = tt
free_asks rows (suc a) p c bs =
    go_on rows (start_object p c) (λ x. touch (Bury x) >>= (λ life. require (is_heap_start (row_of rows x) (suc a) life) c)) bs (start_asks rows p c bs)
    (λ x cs. λ life. needs rows (is_heap_start (row_of rows x) (suc a) life) c (Dies x ∷ cs))

moved_asks : (rows : List Row) (who : Event) (x : ObjName) (n : ℕ) (bs : List Item) → any_of (λ j. asks j x) bs ≡ true → Asked rows (moved rows who x n) bs
moved_asks rows who x n bs k = (
  k,
  (λ ds. go_on rows (new_object rows who n) (moved_last who x ds) (Read x 0 (min (size_in (row_of rows x)) n) ∷ bs)
      (new_asks rows who n (Read x 0 (min (size_in (row_of rows x)) n) ∷ bs))
      (λ b cs. λ life. (just (heap_name who) cs, (λ r. λ old. tt)))),
)

resized_asks : (rows : List Row) (who : Event) (a : ℕ) (p : Prov) (n : ℕ) (bs : List Item) → Asked rows (resized rows who a p n) bs
resized_asks rows who a p n bs =
    go_on rows (start_object p ReallocOfOther) (λ x. touch (Ask x) >>=
    (λ life. require (is_heap_start (row_of rows x) a life) ReallocOfOther >> (if is_given n then moved rows who x n else Give null))) bs
    (start_asks rows p ReallocOfOther bs)
    (λ x cs. λ life. need rows (is_heap_start (row_of rows x) a life) ReallocOfOther (if is_given n then moved rows who x n else Give null) (Alive x ∷ cs)
    Anything
    (when rows (is_given n) (moved rows who x n) (Give null) (Alive x ∷ cs) Anything (moved_asks rows who x n (Alive x ∷ cs) (just x cs)) tt))

realloc_asks : (rows : List Row) (who : Event) (a : ℕ) (p : Prov) (n : ℕ) (bs : List Item) → Asked rows (realloc rows who a p n) bs
realloc_asks rows who zero p n bs = malloc_asks rows who n bs
realloc_asks rows who (suc a) p zero bs = go_on rows (free rows (suc a) p ReallocOfOther) (λ u. Give null) bs (free_asks rows (suc a) p ReallocOfOther bs)
    (λ u cs. tt)
realloc_asks rows who (suc a) p (suc n) bs = resized_asks rows who (suc a) p (suc n) bs

pub scripts_ask : (rows : List Row) (g : LibFunc) (vs : List LibValue) (who : Event) (bs : List Item) → AskedOrEnds rows (scripts.library rows g vs who) bs
scripts_ask rows Malloc vs who bs = inl (malloc_asks rows who (size_of_value (argument_at vs 0)) bs)
scripts_ask rows Calloc vs who bs = inl (calloc_asks rows who (size_of_value (argument_at vs 0) * size_of_value (argument_at vs 1)) bs)
scripts_ask rows Realloc vs who bs = inl (realloc_asks rows who (address_in (argument_at vs 0)) (prov_in (argument_at vs 0))
    (size_of_value (argument_at vs 1)) bs)
scripts_ask rows Free vs who bs =
    inl (go_on rows (free rows (address_in (argument_at vs 0)) (prov_in (argument_at vs 0)) FreeOfOther) (λ u. Give nothing) bs
    (free_asks rows (address_in (argument_at vs 0)) (prov_in (argument_at vs 0)) FreeOfOther bs) (λ u cs. tt))
scripts_ask rows Memcpy vs who bs = inl (move_asks rows false (address_in (argument_at vs 0)) (prov_in (argument_at vs 0)) (address_in (argument_at vs 1))
    (prov_in (argument_at vs 1)) (size_of_value (argument_at vs 2)) bs)
scripts_ask rows Memmove vs who bs = inl (move_asks rows true (address_in (argument_at vs 0)) (prov_in (argument_at vs 0)) (address_in (argument_at vs 1))
    (prov_in (argument_at vs 1)) (size_of_value (argument_at vs 2)) bs)
scripts_ask rows Memset vs who bs = inl (set_asks rows (address_in (argument_at vs 0)) (prov_in (argument_at vs 0)) (integer_in (argument_at vs 1))
    (size_of_value (argument_at vs 2)) bs)
scripts_ask rows Memcmp vs who bs = inl (cmp_asks rows (address_in (argument_at vs 0)) (prov_in (argument_at vs 0)) (address_in (argument_at vs 1))
    (prov_in (argument_at vs 1)) (size_of_value (argument_at vs 2)) bs)
scripts_ask rows Strlen vs who bs = inl (length_asks rows (address_in (argument_at vs 0)) (prov_in (argument_at vs 0)) bs)
scripts_ask rows Strcpy vs who bs = inl (strcpy_asks rows (address_in (argument_at vs 0)) (prov_in (argument_at vs 0)) (address_in (argument_at vs 1))
    (prov_in (argument_at vs 1)) bs)
scripts_ask rows Strcmp vs who bs = inl (strcmp_asks rows (address_in (argument_at vs 0)) (prov_in (argument_at vs 0)) (address_in (argument_at vs 1))
    (prov_in (argument_at vs 1)) bs)
scripts_ask rows Strchr vs who bs = inl (strchr_asks rows (address_in (argument_at vs 0)) (prov_in (argument_at vs 0)) (integer_in (argument_at vs 1)) bs)
scripts_ask rows Getchar vs who bs = inl (λ b. tt)
scripts_ask rows Putchar vs who bs = inl (λ r. tt)
scripts_ask rows Puts vs who bs = inl (puts_asks rows (address_in (argument_at vs 0)) (prov_in (argument_at vs 0)) bs)
scripts_ask rows Printf vs who bs = inl tt
scripts_ask rows Fprintf vs who bs = inl tt
scripts_ask rows Sprintf vs who bs = inl tt
scripts_ask rows Snprintf vs who bs = inl tt
scripts_ask rows Exit vs who bs = inr (low_byte (integer_in (argument_at vs 0)), refl)
scripts_ask rows Abort vs who bs = inr (134, refl)
