-- Lemmas on what a call keeps where it gives a value, and that the value was made in the memory after it.
use Rattle.std.proofs.Common.{◌≡◌, ℕ, zero, suc, Bool, true, false, cond, ◌&&◌, List, [], ◌∷◌, length, map, sym, subst, Option, Some, None, arith}
use Rattle.std.specs.Prelude.{◌^◌, nat_lt, not, ◌||◌, replicate, Result, Ok, Err, IfOk, ℤ}
use Rattle.ub_base.specs.declared.clause.Clause.TheVariants.{MemcpyOverlap, StrcpyOverlap, Free as FreeOfOther}
use Rattle.ub_base.specs.declared.names.Event.{Event}
use Rattle.ub_base.specs.declared.names.Item.{Item}
use Rattle.addr_map.specs.declared.map.Row.{Row}
use Rattle.exposure.specs.declared.prov.Prov.{Prov}
use Rattle.c_types.specs.declared.library.LibFunc.{LibFunc}
use Rattle.c_types.specs.declared.library.LibFunc.TheVariants.{
  Malloc,
  Calloc,
  Realloc,
  Free,
  Memcpy,
  Memmove,
  Memset,
  Memcmp,
  Strlen,
  Strcpy,
  Strcmp,
  Strchr,
  Getchar,
  Putchar,
  Puts,
  Printf,
  Fprintf,
  Sprintf,
  Snprintf,
  Exit,
  Abort,
}
use Rattle.mem_spec.specs.Streams.{total}
use Rattle.mem_spec.specs.Store.{Store}
use Rattle.mem_spec.specs.Script.{Touch, Ask, Get, Put, Bear, Bury, Show, Find, Settle, Take, Print, item_of, refuses, refused, Answer, answer, left, Script}
use Rattle.mem_spec.specs.Script.{Give, Raise, Finish, Exceed, Misplace, Do, require, ◌>>=◌, Act, Done, Raised, Ended, Outside, Unplaced, touched, run}
use Rattle.mem_spec.specs.Acts.{argument, copy_between}
use Rattle.mem_objects.specs.declared.cell.Cell.{Cell}
use Rattle.mem_objects.specs.declared.value.Value.{Value}
use Rattle.mem_objects.specs.declared.value.Value.TheVariants.{Ptr}
use Rattle.mem_objects.specs.declared.answer.LibAnswer.{LibAnswer}
use Rattle.mem_objects.specs.declared.answer.LibAnswer.TheVariants as answers
use Rattle.mem_objects.specs.Cells.{plain_cell}
use Rattle.mem_objects.specs.Keeps.{Keeps}
use Rattle.mem_objects.specs.Made.{IsMade}
use Rattle.mem_objects.specs.Memory.{Kept, CellsKnown}
use Rattle.mem_objects.specs.Pieces.{IsMadeValue}
use Rattle.mem_objects.specs.Tags.{CellsTagged}
use Rattle.libc_spec.specs.Library as lib
use Rattle.libc_spec.specs.Library.{
  LibValue,
  number,
  pointer,
  nothing,
  null,
  Text,
  argument_at,
  address_in,
  prov_in,
  integer_in,
  size_of_value,
  low_byte,
  text,
  read_numbers,
  bytes_at,
  check_target,
  write_numbers,
  overlap,
  order_of,
  place_of,
  pointer_behind,
  byte_or_end,
  without_zero,
  library,
  reads_strings,
  in_ranges,
  noted,
  asked,
  is_given,
  created_with,
  created_within,
  output_within,
  called,
}
use Rattle.libc_arguments.specs.Answers.{Does, Answers, ArgumentsMade, GivesMade, allocates, answer_in, given_value}
use Rattle.libc_arguments.proofs.Writing.{plain_known}
use Rattle.prov_memory.proofs.KeepLemmas.{keeps_then}

-- ---- plain bytes name no provenance and no type
plain_tags : (k : ℕ) (ns : List ℕ) → CellsTagged k (map plain_cell ns)
plain_tags k [] = tt
plain_tags k (n ∷ ns) = (omega arith, plain_tags k ns)

pub plain_kept : (m new : Kept) (cs : List Cell) (ns : List ℕ) → cs ≡ map plain_cell ns →
    (CellsKnown (length m.origins) cs → CellsTagged (length m.types) cs → Keeps m new) → Keeps m new
plain_kept m new cs ns plain keeps =
    keeps (subst (λ (ks : List Cell). CellsKnown (length m.origins) ks) (sym plain) (plain_known (length m.origins) ns))
    (subst (λ (ks : List Cell). CellsTagged (length m.types) ks) (sym plain) (plain_tags (length m.types) ns))

-- ---- the values of a script, whatever its touches give
abbrev pub Only : {V : Type 0} → (V → Type 0) → Script V → Type 0
Only P (Give v) = P v
Only P (Do t k) = (a : Answer t) → Only P (k a)
Only P script = Unit {0}

pub only_then : {A B : Type 0} (P : B → Type 0) (p : Script A) (k : A → Script B) → ((v : A) → Only P (k v)) → Only P (p >>= k)
only_then P (Give v) k h = h v
only_then P (Raise c) k h = tt
only_then P (Finish n) k h = tt
only_then P (Exceed c n) k h = tt
only_then P Misplace k h = tt
only_then P (Do t g) k h = λ a. only_then P (g a) k h

-- the value of an act, if it gives one
abbrev pub OnDone : {V : Type 0} → (V → Type 0) → Act V → Type 0
OnDone P (Done v is s) = P v
OnDone P act = Unit {0}

refused_none : {V : Type 0} (P : V → Type 0) (t : Touch) → OnDone P (refused {V = V} t)
refused_none P (Ask x) = tt
refused_none P (Get x a n) = tt
refused_none P (Put x a bs) = tt
refused_none P (Bear x n kind declared) = tt
refused_none P (Bury x) = tt
refused_none P (Show x) = tt
refused_none P (Find a) = tt
refused_none P (Settle id x c) = tt
refused_none P Take = tt
refused_none P (Print to bs) = tt

touched_done : {V : Type 0} (P : V → Type 0) (i : Item) (act : Act V) → OnDone P act → OnDone P (touched i act)
touched_done P i (Done v is s) h = h
touched_done P i (Raised c) h = tt
touched_done P i (Ended n is s) h = tt
touched_done P i (Outside c n) h = tt
touched_done P i Unplaced h = tt

step_done : {V : Type 0} (P : V → Type 0) (b : Bool) (t : Touch) (i : Item) (act : Act V) → OnDone P act →
    OnDone P (cond b (refused t) (touched i act))
step_done P true t i act h = refused_none P t
step_done P false t i act h = touched_done P i act h

pub only_run : {V : Type 0} (P : V → Type 0) (rows : List Row) (p : Script V) (s : Store) → Only P p → OnDone P (run rows p s)
only_run P rows (Give v) s h = h
only_run P rows (Raise c) s h = tt
only_run P rows (Finish n) s h = tt
only_run P rows (Exceed c n) s h = tt
only_run P rows Misplace s h = tt
only_run P rows (Do t k) s h =
    step_done P (refuses t s) t (item_of t) (run rows (k (answer rows t s)) (left t s))
    (only_run P rows (k (answer rows t s)) (left t s) (h (answer rows t s)))

-- ---- limits
pub ranges_done : (P : LibValue → Type 0) (act : Act LibValue) → OnDone P act → OnDone P (in_ranges act)
ranges_done P (Done v is s) h = h
ranges_done P (Raised c) h = tt
ranges_done P (Ended n is s) h = tt
ranges_done P (Outside c n) h = tt
ranges_done P Unplaced h = tt

noted_done : (P : LibValue → Type 0) (b : Bool) (act : Act LibValue) → OnDone P act → OnDone P (cond b (in_ranges act) act)
noted_done P true act h = ranges_done P act h
noted_done P false act h = h

limit_done : (P : LibValue → Type 0) (b : Bool) (act past : Act LibValue) → OnDone P past → OnDone P act → OnDone P (cond b past act)
limit_done P true act past p h = p
limit_done P false act past p h = h

created_done : (P : LibValue → Type 0) (n : ℕ) (s : Store) (act : Act LibValue) → OnDone P act → OnDone P (created_within n s act)
created_done P n s (Raised c) h = tt
created_done P n s (Done v is u) h = limit_done P (is_given n && nat_lt (2 ^ 26) (created_with s n)) (Done v is u) _ tt h
created_done P n s (Ended k is u) h = limit_done P (is_given n && nat_lt (2 ^ 26) (created_with s n)) (Ended k is u) _ tt tt
created_done P n s (Outside c k) h = limit_done P (is_given n && nat_lt (2 ^ 26) (created_with s n)) (Outside c k) _ tt tt
created_done P n s Unplaced h = limit_done P (is_given n && nat_lt (2 ^ 26) (created_with s n)) Unplaced _ tt tt

pub output_done : (P : LibValue → Type 0) (act : Act LibValue) → OnDone P act → OnDone P (output_within act)
output_done P (Done v is s) h = limit_done P (nat_lt (2 ^ 24) (total s.output)) (Done v is s) _ tt h
output_done P (Raised c) h = tt
output_done P (Ended n is s) h = tt
output_done P (Outside c n) h = tt
output_done P Unplaced h = tt

-- ---- values that were made
abbrev pub Made : Kept → LibValue → Type 0
Made m v = IsMade m (prov_in v)

given_made : (m : Kept) (w : LibValue) → Made m w → IsMadeValue m (given_value w)
given_made m (number n) h = tt
given_made m (pointer a p) h = h
given_made m nothing h = tt

pub answers_made : (m : Kept) (a : LibAnswer) (is : List Item) (s : Store) (act : Act LibValue) → Answers a is s act → OnDone (Made m) act → GivesMade m a
answers_made m (answers.Value v) is s (Done w js u) h made = subst (λ (x : Value). IsMadeValue m x) (sym h.0) (given_made m w made)
answers_made m (answers.Value v) is s act h made = absurd h
answers_made m answer is s act h made = tt

-- a value of a part of a call that allocates
pub does_made : (m : Kept) (r : Result Value LibAnswer) (is : List Item) (s : Store) (act : Act LibValue) → Does given_value r is s act →
    IfOk r (IsMadeValue m) → GivesMade m (answer_in r)
does_made m (Ok v) is s act h made = made
does_made m (Err (answers.Value v)) is s act h made = absurd h
does_made m (Err answer) is s act h made = tt

pub arguments_kept : (m new : Kept) (vs : List LibValue) → Keeps m new → ArgumentsMade m vs → ArgumentsMade new vs
arguments_kept m new [] keeps made = tt
arguments_kept m new (v ∷ vs) keeps made = (keeps.made (prov_in v) made.0, arguments_kept m new vs keeps made.1)

argument_made : (m : Kept) (vs : List LibValue) (i : ℕ) → ArgumentsMade m vs → Made m (argument_at vs i)
argument_made m [] i made = tt
argument_made m (v ∷ vs) zero made = made.0
argument_made m (v ∷ vs) (suc i) made = argument_made m vs i made.1

memmove_made : (m : Kept) (rows : List Row) (may : Bool) (to from n : ℕ) (p q : Prov) → IsMade m p → Only (Made m) (lib.memmove rows may to p from q n)
memmove_made m rows may to from n p q made =
    only_then (Made m) (argument rows n to p) _ (λ target.
    only_then (Made m) (argument rows n from q) _ (λ source.
    only_then (Made m) (check_target n target) _ (λ u.
    only_then (Made m) (require (may || not (overlap n to from)) MemcpyOverlap) _ (λ w.
    only_then (Made m) (copy_between n target source) _ (λ x. made)))))

memset_made : (m : Kept) (rows : List Row) (a n : ℕ) (p : Prov) (c : ℤ) → IsMade m p → Only (Made m) (lib.memset rows a p c n)
memset_made m rows a n p c made =
    only_then (Made m) (argument rows n a p) _ (λ target.
    only_then (Made m) (check_target n target) _ (λ u.
    only_then (Made m) (write_numbers (replicate n (low_byte c)) target) _ (λ w. made)))

memcmp_made : (m : Kept) (rows : List Row) (a b n : ℕ) (p q : Prov) → Only (Made m) (lib.memcmp rows a p b q n)
memcmp_made m rows a b n p q =
    only_then (Made m) (argument rows n a p) _ (λ first.
    only_then (Made m) (argument rows n b q) _ (λ second.
    only_then (Made m) (bytes_at n first) _ (λ xs.
    only_then (Made m) (read_numbers xs) _ (λ x.
    only_then (Made m) (bytes_at n second) _ (λ ys.
    only_then (Made m) (read_numbers ys) _ (λ y. tt))))))

strlen_made : (m : Kept) (rows : List Row) (a : ℕ) (p : Prov) → Only (Made m) (lib.strlen rows a p)
strlen_made m rows a p = only_then (Made m) (text rows a p) _ (λ s. only_then (Made m) (read_numbers s.bytes) _ (λ ns. tt))

strcpy_made : (m : Kept) (rows : List Row) (to from : ℕ) (p q : Prov) → IsMade m p → Only (Made m) (lib.strcpy rows to p from q)
strcpy_made m rows to from p q made =
    only_then (Made m) (text rows from q) _ (λ source.
    only_then (Made m) (argument rows (length source.bytes) to p) _ (λ target.
    only_then (Made m) (read_numbers source.bytes) _ (λ ns.
    only_then (Made m) (check_target (length source.bytes) target) _ (λ u.
    only_then (Made m) (require (not (overlap (length source.bytes) to from)) StrcpyOverlap) _ (λ w.
    only_then (Made m) (write_numbers ns target) _ (λ x. made))))))

strcmp_made : (m : Kept) (rows : List Row) (a b : ℕ) (p q : Prov) → Only (Made m) (lib.strcmp rows a p b q)
strcmp_made m rows a b p q =
    only_then (Made m) (text rows a p) _ (λ first.
    only_then (Made m) (text rows b q) _ (λ second.
    only_then (Made m) (read_numbers first.bytes) _ (λ x.
    only_then (Made m) (read_numbers second.bytes) _ (λ y. tt))))

behind_made : (m : Kept) (a : ℕ) (p : Prov) (i : Option ℕ) → IsMade m p → Made m (pointer_behind a p i)
behind_made m a p None made = tt
behind_made m a p (Some i) made = made

strchr_made : (m : Kept) (rows : List Row) (a : ℕ) (p : Prov) (c : ℤ) → IsMade m p → Only (Made m) (lib.strchr rows a p c)
strchr_made m rows a p c made =
    only_then (Made m) (text rows a p) _ (λ s.
    only_then (Made m) (read_numbers s.bytes) _ (λ ns. behind_made m a p (place_of (low_byte c) 0 ns) made))

byte_made : (m : Kept) (b : Option ℕ) → Made m (byte_or_end b)
byte_made m None = tt
byte_made m (Some b) = tt

puts_made : (m : Kept) (rows : List Row) (a : ℕ) (p : Prov) → Only (Made m) (lib.puts rows a p)
puts_made m rows a p = only_then (Made m) (text rows a p) _ (λ s. only_then (Made m) (read_numbers s.bytes) _ (λ ns. λ u. tt))

-- a function that allocates nothing gives a number, nothing, null, or a pointer with the provenance of its first argument
library_made : (m : Kept) (rows : List Row) (f : LibFunc) (vs : List LibValue) (who : Event) → allocates f ≡ false → ArgumentsMade m vs →
    Only (Made m) (library rows f vs who)
library_made m rows Malloc vs who e made = absurd (cc)
library_made m rows Calloc vs who e made = absurd (cc)
library_made m rows Realloc vs who e made = absurd (cc)
library_made m rows Free vs who e made =
    only_then (Made m) (lib.free rows (address_in (argument_at vs 0)) (prov_in (argument_at vs 0)) FreeOfOther) (λ u. Give nothing) (λ u. tt)
library_made m rows Memcpy vs who e made =
    memmove_made m rows false (address_in (argument_at vs 0)) (address_in (argument_at vs 1)) (size_of_value (argument_at vs 2))
    (prov_in (argument_at vs 0)) (prov_in (argument_at vs 1)) (argument_made m vs 0 made)
library_made m rows Memmove vs who e made =
    memmove_made m rows true (address_in (argument_at vs 0)) (address_in (argument_at vs 1)) (size_of_value (argument_at vs 2))
    (prov_in (argument_at vs 0)) (prov_in (argument_at vs 1)) (argument_made m vs 0 made)
library_made m rows Memset vs who e made =
    memset_made m rows (address_in (argument_at vs 0)) (size_of_value (argument_at vs 2)) (prov_in (argument_at vs 0)) (integer_in (argument_at vs 1))
    (argument_made m vs 0 made)
library_made m rows Memcmp vs who e made =
    memcmp_made m rows (address_in (argument_at vs 0)) (address_in (argument_at vs 1)) (size_of_value (argument_at vs 2)) (prov_in (argument_at vs 0))
    (prov_in (argument_at vs 1))
library_made m rows Strlen vs who e made = strlen_made m rows (address_in (argument_at vs 0)) (prov_in (argument_at vs 0))
library_made m rows Strcpy vs who e made =
    strcpy_made m rows (address_in (argument_at vs 0)) (address_in (argument_at vs 1)) (prov_in (argument_at vs 0)) (prov_in (argument_at vs 1))
    (argument_made m vs 0 made)
library_made m rows Strcmp vs who e made =
    strcmp_made m rows (address_in (argument_at vs 0)) (address_in (argument_at vs 1)) (prov_in (argument_at vs 0)) (prov_in (argument_at vs 1))
library_made m rows Strchr vs who e made =
    strchr_made m rows (address_in (argument_at vs 0)) (prov_in (argument_at vs 0)) (integer_in (argument_at vs 1)) (argument_made m vs 0 made)
library_made m rows Getchar vs who e made = λ b. byte_made m b
library_made m rows Putchar vs who e made = λ u. tt
library_made m rows Puts vs who e made = puts_made m rows (address_in (argument_at vs 0)) (prov_in (argument_at vs 0))
library_made m rows Printf vs who e made = tt
library_made m rows Fprintf vs who e made = tt
library_made m rows Sprintf vs who e made = tt
library_made m rows Snprintf vs who e made = tt
library_made m rows Exit vs who e made = tt
library_made m rows Abort vs who e made = tt

called_done : (m : Kept) (rows : List Row) (f : LibFunc) (vs : List LibValue) (who : Event) (s : Store) → allocates f ≡ false → ArgumentsMade m vs →
    OnDone (Made m) (called rows f vs who s)
called_done m rows f vs who s e made =
    let act : Act LibValue = run rows (library rows f vs who) s in
    output_done (Made m) (created_within (asked f vs) s (noted f act)) (created_done (Made m) (asked f vs) s (noted f act)
    (noted_done (Made m) (reads_strings f) act (only_run (Made m) rows (library rows f vs who) s (library_made m rows f vs who e made))))

-- ---- the value of a call
pub value_made : (b : Bool) (m new : Kept) (f : LibFunc) (vs : List LibValue) (who : Event) (a : LibAnswer) (is : List Item) (s u : Store) →
    b ≡ allocates f → (allocates f ≡ true → GivesMade new a) → Answers a is u (called new.rows f vs who s) → Keeps m new → ArgumentsMade m vs →
    GivesMade new a
value_made true m new f vs who a is s u e allocated answers keeps made = allocated (sym e)
value_made false m new f vs who a is s u e allocated answers keeps made =
    answers_made new a is u (called new.rows f vs who s) answers
    (called_done new new.rows f vs who s (sym e) (arguments_kept m new vs keeps made))

-- ---- one step after the other
pub keeps_three : (a b c d : Kept) → Keeps a b → Keeps b c → Keeps c d → Keeps a d
keeps_three a b c d h g f = keeps_then a b d h (keeps_then b c d g f)

pub keeps_four : (a b c d e : Kept) → Keeps a b → Keeps b c → Keeps c d → Keeps d e → Keeps a e
keeps_four a b c d e h g f k = keeps_then a b e h (keeps_three b c d e g f k)

-- a pointer as a value
pub pointer_made : (m : Kept) (v : Value) (a : ℕ) (p : Prov) → v ≡ Ptr a p → IsMade m p → IsMadeValue m v
pointer_made m v a p e made = subst (λ (x : Value). IsMadeValue m x) (sym e) made
