-- Lemmas on what calls answer.
use Rattle.std.proofs.Common.{◌≡◌, ℕ, ◌≤◌, Bool, true, false, ◌&&◌, List, [], ◌∷◌, refl, sym, subst, ◌∙◌}
use Rattle.std.specs.Prelude.{Result, Ok, Err, IsTrue, ◌^◌}
use Rattle.std.proofs.lemmas.Bool.{le-ltb}
use Rattle.std.proofs.lemmas.List.{append-nil}
use Rattle.ub_base.specs.declared.clause.Clause.{Clause}
use Rattle.ub_base.specs.declared.clause.Clause.TheVariants.{Free as FreeOfOther}
use Rattle.ub_base.specs.declared.names.Item.{Item}
use Rattle.ub_base.specs.declared.names.Event.{Event}
use Rattle.addr_map.specs.declared.map.Row.{Row}
use Rattle.exposure.specs.declared.prov.Prov.{Prov}
use Rattle.exposure.specs.declared.prov.Prov.TheVariants.{Empty}
use Rattle.c_types.specs.declared.library.LibFunc.{LibFunc}
use Rattle.c_types.specs.declared.library.LibFunc.TheVariants.{Malloc, Calloc, Realloc, Free}
use Rattle.mem_objects.specs.declared.value.Value.{Value}
use Rattle.mem_objects.specs.declared.value.Value.TheVariants.{Nothing}
use Rattle.mem_objects.specs.declared.answer.LibAnswer.{LibAnswer}
use Rattle.mem_objects.specs.declared.answer.LibAnswer.TheVariants as answers
use Rattle.mem_spec.specs.Store.{Store}
use Rattle.mem_spec.specs.Script.{Act, Done, Raised, Outside, Unplaced, Give, ◌>>◌, run}
use Rattle.mem_spec.specs.Streams.{Io, total}
use Rattle.mem_objects.specs.Memory.{Kept, HasCell}
use Rattle.libc_spec.specs.Library.{
  LibValue,
  pointer,
  nothing,
  free,
  malloc,
  calloc,
  library,
  asked,
  argument_at,
  pointer_in,
  address_in,
  prov_in,
  integer_in,
  size_of_value,
  output_within,
  created_within,
  called,
}
use Rattle.libc_arguments.specs.Answers.{Does, Answers, IsCall, HaveCells, are_sizes, given_value, answer_in, is_size}
use Rattle.libc_arguments.proofs.Scripts.{then, run_then, behind_done}

output_kept : (v : LibValue) (is : List Item) (s : Store) → total s.output ≤ 2 ^ 24 → output_within (Done v is s) ≡ Done v is s
output_kept v is s h = rw (le-ltb (2 ^ 24) (total s.output) h) refl

-- a value by the act that gives it
answers_done : (v : Value) (w : LibValue) (is js : List Item) (s u : Store) (act : Act LibValue) → act ≡ Done w js u → v ≡ given_value w → is ≡ js → s ≡ u →
    Answers (answers.Value v) is s act
answers_done v w is js s u act e value items store = subst (λ (act : Act LibValue). Answers (answers.Value v) is s act) (sym e) (value, items, store)

-- a part of a call whose streams stay within their limits is the call
pub answers_of : (r : Result Value LibAnswer) (is : List Item) (t : Store) (act : Act LibValue) → total t.output ≤ 2 ^ 24 →
    Does given_value r is t act → Answers (answer_in r) is t (output_within act)
answers_of (Ok v) is t (Done w js u) o h =
    let l : total u.output ≤ 2 ^ 24 = subst (λ (s : Store). total s.output ≤ 2 ^ 24) h.2 o in
    answers_done v w is js t u (output_within (Done w js u)) (output_kept w js u l) h.0 h.1 h.2
answers_of (Err answers.NoMemory) is t act o h = tt
answers_of (Err (answers.Raise c)) is t (Raised d) o h = h
answers_of (Err (answers.Outside c n)) is t (Outside d k) o h = h
answers_of (Err answers.Unplaced) is t Unplaced o h = tt
answers_of r is t act o h = absurd h

-- ---- free
freed : (s t : Store) (is : List Item) (act : Act (Unit {0})) → Does (λ u. u) (Ok tt) is t act →
    Does given_value (Ok Nothing) is t (created_within 0 s (then act (λ v u. Done nothing [] u)))
freed s t is (Done v js u) h =
    subst (λ (act : Act LibValue). Does given_value (Ok Nothing) is t (created_within 0 s act)) (sym (behind_done js [] nothing u))
    (refl, h.1 ∙ sym (append-nil js), h.2)
freed s t is act h = absurd h

not_freed : (s t : Store) (is : List Item) (a : LibAnswer) (act : Act (Unit {0})) → Does {A = Unit {0}} (λ u. u) (Err a) is t act →
    Does given_value (Err a) is t (created_within 0 s (then act (λ v u. Done nothing [] u)))
not_freed s t is answers.NoMemory act h = tt
not_freed s t is (answers.Raise c) (Raised d) h = h
not_freed s t is (answers.Outside c n) (Outside d k) h = h
not_freed s t is answers.Unplaced Unplaced h = tt
not_freed s t is a act h = absurd h

pub freed_by : (rows : List Row) (a : ℕ) (prov : Prov) (c : Clause) (s t : Store) (is : List Item) →
    Does (λ u. u) (Ok tt) is t (run rows (free rows a prov c) s) →
    Does given_value (Ok Nothing) is t (created_within 0 s (run rows (free rows a prov c >> Give nothing) s))
freed_by rows a prov c s t is h =
    subst (λ (act : Act LibValue). Does given_value (Ok Nothing) is t (created_within 0 s act))
    (sym (run_then rows (free rows a prov c) (λ v. Give nothing) s)) (freed s t is (run rows (free rows a prov c) s) h)

pub not_freed_by : (rows : List Row) (a : ℕ) (prov : Prov) (c : Clause) (s t : Store) (is : List Item) (r : LibAnswer) →
    Does {A = Unit {0}} (λ u. u) (Err r) is t (run rows (free rows a prov c) s) →
    Does given_value (Err r) is t (created_within 0 s (run rows (free rows a prov c >> Give nothing) s))
not_freed_by rows a prov c s t is r h =
    subst (λ (act : Act LibValue). Does given_value (Err r) is t (created_within 0 s act)) (sym (run_then rows (free rows a prov c) (λ v. Give nothing) s))
    (not_freed s t is r (run rows (free rows a prov c) s) h)

-- ---- calls
pub malloc_called : (rows : List Row) (vs : List LibValue) (who : Event) (n : ℕ) (s t : Store) (r : Result Value LibAnswer) (is : List Item) →
    total t.output ≤ 2 ^ 24 → n ≡ size_of_value (argument_at vs 0) →
    Does given_value r is t (created_within n s (run rows (malloc rows who n) s)) → Answers (answer_in r) is t (called rows Malloc vs who s)
malloc_called rows vs who n s t r is o size h =
    answers_of r is t (created_within (size_of_value (argument_at vs 0)) s (run rows (malloc rows who (size_of_value (argument_at vs 0))) s)) o
    (subst (λ (n : ℕ). Does given_value r is t (created_within n s (run rows (malloc rows who n) s))) size h)

pub address_is : (a b : ℕ) (p q : Prov) → pointer a p ≡ pointer b q → (a ≡ b) × (p ≡ q)
address_is a b p q e = (cc, cc)

pub free_called : (rows : List Row) (vs : List LibValue) (who : Event) (a : ℕ) (p : Prov) (s t : Store) (is : List Item) → total t.output ≤ 2 ^ 24 →
    pointer a p ≡ pointer_in (argument_at vs 0) →
    Does (λ u. u) (Ok tt) is t (run rows (free rows a p FreeOfOther) s) → Answers (answers.Value Nothing) is t (called rows Free vs who s)
free_called rows vs who a p s t is out same h =
    let q = address_is a (address_in (argument_at vs 0)) p (prov_in (argument_at vs 0)) same in
    answers_of (Ok Nothing) is t (created_within 0 s
    (run rows (free rows (address_in (argument_at vs 0)) (prov_in (argument_at vs 0)) FreeOfOther >> Give nothing) s)) out
    (freed_by rows (address_in (argument_at vs 0)) (prov_in (argument_at vs 0)) FreeOfOther s t is
    (subst (λ (a : ℕ). Does (λ u. u) (Ok tt) is t (run rows (free rows a (prov_in (argument_at vs 0)) FreeOfOther) s)) q.0
    (subst (λ (p : Prov). Does (λ u. u) (Ok tt) is t (run rows (free rows a p FreeOfOther) s)) q.1 h)))

pub free_refused : (rows : List Row) (vs : List LibValue) (who : Event) (a : ℕ) (p : Prov) (s t : Store) (is : List Item) (r : LibAnswer) →
    total t.output ≤ 2 ^ 24 → pointer a p ≡ pointer_in (argument_at vs 0) →
    Does {A = Unit {0}} {B = Unit {0}} (λ u. u) (Err r) is t (run rows (free rows a p FreeOfOther) s) → Answers r is t (called rows Free vs who s)
free_refused rows vs who a p s t is r out same h =
    let q = address_is a (address_in (argument_at vs 0)) p (prov_in (argument_at vs 0)) same in
    answers_of (Err r) is t (created_within 0 s
    (run rows (free rows (address_in (argument_at vs 0)) (prov_in (argument_at vs 0)) FreeOfOther >> Give nothing) s)) out
    (not_freed_by rows (address_in (argument_at vs 0)) (prov_in (argument_at vs 0)) FreeOfOther s t is r
    (subst (λ (a : ℕ). Does {A = Unit {0}} {B = Unit {0}} (λ u. u) (Err r) is t (run rows (free rows a (prov_in (argument_at vs 0)) FreeOfOther) s)) q.0
    (subst (λ (p : Prov). Does {A = Unit {0}} {B = Unit {0}} (λ u. u) (Err r) is t (run rows (free rows a p FreeOfOther) s)) q.1 h)))

-- the first pointer's ambiguity is one of the memory
pub first_cell : (m : Kept) (vs : List LibValue) (a : ℕ) (p : Prov) → HaveCells m vs → pointer a p ≡ pointer_in (argument_at vs 0) → HasCell m p
first_cell m [] a p have e = subst (λ (q : Prov). HasCell m q) (sym (address_is a 0 p Empty e).1) tt
first_cell m (v ∷ vs) a p have e = subst (λ (q : Prov). HasCell m q) (sym (address_is a (address_in v) p (prov_in v) e).1) have.0

size_there : (b : Bool) → b && true ≡ true → IsTrue b
size_there true e = refl
size_there false e = absurd (cc)

pub first_size : (vs : List LibValue) → are_sizes vs (0 ∷ []) ≡ true → IsTrue (is_size (integer_in (argument_at vs 0)))
first_size vs e = size_there (is_size (integer_in (argument_at vs 0))) e

-- the one size among the arguments has 64 bits
pub one_size : (vs : List LibValue) (i : ℕ) → are_sizes vs (i ∷ []) ≡ true → IsTrue (is_size (integer_in (argument_at vs i)))
one_size vs i e = size_there (is_size (integer_in (argument_at vs i))) e

-- what holds of a call of a function holds where the function is known to be it
pub arm : (f g : LibFunc) (rows : List Row) (vs : List LibValue) (who : Event) (m : Kept) (io : Io) (a : LibAnswer) (is : List Item) (s u : Store) → f ≡ g →
    (IsCall g vs m io → Answers a is s (called rows g vs who u)) → IsCall f vs m io → Answers a is s (called rows f vs who u)
arm f g rows vs who m io a is s u e h = subst (λ (k : LibFunc). IsCall k vs m io → Answers a is s (called rows k vs who u)) (sym e) h

-- a calloc whose streams stay within their limits is the call
pub calloc_called : (rows : List Row) (vs : List LibValue) (who : Event) (s t : Store) (r : Result Value LibAnswer) (is : List Item) →
    total t.output ≤ 2 ^ 24 →
    Does given_value r is t (created_within (asked Calloc vs) s (run rows (calloc rows who (asked Calloc vs)) s)) →
    Answers (answer_in r) is t (called rows Calloc vs who s)
calloc_called rows vs who s t r is o h = answers_of r is t (created_within (asked Calloc vs) s (run rows (calloc rows who (asked Calloc vs)) s)) o h

-- the same of a realloc
pub realloc_called : (rows : List Row) (vs : List LibValue) (who : Event) (s t : Store) (r : Result Value LibAnswer) (is : List Item) →
    total t.output ≤ 2 ^ 24 →
    Does given_value r is t (created_within (asked Realloc vs) s (run rows (library rows Realloc vs who) s)) →
    Answers (answer_in r) is t (called rows Realloc vs who s)
realloc_called rows vs who s t r is o h = answers_of r is t (created_within (asked Realloc vs) s (run rows (library rows Realloc vs who) s)) o h

-- the first pointer's ambiguity, where it is null for want of an argument too
pub first_has : (m : Kept) (vs : List LibValue) → HaveCells m vs → HasCell m (prov_in (argument_at vs 0))
first_has m [] have = tt
first_has m (v ∷ vs) have = have.0
