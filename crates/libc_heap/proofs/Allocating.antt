-- Lemmas on allocation.
use Rattle.std.proofs.Common.{◌≡◌, ℕ, Bool, true, false, cond, List, [], ◌++◌, refl, ap, sym, subst, ◌∙◌, Some, None}
use Rattle.std.specs.Prelude.{Result, Ok, Err, nat_lt, ◌^◌}
use Rattle.std.proofs.lemmas.List.{append-nil}
use Rattle.ub_base.specs.declared.names.Item.{Item}
use Rattle.ub_base.specs.declared.names.Event.{Event}
use Rattle.ub_base.specs.declared.names.ObjName.{ObjName}
use Rattle.addr_map.specs.declared.map.Row.{Row}
use Rattle.exposure.specs.declared.prov.Prov.TheVariants.{Whole}
use Rattle.mem_objects.specs.declared.value.Value.TheVariants.{Ptr}
use Rattle.mem_objects.specs.declared.answer.LibAnswer.{LibAnswer}
use Rattle.mem_objects.specs.declared.answer.LibAnswer.TheVariants as answers
use Rattle.mem_spec.specs.Store.{Store}
use Rattle.mem_spec.specs.Script.{Act, Done, Raised, Ended, Outside, Unplaced, Give, run}
use Rattle.mem_spec.specs.Acts.{create}
use Rattle.libc_spec.specs.Library.{LibValue, pointer, is_given, heap_name, heap_kind, new_object, malloc, created_with, created_within}
use Rattle.libc_arguments.specs.declared.arguments.Pointer.{Pointer}
use Rattle.libc_arguments.specs.Answers.{Does, given_value}
use Rattle.libc_arguments.proofs.Scripts.{then, behind, run_then, behind_done}

pub does_same : {A B : Type 0} (f : B → A) (r : Result A LibAnswer) (is : List Item) (s : Store) (act other : Act B) → act ≡ other → Does f r is s other →
    Does f r is s act
does_same {A = A} {B = B} f r is s act other e h = subst (λ (act : Act B). Does f r is s act) (sym e) h

-- a new object as a value
abbrev pub based : ObjName → ℕ → Pointer
based x base = record { addr = base; prov = Whole x }

pub created_done : (x : ObjName) (b : ℕ) (is : List Item) (s : Store) (act : Act ℕ) → act ≡ Done b is s → Does (based x) (Ok (based x b)) is s act
created_done x b is s act e = does_same (based x) (Ok (based x b)) is s act (Done b is s) e (refl, refl, refl)

malloc_then : (rows : List Row) (who : Event) (n : ℕ) (s : Store) → is_given n ≡ true →
    run rows (malloc rows who n) s ≡ then (run rows (new_object rows who n) s) (λ base u. Done (pointer base (Whole (heap_name who))) [] u)
malloc_then rows who n s e = rw e (run_then rows (new_object rows who n) (λ base. Give (pointer base (Whole (heap_name who)))) s)

pub limit_kept : (n : ℕ) (s : Store) (act : Act LibValue) → is_given n ≡ true → nat_lt (2 ^ 26) (created_with s n) ≡ false → created_within n s act ≡ act
limit_kept n s (Raised c) e h = refl
limit_kept n s (Done v is u) e h = rw (e, h) refl
limit_kept n s (Ended k is u) e h = rw (e, h) refl
limit_kept n s (Outside c k) e h = rw (e, h) refl
limit_kept n s Unplaced e h = rw (e, h) refl

malloc_is : (rows : List Row) (who : Event) (n : ℕ) (s : Store) → is_given n ≡ true → nat_lt (2 ^ 26) (created_with s n) ≡ false →
    created_within n s (run rows (malloc rows who n) s) ≡ then (run rows (new_object rows who n) s)
    (λ base u. Done (pointer base (Whole (heap_name who))) [] u)
malloc_is rows who n s e h = limit_kept n s (run rows (malloc rows who n) s) e h ∙ malloc_then rows who n s e

value_then : (x : ObjName) (p : Pointer) (is : List Item) (t : Store) (act : Act ℕ) → Does (based x) (Ok p) is t act →
    Does given_value (Ok (Ptr p.addr p.prov)) is t (then act (λ base u. Done (pointer base (Whole x)) [] u))
value_then x p is t (Done b js u) h =
    does_same given_value (Ok (Ptr p.addr p.prov)) is t (behind js (Done (pointer b (Whole x)) [] u)) (Done (pointer b (Whole x)) (js ++ []) u)
    (behind_done js [] (pointer b (Whole x)) u)
    (ap (λ (q : Pointer). Ptr q.addr q.prov) h.0, h.1 ∙ sym (append-nil js), h.2)
value_then x p is t act h = absurd h

fault_then : (x : ObjName) (a : LibAnswer) (is : List Item) (t : Store) (act : Act ℕ) → Does (based x) (Err a) is t act →
    Does given_value (Err a) is t (then act (λ base u. Done (pointer base (Whole x)) [] u))
fault_then x answers.NoMemory is t act h = tt
fault_then x (answers.Raise c) is t (Raised d) h = h
fault_then x (answers.Outside c n) is t (Outside d k) h = h
fault_then x answers.Unplaced is t Unplaced h = tt
fault_then x a is t act h = absurd h

some_is : (a b : ℕ) → Some a ≡ Some b → a ≡ b
some_is a b h = cc

pub given_some : (b : Bool) (n k : ℕ) → Some k ≡ cond b (Some n) None → (b ≡ true) × (k ≡ n)
given_some true n k e = (refl, some_is k n e)
given_some false n k e = absurd (cc)

abbrev passes : LibAnswer → Result (Unit {0}) LibAnswer
passes a = Err a

pub within_split : (b : Bool) (a : LibAnswer) → Ok tt ≡ cond b (passes a) (Ok tt) → b ≡ false
within_split true a e = absurd (cc)
within_split false a e = refl

-- an object of this name and size is the one that is asked for
pub same_object_asked : (rows : List Row) (who : Event) (n k : ℕ) (x : ObjName) (s : Store) (r : Result Pointer LibAnswer) (is : List Item) (t : Store) →
    k ≡ n → x ≡ heap_name who →
    Does (based x) r is t (run rows (create rows x k 16 heap_kind None) s) → Does (based (heap_name who)) r is t (run rows (new_object rows who n) s)
same_object_asked rows who n k x s r is t size name d =
    subst (λ (y : ObjName). Does (based y) r is t (run rows (create rows y n 16 heap_kind None) s)) name
    (subst (λ (j : ℕ). Does (based x) r is t (run rows (create rows x j 16 heap_kind None) s)) size d)

pub limit_of : (n k : ℕ) (s : Store) → k ≡ n → nat_lt (2 ^ 26) (created_with s k) ≡ false → nat_lt (2 ^ 26) (created_with s n) ≡ false
limit_of n k s e h = subst (λ (j : ℕ). nat_lt (2 ^ 26) (created_with s j) ≡ false) e h

-- the object is created
pub malloc_done : (rows : List Row) (who : Event) (n k : ℕ) (x : ObjName) (s : Store) (p : Pointer) (is : List Item) (t : Store) → k ≡ n → x ≡ heap_name who →
    is_given n ≡ true → nat_lt (2 ^ 26) (created_with s k) ≡ false →
    Does (based x) (Ok p) is t (run rows (create rows x k 16 heap_kind None) s) →
    Does given_value (Ok (Ptr p.addr p.prov)) is t (created_within n s (run rows (malloc rows who n) s))
malloc_done rows who n k x s p is t size name e h d =
    does_same given_value (Ok (Ptr p.addr p.prov)) is t (created_within n s (run rows (malloc rows who n) s))
    (then (run rows (new_object rows who n) s) (λ base u. Done (pointer base (Whole (heap_name who))) [] u))
    (malloc_is rows who n s e (limit_of n k s size h))
    (value_then (heap_name who) p is t (run rows (new_object rows who n) s) (same_object_asked rows who n k x s (Ok p) is t size name d))

-- it isn't
pub malloc_failed : (rows : List Row) (who : Event) (n k : ℕ) (x : ObjName) (s : Store) (a : LibAnswer) (is : List Item) (t : Store) → k ≡ n →
    x ≡ heap_name who → is_given n ≡ true → nat_lt (2 ^ 26) (created_with s k) ≡ false →
    Does (based x) (Err a) is t (run rows (create rows x k 16 heap_kind None) s) →
    Does given_value (Err a) is t (created_within n s (run rows (malloc rows who n) s))
malloc_failed rows who n k x s a is t size name e h d =
    does_same given_value (Err a) is t (created_within n s (run rows (malloc rows who n) s))
    (then (run rows (new_object rows who n) s) (λ base u. Done (pointer base (Whole (heap_name who))) [] u))
    (malloc_is rows who n s e (limit_of n k s size h))
    (fault_then (heap_name who) a is t (run rows (new_object rows who n) s) (same_object_asked rows who n k x s (Err a) is t size name d))
