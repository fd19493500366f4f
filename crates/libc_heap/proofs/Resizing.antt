-- Lemmas on realloc.
use Rattle.std.proofs.Common.{
  ◌≡◌,
  ◌≢◌,
  ℕ,
  zero,
  suc,
  ◌<◌,
  ◌≤◌,
  ◌==◌,
  Bool,
  true,
  false,
  ◌&&◌,
  ◌||◌,
  arith,
  cond,
  min,
  List,
  [],
  ◌∷◌,
  ◌++◌,
  length,
  refl,
  ap,
  ap₂,
  sym,
  subst,
  ◌∙◌,
  Option,
  Some,
  None,
}
use Rattle.std.specs.Prelude.{Result, Ok, Err, is_some, nat_lt, ◌^◌}
use Rattle.std.proofs.lemmas.Bool.Decides.{nat_tests}
use Rattle.std.proofs.lemmas.List.{append-nil}
use Rattle.ub_base.specs.declared.clause.Clause.{Clause}
use Rattle.ub_base.specs.declared.clause.Clause.TheVariants.{Realloc as ReallocOfOther}
use Rattle.ub_base.specs.declared.clause.Cause.TheVariants.{Created as PastCreated}
use Rattle.ub_base.specs.declared.names.Item.{Item}
use Rattle.ub_base.specs.declared.names.Item.TheVariants.{Read, Born, Alive, Write, Dies, Narrow}
use Rattle.ub_base.specs.declared.names.Event.{Event}
use Rattle.ub_base.specs.declared.names.ObjName.{ObjName}
use Rattle.addr_map.specs.declared.map.Row.{Row}
use Rattle.addr_map.specs.Rows.{row_of, row_at}
use Rattle.addr_map.proofs.Tests.{eq_true}
use Rattle.ub_base.specs.Names.{same_object}
use Rattle.ub_base.proofs.NameLemmas.{same_object_is}
use Rattle.exposure.specs.declared.prov.Prov.{Prov}
use Rattle.exposure.specs.declared.prov.Prov.TheVariants.{Empty, Whole, Either}
use Rattle.exposure.specs.Cells.{kept_in, has_cell, is_other}
use Rattle.mem_objects.specs.declared.answer.LibAnswer.{LibAnswer}
use Rattle.mem_objects.specs.declared.answer.LibAnswer.TheVariants as answers
use Rattle.mem_objects.specs.declared.value.Value.{Value}
use Rattle.mem_objects.specs.declared.value.Value.TheVariants.{Ptr}
use Rattle.mem_spec.specs.Store.{Store, TaggedByte, Life, is_live, range_from, born, settled}
use Rattle.mem_spec.specs.Script.{Ask, Script, Give, touch, require, ◌>>=◌, ◌>>◌, Act, Done, Raised, Ended, Outside, Unplaced, touched, run}
use Rattle.mem_spec.specs.Acts.{create, has_place, base_in, size_in}
use Rattle.mem_spec.specs.Streams.{Io}
use Rattle.mem_objects.specs.Held.{Held, held_of}
use Rattle.mem_objects.specs.Memory.{Kept, HasCell, store_of, life_in, no_place, base_by, rows_with, cannot_create}
use Rattle.mem_objects.specs.Made.{Settling, CanSettle, after_settling, settling_items}
use Rattle.mem_objects.proofs.StoreLemmas.{inserted_other}
use Rattle.libc_spec.specs.Library.{LibValue, heap_kind, pointer, null, is_given, is_heap_start, heap_name, start_object, malloc, free, moved, resized, realloc}
use Rattle.libc_spec.specs.Library.{created_with, created_within}
use Rattle.libc_arguments.specs.declared.arguments.Pointer.{Pointer}
use Rattle.libc_arguments.specs.Answers.{Does, given_value}
use Rattle.libc_heap.specs.Making.{rows_made, released, moved_bytes, moved_store, IsStart, start_in, start_if, heap_start_in}
use Rattle.libc_arguments.proofs.Scripts.{then, behind, run_then, behind_done}
use Rattle.libc_heap.proofs.Allocating.{does_same, based, limit_kept}
use Rattle.libc_heap.proofs.Making.{true_false, both_left, is_new, unmade}

-- ---- the object that is meant
abbrev pub start_act : Option (ObjName × Settling) → Clause → Store → Act ObjName
start_act None c s = Raised c
start_act (Some p) c s = Done p.0 (settling_items p.1) (after_settling p.1 s)

start_by : (b : Bool) (id : Event) (start : ObjName) (c : Clause) (s : Store) →
    cond b (Raised c) (Done start (Narrow id start ∷ []) (settled s id start)) ≡ start_act (cond b None (Some (start, Some (id, start)))) c s
start_by true id start c s = refl
start_by false id start c s = refl

start_run : (rows : List Row) (m : Kept) (prov : Prov) (c : Clause) (io : Io) →
    run rows (start_object prov c) (store_of m io) ≡ start_act (start_in m.cells prov) c (store_of m io)
start_run rows m Empty c io = refl
start_run rows m (Whole x) c io = refl
start_run rows m (Either id past start) c io = start_by (is_other (kept_in m.cells id) start) id start c (store_of m io)

-- ---- what follows once it is known
abbrev pub resized_from : List Row → Event → ℕ → ℕ → ObjName → Script LibValue
resized_from rows who a n x = do
  life ← touch (Ask x)
  require (is_heap_start (row_of rows x) a life) ReallocOfOther
  cond (is_given n) (moved rows who x n) (Give null)

resized_then : (rows : List Row) (m : Kept) (io : Io) (who : Event) (a : ℕ) (prov : Prov) (n : ℕ) →
    run rows (resized rows who a prov n) (store_of m io) ≡ then (start_act (start_in m.cells prov) ReallocOfOther (store_of m io))
    (λ x u. run rows (resized_from rows who a n x) u)
resized_then rows m io who a prov n =
    run_then rows (start_object prov ReallocOfOther) (resized_from rows who a n) (store_of m io)
    ∙ ap (λ (act : Act ObjName). then act (λ x u. run rows (resized_from rows who a n x) u)) (start_run rows m prov ReallocOfOther io)

not_start : (rows : List Row) (who : Event) (a n : ℕ) (x : ObjName) (settles : Settling) (s : Store) → is_heap_start (row_of rows x) a (s.life x) ≡ false →
    run rows (resized_from rows who a n x) (after_settling settles s) ≡ Raised ReallocOfOther
not_start rows who a n x None s e = rw e refl
not_start rows who a n x (Some p) s e = rw e refl

behind_raised : {V : Type 0} (is : List Item) (c : Clause) → behind {V = V} is (Raised c) ≡ Raised c
behind_raised [] c = refl
behind_raised {V = V} (i ∷ is) c = ap (touched i) (behind_raised {V = V} is c)

cond_none : (b : Bool) (p : ObjName × Settling) → cond b (Some p) None ≡ None → b ≡ false
cond_none true p e = absurd (cc)
cond_none false p e = refl

-- rows under which each object begins where it does under those of the memory
abbrev pub SameStarts : List Row → Kept → ℕ → Type 0
SameStarts rows m a = (x : ObjName) → is_heap_start (row_of rows x) a (life_in (held_of m.objects x)) ≡ is_heap_start (row_of m.rows x) a
    (life_in (held_of m.objects x))

refused_from : (o : Option (ObjName × Settling)) (rows : List Row) (m : Kept) (io : Io) (who : Event) (a n : ℕ) → SameStarts rows m a → start_if m a o ≡ None →
    then (start_act o ReallocOfOther (store_of m io)) (λ x u. run rows (resized_from rows who a n x) u) ≡ Raised ReallocOfOther
refused_from None rows m io who a n same e = refl
refused_from (Some p) rows m io who a n same e =
    ap (behind (settling_items p.1)) (not_start rows who a n p.0 p.1 (store_of m io)
    (same p.0 ∙ cond_none (is_heap_start (row_of m.rows p.0) a (life_in (held_of m.objects p.0))) p e))
    ∙ behind_raised (settling_items p.1) ReallocOfOther

-- no live heap object begins there
pub resized_refused : (rows : List Row) (m : Kept) (io : Io) (who : Event) (a : ℕ) (prov : Prov) (n : ℕ) → SameStarts rows m a →
    heap_start_in m a prov ≡ None → run rows (resized rows who a prov n) (store_of m io) ≡ Raised ReallocOfOther
resized_refused rows m io who a prov n same e = resized_then rows m io who a prov n ∙ refused_from (start_in m.cells prov) rows m io who a n same e

is_start : (rows : List Row) (who : Event) (a n : ℕ) (x : ObjName) (settles : Settling) (s : Store) → is_heap_start (row_of rows x) a (s.life x) ≡ true →
    run rows (resized_from rows who a n x) (after_settling settles s) ≡ touched (Alive x)
    (run rows (cond (is_given n) (moved rows who x n) (Give null)) (after_settling settles s))
is_start rows who a n x None s e = rw e refl
is_start rows who a n x (Some p) s e = rw e refl

-- one does
pub resized_found : (rows : List Row) (m : Kept) (io : Io) (who : Event) (a : ℕ) (prov : Prov) (n : ℕ) (x : ObjName) (settles : Settling) →
    start_in m.cells prov ≡ Some (x, settles) → is_heap_start (row_of rows x) a (life_in (held_of m.objects x)) ≡ true →
    run rows (resized rows who a prov n) (store_of m io) ≡ behind (settling_items settles)
    (touched (Alive x) (run rows (cond (is_given n) (moved rows who x n) (Give null)) (after_settling settles (store_of m io))))
resized_found rows m io who a prov n x settles found begins =
    resized_then rows m io who a prov n
    ∙ ap (λ (o : Option (ObjName × Settling)). then (start_act o ReallocOfOther (store_of m io)) (λ x u. run rows (resized_from rows who a n x) u)) found
    ∙ ap (behind (settling_items settles)) (is_start rows who a n x settles (store_of m io) begins)

-- ---- rows of objects that were there
row_other : (o : Option Row) (m : Kept) (h x : ObjName) (b n : ℕ) → same_object h x ≡ false → row_of (rows_with o (row_at h b n 16) m.rows) x ≡ row_of m.rows x
row_other (Some r) m h x b n e = refl
row_other None m h x b n e = inserted_other (λ r. same_object r.name x) (row_at h b n 16) m.rows e

pub apart_by : (b : Bool) (m : Kept) (h x : ObjName) → same_object h x ≡ b → is_some (held_of m.objects h) ≡ false → is_some (held_of m.objects x) ≡ true →
    same_object h x ≡ false
apart_by true m h x e gone there = absurd (true_false (sym there ∙ ap (λ (y : ObjName). is_some (held_of m.objects y)) (sym (same_object_is h x e)) ∙ gone))
apart_by false m h x e gone there = e

row_kept_by : (c : Bool) (m : Kept) (h x : ObjName) (b n : ℕ) → (c ≡ false → is_some (held_of m.objects h) ≡ false) → is_some (held_of m.objects x) ≡ true →
    row_of (cond c m.rows (rows_with (row_of m.rows h) (row_at h b n 16) m.rows)) x ≡ row_of m.rows x
row_kept_by true m h x b n gone there = refl
row_kept_by false m h x b n gone there = row_other (row_of m.rows h) m h x b n (apart_by (same_object h x) m h x refl (gone refl) there)

first_false : (a b : Bool) → a || b ≡ false → a ≡ false
first_false true b e = absurd (cc)
first_false false b e = refl

-- an object that is there keeps its row
pub row_kept : (m : Kept) (h x : ObjName) (n : ℕ) → is_some (held_of m.objects x) ≡ true → row_of (rows_made m h n) x ≡ row_of m.rows x
row_kept m h x n there =
    row_kept_by (cannot_create m h n 16) m h x (base_by (row_of m.rows h) m.mode m.rows 16) n
    (λ e. first_false (is_some (held_of m.objects h)) (no_place m (row_of m.rows h) m.mode n 16) e) there

pub is_held : (o : Option Row) (a : ℕ) (k : Option Held) → is_heap_start o a (life_in k) ≡ true → is_some k ≡ true
is_held o a None e = absurd (cc)
is_held o a (Some k) e = refl

pub live_start : (o : Option Row) (a : ℕ) (l : Option Life) → is_heap_start o a l ≡ true → is_live l ≡ true
live_start o a None e = absurd (cc)
live_start o a (Some l) e = both_left l.live (l.kind.heap && base_in o == a) e

pub both_right : (a b : Bool) → a && b ≡ true → b ≡ true
both_right true b e = e
both_right false b e = absurd (cc)

pub base_start : (o : Option Row) (a : ℕ) (l : Option Life) → is_heap_start o a l ≡ true → base_in o ≡ a
base_start o a None e = absurd (cc)
base_start o a (Some l) e = eq_true (base_in o) a (both_right l.kind.heap (base_in o == a) (both_right l.live (l.kind.heap && base_in o == a) e))

pub record IsRowAt (o : Option Row) (a : ℕ) : Type 0 where
  pub row : Row
  pub there : o ≡ Some row
  pub base : row.base ≡ a

pub row_at_base : (o : Option Row) (a : ℕ) → a ≢ 0 → base_in o ≡ a → IsRowAt o a
row_at_base None a some e = absurd (some (sym e))
row_at_base (Some r) a some e = record { row = r; there = refl; base = e }

pub above_null : (a : ℕ) → a ≢ 0 → 0 < a
above_null zero some = absurd (some refl)
above_null (suc a) some = omega arith

pub within_row : (o : Option Row) (r : Row) (len n : ℕ) → o ≡ Some r → len ≡ min (size_in o) n → len ≤ r.size
within_row o r len n there e =
    let size : size_in o ≡ r.size = ap size_in there in
    omega (arith, e, size)

-- ---- the new object
abbrev pub IsMadeAs : Result Pointer LibAnswer → Kept → Io → ObjName → ℕ → Type 0
IsMadeAs r m io h n = (s : Store) × Does (based h) r (Born h ∷ []) s (run (rows_made m h n) (create (rows_made m h n) h n 16 heap_kind None) (store_of m io))

pub made_as : (m mid : Kept) (h : ObjName) (n : ℕ) (p : Pointer) (is : List Item) (io : Io) → mid.rows ≡ rows_made m h n →
    Does (based h) (Ok p) is (store_of mid io) (run mid.rows (create mid.rows h n 16 heap_kind None) (store_of m io)) → IsMadeAs (Ok p) m io h n
made_as m mid h n p is io rows does =
    let new = is_new mid.rows h n p is (store_of m io) (store_of mid io) does in (
      store_of mid io,
      subst (λ (rs : List Row). Does (based h) (Ok p) (Born h ∷ []) (store_of mid io) (run rs (create rs h n 16 heap_kind None) (store_of m io))) rows
          (subst (λ (js : List Item). Does (based h) (Ok p) js (store_of mid io) (run mid.rows (create mid.rows h n 16 heap_kind None) (store_of m io)))
          new.items does),
    )

does_fault : (h : ObjName) (a : LibAnswer) (is js : List Item) (s t : Store) (act : Act ℕ) → Does (based h) (Err a) is s act → Does (based h) (Err a) js t act
does_fault h answers.NoMemory is js s t act d = tt
does_fault h (answers.Raise c) is js s t (Raised e) d = d
does_fault h (answers.Outside c n) is js s t (Outside e k) d = d
does_fault h answers.Unplaced is js s t Unplaced d = tt
does_fault h a is js s t act d = absurd d

pub unmade_as : (m mid : Kept) (h : ObjName) (n : ℕ) (a : LibAnswer) (is : List Item) (io : Io) →
    (unmade a ≢ Err answers.NoMemory → mid.rows ≡ rows_made m h n) →
    Does (based h) (Err a) is (store_of mid io) (run mid.rows (create mid.rows h n 16 heap_kind None) (store_of m io)) → IsMadeAs (Err a) m io h n
unmade_as m mid h n answers.NoMemory is io rows does = (store_of m io, tt)
unmade_as m mid h n a is io rows does = (
  store_of m io,
  does_fault h a is (Born h ∷ []) (store_of mid io) (store_of m io) (run (rows_made m h n) (create (rows_made m h n) h n 16 heap_kind None) (store_of m io))
      (subst (λ (rs : List Row). Does (based h) (Err a) is (store_of mid io) (run rs (create rs h n 16 heap_kind None) (store_of m io)))
      (rows (λ e. absurd (cc))) does),
)

-- ---- what is moved
abbrev pub moved_items : ObjName → ObjName → ℕ → ℕ → List Item
moved_items x h read write = Read x 0 read ∷ Born h ∷ Alive h ∷ Write h 0 write ∷ Dies x ∷ []

abbrev pub moved_act : Bool → Bool → List Row → ObjName → ObjName → ℕ → Store → Act LibValue
moved_act p q rows x h n u =
    cond p (cond q Unplaced (Done (pointer (base_in (row_of rows h)) (Whole h))
    (moved_items x h (min (size_in (row_of rows x)) n) (length (moved_bytes rows x n u))) (moved_store rows x h n u))) Unplaced

moved_run : (p q : Bool) (rows : List Row) (who : Event) (x : ObjName) (n : ℕ) (u : Store) → has_place (row_of rows (heap_name who)) n 16 ≡ p →
    is_some (u.life (heap_name who)) ≡ q →
    run rows (moved rows who x n) u ≡ moved_act p q rows x (heap_name who) n u
moved_run true true rows who x n u e f = rw (e, f) refl
moved_run true false rows who x n u e f = rw (e, f) refl
moved_run false q rows who x n u e f = rw e refl

life_after : (settles : Settling) (s : Store) (x : ObjName) → (after_settling settles s).life x ≡ s.life x
life_after None s x = refl
life_after (Some p) s x = refl

start_same_by : (o : Option Held) (m : Kept) (h x : ObjName) (n a : ℕ) → held_of m.objects x ≡ o →
    is_heap_start (row_of (rows_made m h n) x) a (life_in o) ≡ is_heap_start (row_of m.rows x) a (life_in o)
start_same_by None m h x n a e = refl
start_same_by (Some k) m h x n a e = ap (λ (r : Option Row). is_heap_start r a (life_in (Some k))) (row_kept m h x n (ap is_some e))

start_same : (m : Kept) (h x : ObjName) (n a : ℕ) → is_heap_start (row_of (rows_made m h n) x) a (life_in (held_of m.objects x)) ≡ is_heap_start
    (row_of m.rows x) a (life_in (held_of m.objects x))
start_same m h x n a = start_same_by (held_of m.objects x) m h x n a refl

found_by : (b : Bool) (p q : ObjName × Settling) → cond b (Some p) None ≡ Some q → (b ≡ true) × (p ≡ q)
found_by true p q e = (refl, cc)
found_by false p q e = absurd (cc)

started : (o : Option (ObjName × Settling)) (m : Kept) (a : ℕ) (q : ObjName × Settling) → start_if m a o ≡ Some q → (o ≡ Some q) ×
    (is_heap_start (row_of m.rows q.0) a (life_in (held_of m.objects q.0)) ≡ true)
started None m a q e = absurd (cc)
started (Some p) m a q e =
    let r = found_by (is_heap_start (row_of m.rows p.0) a (life_in (held_of m.objects p.0))) p q e in
    (ap Some r.1, subst (λ (z : ObjName × Settling). is_heap_start (row_of m.rows z.0) a (life_in (held_of m.objects z.0)) ≡ true) r.1 r.0)

pub begins_at : (m : Kept) (a : ℕ) (prov : Prov) (x : ObjName) (settles : Settling) → a ≢ 0 → Some (x, settles) ≡ heap_start_in m a prov → IsStart m x a
begins_at m a prov x settles some e = record { there = some; begins = (started (start_in m.cells prov) m a (x, settles) (sym e)).1 }

abbrev meant : ObjName → Settling → Option (ObjName × Settling)
meant x settles = Some (x, settles)

some_pair : (p q : ObjName × Settling) → Some p ≡ Some q → p ≡ q
some_pair p q e = cc

settles_is : (y x : ObjName) (t settles : Settling) → meant y t ≡ meant x settles → t ≡ settles
settles_is y x t settles e = ap (λ (z : ObjName × Settling). z.1) (some_pair (y, t) (x, settles) e)

can_by : (b : Bool) (m : Kept) (id : Event) (start x : ObjName) (settles : Settling) → is_other (kept_in m.cells id) start ≡ b → has_cell m.cells id ≡ true →
    cond b None (meant start (Some (id, start))) ≡ meant x settles → CanSettle m.cells settles
can_by true m id start x settles o has e = absurd (cc)
can_by false m id start x settles o has e = subst (λ (z : Settling). CanSettle m.cells z) (settles_is start x (Some (id, start)) settles e) (has, o)

can_settle : (m : Kept) (prov : Prov) (x : ObjName) (settles : Settling) → start_in m.cells prov ≡ Some (x, settles) → HasCell m prov →
    CanSettle m.cells settles
can_settle m Empty x settles e has = absurd (cc)
can_settle m (Whole y) x settles e has = subst (λ (z : Settling). CanSettle m.cells z) (settles_is y x None settles e) tt
can_settle m (Either id past start) x settles e has = can_by (is_other (kept_in m.cells id) start) m id start x settles refl has e

pub can_settle_start : (m : Kept) (a : ℕ) (prov : Prov) (x : ObjName) (settles : Settling) → Some (x, settles) ≡ heap_start_in m a prov → HasCell m prov →
    CanSettle m.cells settles
can_settle_start m a prov x settles e has = can_settle m prov x settles (started (start_in m.cells prov) m a (x, settles) (sym e)).0 has

-- ---- a realloc to some bytes
abbrev pub resized_act : List Row → Kept → Io → ObjName → ℕ → ObjName → Settling → Act LibValue
resized_act rows m io h n x settles =
    behind (settling_items settles) (touched (Alive x)
    (moved_act (has_place (row_of rows h) n 16) (is_some (life_in (held_of m.objects h))) rows x h n (after_settling settles (store_of m io))))

resized_moves : (rows : List Row) (m : Kept) (io : Io) (who : Event) (a : ℕ) (prov : Prov) (n : ℕ) (x : ObjName) (settles : Settling) → SameStarts rows m a →
    Some (x, settles) ≡ heap_start_in m a prov → is_given n ≡ true →
    run rows (resized rows who a prov n) (store_of m io) ≡ resized_act rows m io (heap_name who) n x settles
resized_moves rows m io who a prov n x settles same found given =
    let u = after_settling settles (store_of m io) in
    let f = started (start_in m.cells prov) m a (x, settles) (sym found) in
    resized_found rows m io who a prov n x settles f.0 (same x ∙ f.1)
    ∙ ap (λ (b : Bool). behind (settling_items settles) (touched (Alive x) (run rows (cond b (moved rows who x n) (Give null)) u))) given
    ∙ ap (λ (act : Act LibValue). behind (settling_items settles) (touched (Alive x) act))
    (moved_run (has_place (row_of rows (heap_name who)) n 16) (is_some (life_in (held_of m.objects (heap_name who)))) rows who x n u refl
    (ap is_some (life_after settles (store_of m io) (heap_name who))))

abbrev pub Unraised : Act LibValue → Type 0
Unraised (Raised c) = ⊥
Unraised act = Unit {0}

unraised_touched : (i : Item) (act : Act LibValue) → Unraised act → Unraised (touched i act)
unraised_touched i (Done v is s) h = tt
unraised_touched i (Raised c) h = h
unraised_touched i (Ended k is s) h = tt
unraised_touched i (Outside c k) h = tt
unraised_touched i Unplaced h = tt

unraised_behind : (is : List Item) (act : Act LibValue) → Unraised act → Unraised (behind is act)
unraised_behind [] act h = h
unraised_behind (i ∷ is) act h = unraised_touched i (behind is act) (unraised_behind is act h)

moved_unraised : (p q : Bool) (rows : List Row) (x h : ObjName) (n : ℕ) (u : Store) → Unraised (moved_act p q rows x h n u)
moved_unraised true true rows x h n u = tt
moved_unraised true false rows x h n u = tt
moved_unraised false q rows x h n u = tt

limit_passed : (n : ℕ) (s : Store) (act : Act LibValue) → is_given n ≡ true → nat_lt (2 ^ 26) (created_with s n) ≡ true → Unraised act →
    created_within n s act ≡ Outside PastCreated (created_with s n)
limit_passed n s (Raised c) e h unraised = absurd unraised
limit_passed n s (Done v is u) e h unraised = rw (e, h) refl
limit_passed n s (Ended k is u) e h unraised = rw (e, h) refl
limit_passed n s (Outside c k) e h unraised = rw (e, h) refl
limit_passed n s Unplaced e h unraised = rw (e, h) refl

-- ---- how many bytes
pub over_given : (n : ℕ) → 1048576 < n → is_given n ≡ false
over_given n h = grind (arith, nat_tests)

pub some_given : (n : ℕ) → n ≢ 0 → n ≤ 1048576 → is_given n ≡ true
some_given zero some h = absurd (some refl)
some_given (suc n) some h = grind (arith, nat_tests)

-- ---- the answers of a realloc to some bytes
abbrev pub resizing : Kept → Io → List Row → Event → ℕ → Prov → ℕ → Act LibValue
resizing m io rows who a prov n = created_within n (store_of m io) (run rows (resized rows who a prov n) (store_of m io))

-- no live heap object begins there
pub refused_does : (m : Kept) (io : Io) (who : Event) (a : ℕ) (prov : Prov) (n : ℕ) (is : List Item) → None ≡ heap_start_in m a prov →
    Does given_value (Err (answers.Raise ReallocOfOther)) is (store_of m io) (resizing m io m.rows who a prov n)
refused_does m io who a prov n is e =
    does_same given_value (Err (answers.Raise ReallocOfOther)) is (store_of m io) (resizing m io m.rows who a prov n) (Raised ReallocOfOther)
    (ap (created_within n (store_of m io)) (resized_refused m.rows m io who a prov n (λ x. refl) (sym e))) refl

-- too many bytes
null_run : (rows : List Row) (m : Kept) (io : Io) (who : Event) (a : ℕ) (prov : Prov) (n : ℕ) (x : ObjName) (settles : Settling) →
    Some (x, settles) ≡ heap_start_in m a prov → is_given n ≡ false → rows ≡ m.rows →
    resizing m io rows who a prov n ≡ Done null (settling_items settles ++ Alive x ∷ []) (after_settling settles (store_of m io))
null_run rows m io who a prov n x settles found given same =
    let u = after_settling settles (store_of m io) in
    let f = started (start_in m.cells prov) m a (x, settles) (sym found) in
    let run_is : run rows (resized rows who a prov n) (store_of m io) ≡ Done null (settling_items settles ++ Alive x ∷ []) u =
    resized_found rows m io who a prov n x settles f.0 (ap (λ (rs : List Row). is_heap_start (row_of rs x) a (life_in (held_of m.objects x))) same ∙ f.1)
    ∙ ap (λ (b : Bool). behind (settling_items settles) (touched (Alive x) (run rows (cond b (moved rows who x n) (Give null)) u))) given
    ∙ behind_done (settling_items settles) (Alive x ∷ []) null u in
    ap (created_within n (store_of m io)) run_is ∙ ap
    (λ (b : Bool). cond (b && nat_lt (2 ^ 26) (created_with (store_of m io) n)) (Outside PastCreated (created_with (store_of m io) n))
    (Done null (settling_items settles ++ Alive x ∷ []) u)) given

pub null_does : (rows : List Row) (m : Kept) (io : Io) (who : Event) (a : ℕ) (prov : Prov) (n : ℕ) (x : ObjName) (settles : Settling) (v : Value)
    (old is : List Item) (s : Store) → Some (x, settles) ≡ heap_start_in m a prov → 1048576 < n → rows ≡ m.rows →
    v ≡ Ptr 0 Empty → old ≡ [] → is ≡ old ++ (settling_items settles ++ Alive x ∷ []) → s ≡ after_settling settles (store_of m io) →
    Does given_value (Ok v) is s (resizing m io rows who a prov n)
null_does rows m io who a prov n x settles v old is s found over same value none noted after =
    does_same given_value (Ok v) is s (resizing m io rows who a prov n)
    (Done null (settling_items settles ++ Alive x ∷ []) (after_settling settles (store_of m io)))
    (null_run rows m io who a prov n x settles found (over_given n over) same)
    (value, noted ∙ ap (λ (os : List Item). os ++ (settling_items settles ++ Alive x ∷ [])) none, after)

-- too many bytes in all
outside_is : (m : Kept) (io : Io) (who : Event) (a : ℕ) (prov : Prov) (n : ℕ) (x : ObjName) (settles : Settling) →
    Some (x, settles) ≡ heap_start_in m a prov → is_given n ≡ true → nat_lt (2 ^ 26) (created_with (store_of m io) n) ≡ true →
    resizing m io m.rows who a prov n ≡ Outside PastCreated (created_with (store_of m io) n)
outside_is m io who a prov n x settles found given limit =
    limit_passed n (store_of m io) (run m.rows (resized m.rows who a prov n) (store_of m io)) given limit
    (subst Unraised (sym (resized_moves m.rows m io who a prov n x settles (λ y. refl) found given))
    (unraised_behind (settling_items settles) _
    (unraised_touched (Alive x) _ (moved_unraised (has_place (row_of m.rows (heap_name who)) n 16) (is_some (life_in (held_of m.objects (heap_name who))))
    m.rows x (heap_name who) n (after_settling settles (store_of m io))))))

resizing_is : (m : Kept) (io : Io) (who : Event) (a : ℕ) (prov : Prov) (n : ℕ) (x : ObjName) (settles : Settling) →
    Some (x, settles) ≡ heap_start_in m a prov → is_given n ≡ true → nat_lt (2 ^ 26) (created_with (store_of m io) n) ≡ false →
    resizing m io (rows_made m (heap_name who) n) who a prov n ≡ resized_act (rows_made m (heap_name who) n) m io (heap_name who) n x settles
resizing_is m io who a prov n x settles found given limit =
    limit_kept n (store_of m io) (run (rows_made m (heap_name who) n) (resized (rows_made m (heap_name who) n) who a prov n) (store_of m io)) given limit
    ∙ resized_moves (rows_made m (heap_name who) n) m io who a prov n x settles (λ y. start_same m (heap_name who) y n a) found given

-- ---- the object isn't made
create_run : (p q : Bool) (rows : List Row) (h : ObjName) (n : ℕ) (s : Store) → has_place (row_of rows h) n 16 ≡ p → is_some (s.life h) ≡ q →
    run rows (create rows h n 16 heap_kind None) s ≡ cond p (cond q Unplaced (Done (base_in (row_of rows h)) (Born h ∷ []) (born s h n heap_kind None)))
    Unplaced
create_run true true rows h n s e f = rw (e, f) refl
create_run true false rows h n s e f = rw (e, f) refl
create_run false q rows h n s e f = rw e refl

behind_unplaced : (is : List Item) → behind {V = LibValue} is Unplaced ≡ Unplaced
behind_unplaced [] = refl
behind_unplaced (i ∷ is) = ap (touched i) (behind_unplaced is)

unplaced_does : (a : LibAnswer) (h : ObjName) (is js : List Item) (s t : Store) (act : Act LibValue) → act ≡ Unplaced → Does (based h) (Err a) is s Unplaced →
    Does given_value (Err a) js t act
unplaced_does answers.NoMemory h is js s t act e d = tt
unplaced_does answers.Unplaced h is js s t act e d = does_same given_value (Err answers.Unplaced) js t act Unplaced e tt
unplaced_does a h is js s t act e d = absurd d

made_does : (a : LibAnswer) (h : ObjName) (is js : List Item) (s t u : Store) (b : ℕ) (act : Act LibValue) →
    Does (based h) (Err a) is s (Done b (Born h ∷ []) u) → Does given_value (Err a) js t act
made_does answers.NoMemory h is js s t u b act d = tt
made_does a h is js s t u b act d = absurd d

fault_by : (p q : Bool) (a : LibAnswer) (settles : Settling) (rows : List Row) (x h : ObjName) (n : ℕ) (is js : List Item) (s t u v : Store) →
    Does (based h) (Err a) is s (cond p (cond q Unplaced (Done (base_in (row_of rows h)) (Born h ∷ []) v)) Unplaced) →
    Does given_value (Err a) js t (behind (settling_items settles) (touched (Alive x) (moved_act p q rows x h n u)))
fault_by true true a settles rows x h n is js s t u v d = unplaced_does a h is js s t _ (behind_unplaced (settling_items settles)) d
fault_by true false a settles rows x h n is js s t u v d = made_does a h is js s t v (base_in (row_of rows h)) _ d
fault_by false q a settles rows x h n is js s t u v d = unplaced_does a h is js s t _ (behind_unplaced (settling_items settles)) d

failed_does : (m : Kept) (io : Io) (who : Event) (a : ℕ) (prov : Prov) (n : ℕ) (x : ObjName) (settles : Settling) (b : LibAnswer) (is : List Item)
    (t : Store) → Some (x, settles) ≡ heap_start_in m a prov → is_given n ≡ true → nat_lt (2 ^ 26) (created_with (store_of m io) n) ≡ false →
    IsMadeAs (Err b) m io (heap_name who) n → Does given_value (Err b) is t (resizing m io (rows_made m (heap_name who) n) who a prov n)
failed_does m io who a prov n x settles b is t found given limit made =
    let rows = rows_made m (heap_name who) n in
    let h = heap_name who in
    let p = has_place (row_of rows h) n 16 in
    let q = is_some (life_in (held_of m.objects h)) in
    does_same given_value (Err b) is t (resizing m io rows who a prov n) (resized_act rows m io h n x settles)
    (resizing_is m io who a prov n x settles found given limit)
    (fault_by p q b settles rows x h n (Born h ∷ []) is made.0 t (after_settling settles (store_of m io)) (born (store_of m io) h n heap_kind None)
    (subst (λ (act : Act ℕ). Does (based h) (Err b) (Born h ∷ []) made.0 act) (create_run p q rows h n (store_of m io) refl refl) made.1))

-- ---- it is made
prov_by : (x : ObjName) (p : Pointer) (is : List Item) (t : Store) (act : Act ℕ) → Does (based x) (Ok p) is t act → p.prov ≡ Whole x
prov_by x p is t (Done w js u) h = ap (λ (q : Pointer). q.prov) h.0
prov_by x p is t act h = absurd h

range_length : (f : ℕ → TaggedByte) (a n : ℕ) → length (range_from f a n) ≡ n
range_length f a zero = refl
range_length f a (suc n) = ap suc (range_length f (suc a) n)

append_twice : (is js ks : List Item) (i : Item) → (is ++ i ∷ js) ++ ks ≡ is ++ i ∷ (js ++ ks)
append_twice [] js ks i = refl
append_twice (k ∷ is) js ks i = ap (λ (ls : List Item). k ∷ ls) (append_twice is js ks i)

moved_noted : (settles : Settling) (m : Kept) (rows : List Row) (x h : ObjName) (n : ℕ) (u : Store) (old mid new : List Item) →
    row_of rows x ≡ row_of m.rows x → old ≡ [] → mid ≡ old ++ (settling_items settles ++ Alive x ∷ []) →
    new ≡ mid ++ moved_items x h (min (size_in (row_of m.rows x)) n) (min (size_in (row_of m.rows x)) n) →
    new ≡ settling_items settles ++ (Alive x ∷ moved_items x h (min (size_in (row_of rows x)) n) (length (moved_bytes rows x n u)))
moved_noted settles m rows x h n u old mid new kept none first rest =
    let size : min (size_in (row_of m.rows x)) n ≡ min (size_in (row_of rows x)) n = ap (λ (o : Option Row). min (size_in o) n) (sym kept) in
    let long : min (size_in (row_of m.rows x)) n ≡ length (moved_bytes rows x n u) = size ∙ sym (range_length (u.bytes x) 0 (min (size_in (row_of rows x)) n))
    in
    rest ∙ ap (λ (is : List Item). is ++ moved_items x h (min (size_in (row_of m.rows x)) n) (min (size_in (row_of m.rows x)) n))
    (first ∙ ap (λ (os : List Item). os ++ (settling_items settles ++ Alive x ∷ [])) none)
    ∙ append_twice (settling_items settles) [] (moved_items x h (min (size_in (row_of m.rows x)) n) (min (size_in (row_of m.rows x)) n)) (Alive x)
    ∙ ap₂ (λ (i j : ℕ). settling_items settles ++ (Alive x ∷ moved_items x h i j)) size long

moved_does : (m : Kept) (io : Io) (who : Event) (a : ℕ) (prov : Prov) (n : ℕ) (x : ObjName) (settles : Settling) (p : Pointer) (old mid is : List Item)
    (t : Store) → Some (x, settles) ≡ heap_start_in m a prov → is_given n ≡ true → nat_lt (2 ^ 26) (created_with (store_of m io) n) ≡ false →
    IsMadeAs (Ok p) m io (heap_name who) n → old ≡ [] → mid ≡ old ++ (settling_items settles ++ Alive x ∷ []) → is ≡ mid ++
    moved_items x (heap_name who) (min (size_in (row_of m.rows x)) n) (min (size_in (row_of m.rows x)) n) →
    t ≡ moved_store (rows_made m (heap_name who) n) x (heap_name who) n (after_settling settles (store_of m io)) →
    Does given_value (Ok (Ptr p.addr p.prov)) is t (resizing m io (rows_made m (heap_name who) n) who a prov n)
moved_does m io who a prov n x settles p old mid is t found given limit made none first rest store =
    let rows = rows_made m (heap_name who) n in
    let h = heap_name who in
    let u = after_settling settles (store_of m io) in
    let new = is_new rows h n p (Born h ∷ []) (store_of m io) made.0 made.1 in
    let held = is_held (row_of m.rows x) a (held_of m.objects x) (started (start_in m.cells prov) m a (x, settles) (sym found)).1 in
    let act : resized_act rows m io h n x settles ≡ Done (pointer (base_in (row_of rows h)) (Whole h))
    (settling_items settles ++ (Alive x ∷ moved_items x h (min (size_in (row_of rows x)) n) (length (moved_bytes rows x n u)))) (moved_store rows x h n u) =
    ap₂ (λ (b c : Bool). behind (settling_items settles) (touched (Alive x) (moved_act b c rows x h n u))) new.place new.absent
    ∙ behind_done (settling_items settles) (Alive x ∷ moved_items x h (min (size_in (row_of rows x)) n) (length (moved_bytes rows x n u)))
    (pointer (base_in (row_of rows h)) (Whole h)) (moved_store rows x h n u) in
    does_same given_value (Ok (Ptr p.addr p.prov)) is t (resizing m io rows who a prov n)
    (Done (pointer (base_in (row_of rows h)) (Whole h)) (settling_items settles ++
    (Alive x ∷ moved_items x h (min (size_in (row_of rows x)) n) (length (moved_bytes rows x n u)))) (moved_store rows x h n u))
    (resizing_is m io who a prov n x settles found given limit ∙ act) (
      ap₂ Ptr new.base (prov_by h p (Born h ∷ []) made.0 (run rows (create rows h n 16 heap_kind None) (store_of m io)) made.1),
      moved_noted settles m rows x h n u old mid is (row_kept m h x n held) none first rest,
      store,
    )

-- the same under the rows that there are then
under_made : (r : Result Value LibAnswer) (is : List Item) (t : Store) (m : Kept) (io : Io) (after : List Row) (who : Event) (a : ℕ) (prov : Prov) (n : ℕ)
    (h : ObjName) → h ≡ heap_name who → after ≡ rows_made m h n →
    Does given_value r is t (resizing m io (rows_made m (heap_name who) n) who a prov n) → Does given_value r is t (resizing m io after who a prov n)
under_made r is t m io after who a prov n h name rows does =
    subst (λ (rs : List Row). Does given_value r is t (resizing m io rs who a prov n)) (sym (rows ∙ ap (λ (y : ObjName). rows_made m y n) name)) does

abbrev refusing : LibAnswer → Result (Unit {0}) LibAnswer
refusing a = Err a

same_refusal : (a b : LibAnswer) → refusing a ≡ refusing b → a ≡ b
same_refusal a b e = cc

passed_split : (b : Bool) (a limit : LibAnswer) → refusing a ≡ cond b (refusing limit) (Ok tt) → (b ≡ true) × (a ≡ limit)
passed_split true a limit e = (refl, same_refusal a limit e)
passed_split false a limit e = absurd (cc)

-- the limit on created bytes
pub limit_does : (m : Kept) (io : Io) (who : Event) (a : ℕ) (prov : Prov) (n : ℕ) (x : ObjName) (settles : Settling) (b : LibAnswer) (is : List Item) →
    Some (x, settles) ≡ heap_start_in m a prov → n ≢ 0 → n ≤ 1048576 →
    refusing b ≡ cond (nat_lt (2 ^ 26) (created_with (store_of m io) n)) (refusing (answers.Outside PastCreated (created_with (store_of m io) n))) (Ok tt) →
    Does given_value (Err b) is (store_of m io) (resizing m io m.rows who a prov n)
limit_does m io who a prov n x settles b is found some most limit =
    let q = passed_split (nat_lt (2 ^ 26) (created_with (store_of m io) n)) b (answers.Outside PastCreated (created_with (store_of m io) n)) limit in
    subst (λ (c : LibAnswer). Does given_value (Err c) is (store_of m io) (resizing m io m.rows who a prov n)) (sym q.1)
    (does_same given_value (Err (answers.Outside PastCreated (created_with (store_of m io) n))) is (store_of m io) (resizing m io m.rows who a prov n)
    (Outside PastCreated (created_with (store_of m io) n))
    (outside_is m io who a prov n x settles found (some_given n some most) q.0) (refl, refl))

named_as : (r : Result Pointer LibAnswer) (m : Kept) (io : Io) (h k : ObjName) (n : ℕ) → h ≡ k → IsMadeAs r m io h n → IsMadeAs r m io k n
named_as r m io h k n e made = subst (λ (y : ObjName). IsMadeAs r m io y n) e made

failing_there : (m : Kept) (after : List Row) (io : Io) (who : Event) (a : ℕ) (prov : Prov) (n : ℕ) (x h : ObjName) (settles : Settling) (b : LibAnswer)
    (is : List Item) (t : Store) → Some (x, settles) ≡ heap_start_in m a prov → n ≢ 0 → n ≤ 1048576 → h ≡ heap_name who →
    nat_lt (2 ^ 26) (created_with (store_of m io) n) ≡ false → after ≡ rows_made m h n → IsMadeAs (Err b) m io h n →
    Does given_value (Err b) is t (resizing m io after who a prov n)
failing_there m after io who a prov n x h settles b is t found some most name limit rows made =
    under_made (Err b) is t m io after who a prov n h name rows
    (failed_does m io who a prov n x settles b is t found (some_given n some most) limit (named_as (Err b) m io h (heap_name who) n name made))

pub failing_does : (m : Kept) (after : List Row) (io : Io) (who : Event) (a : ℕ) (prov : Prov) (n : ℕ) (x h : ObjName) (settles : Settling) (b : LibAnswer)
    (is : List Item) (t : Store) → Some (x, settles) ≡ heap_start_in m a prov → n ≢ 0 → n ≤ 1048576 → h ≡ heap_name who →
    nat_lt (2 ^ 26) (created_with (store_of m io) n) ≡ false → (unmade b ≢ Err answers.NoMemory → after ≡ rows_made m h n) → IsMadeAs (Err b) m io h n →
    Does given_value (Err b) is t (resizing m io after who a prov n)
failing_does m after io who a prov n x h settles answers.NoMemory is t found some most name limit rows made = tt
failing_does m after io who a prov n x h settles b is t found some most name limit rows made =
    failing_there m after io who a prov n x h settles b is t found some most name limit (rows (λ e. absurd (cc))) made

pub done_does : (m : Kept) (after : List Row) (io : Io) (who : Event) (a : ℕ) (prov : Prov) (n : ℕ) (x h : ObjName) (settles : Settling) (p : Pointer)
    (v : Value) (old mid is : List Item) (t : Store) → Some (x, settles) ≡ heap_start_in m a prov → n ≢ 0 → n ≤ 1048576 → h ≡ heap_name who →
    nat_lt (2 ^ 26) (created_with (store_of m io) n) ≡ false → v ≡ Ptr p.addr p.prov → after ≡ rows_made m h n → IsMadeAs (Ok p) m io h n → old ≡ [] →
    mid ≡ old ++ (settling_items settles ++ Alive x ∷ []) →
    is ≡ mid ++ moved_items x h (min (size_in (row_of m.rows x)) n) (min (size_in (row_of m.rows x)) n) →
    t ≡ moved_store (rows_made m h n) x h n (after_settling settles (store_of m io)) → Does given_value (Ok v) is t (resizing m io after who a prov n)
done_does m after io who a prov n x h settles p v old mid is t found some most name limit value rows made none first rest store =
    let size = min (size_in (row_of m.rows x)) n in
    subst (λ (w : Value). Does given_value (Ok w) is t (resizing m io after who a prov n)) (sym value)
    (under_made (Ok (Ptr p.addr p.prov)) is t m io after who a prov n h name rows
    (moved_does m io who a prov n x settles p old mid is t found (some_given n some most) limit (named_as (Ok p) m io h (heap_name who) n name made) none
    first (rest ∙ ap (λ (y : ObjName). mid ++ moved_items x y size size) name)
    (store ∙ ap (λ (y : ObjName). moved_store (rows_made m y n) x y n (after_settling settles (store_of m io))) name)))

pub rows_rest : (new m : Kept) → record new { cells = [] } ≡ record m { cells = [] } → new.rows ≡ m.rows
rows_rest new m e = ap (λ (k : Kept). k.rows) e

-- ---- realloc to no bytes
null_by : (v : Value) (is : List Item) (t : Store) (act : Act (Unit {0})) → v ≡ Ptr 0 Empty → Does (λ u. u) (Ok tt) is t act →
    Does given_value (Ok v) is t (then act (λ w u. Done null [] u))
null_by v is t (Done w js u) value h = does_same given_value (Ok v) is t (behind js (Done null [] u)) (Done null (js ++ []) u) (behind_done js [] null u)
    (value, h.1 ∙ sym (append-nil js), h.2)
null_by v is t act value h = absurd h

pub released_null : (rows : List Row) (a : ℕ) (prov : Prov) (v : Value) (is : List Item) (s t : Store) → v ≡ Ptr 0 Empty →
    Does (λ u. u) (Ok tt) is t (run rows (free rows a prov ReallocOfOther) s) → Does given_value (Ok v) is t (run rows (released rows a prov) s)
released_null rows a prov v is s t value h =
    does_same given_value (Ok v) is t (run rows (released rows a prov) s) (then (run rows (free rows a prov ReallocOfOther) s) (λ w u. Done null [] u))
    (run_then rows (free rows a prov ReallocOfOther) (λ w. Give null) s) (null_by v is t (run rows (free rows a prov ReallocOfOther) s) value h)

fault_null : (b : LibAnswer) (is : List Item) (t : Store) (act : Act (Unit {0})) → Does {A = Unit {0}} {B = Unit {0}} (λ u. u) (Err b) is t act →
    Does given_value (Err b) is t (then act (λ w u. Done null [] u))
fault_null answers.NoMemory is t act h = tt
fault_null (answers.Raise c) is t (Raised d) h = h
fault_null (answers.Outside c n) is t (Outside d k) h = h
fault_null answers.Unplaced is t Unplaced h = tt
fault_null b is t act h = absurd h

pub released_fault : (rows : List Row) (a : ℕ) (prov : Prov) (b : LibAnswer) (is : List Item) (s t : Store) →
    Does {A = Unit {0}} {B = Unit {0}} (λ u. u) (Err b) is t (run rows (free rows a prov ReallocOfOther) s) →
    Does given_value (Err b) is t (run rows (released rows a prov) s)
released_fault rows a prov b is s t h =
    does_same given_value (Err b) is t (run rows (released rows a prov) s) (then (run rows (free rows a prov ReallocOfOther) s) (λ w u. Done null [] u))
    (run_then rows (free rows a prov ReallocOfOther) (λ w. Give null) s) (fault_null b is t (run rows (free rows a prov ReallocOfOther) s) h)

-- ---- realloc by its pointer and its size
realloc_null : (rows : List Row) (who : Event) (a : ℕ) (prov : Prov) (n : ℕ) → a ≡ 0 → malloc rows who n ≡ realloc rows who a prov n
realloc_null rows who zero prov n e = refl
realloc_null rows who (suc a) prov n e = absurd (cc)

realloc_none : (rows : List Row) (who : Event) (a : ℕ) (prov : Prov) → a ≢ 0 → released rows a prov ≡ realloc rows who a prov 0
realloc_none rows who zero prov some = absurd (some refl)
realloc_none rows who (suc a) prov some = refl

realloc_some : (rows : List Row) (who : Event) (a : ℕ) (prov : Prov) (n : ℕ) → a ≢ 0 → n ≢ 0 → resized rows who a prov n ≡ realloc rows who a prov n
realloc_some rows who zero prov n some more = absurd (some refl)
realloc_some rows who (suc a) prov zero some more = absurd (more refl)
realloc_some rows who (suc a) prov (suc n) some more = refl

abbrev pub changing : Kept → Io → List Row → Event → ℕ → Prov → ℕ → Act LibValue
changing m io rows who a prov n = created_within n (store_of m io) (run rows (realloc rows who a prov n) (store_of m io))

pub null_changes : (r : Result Value LibAnswer) (is : List Item) (t : Store) (m : Kept) (io : Io) (rows : List Row) (who : Event) (a : ℕ) (prov : Prov)
    (n : ℕ) → a ≡ 0 →
    Does given_value r is t (created_within n (store_of m io) (run rows (malloc rows who n) (store_of m io))) →
    Does given_value r is t (changing m io rows who a prov n)
null_changes r is t m io rows who a prov n e h =
    subst (λ (q : Script LibValue). Does given_value r is t (created_within n (store_of m io) (run rows q (store_of m io))))
    (realloc_null rows who a prov n e) h

limit_none : (s : Store) (act : Act LibValue) → created_within 0 s act ≡ act
limit_none s (Raised c) = refl
limit_none s (Done v is u) = refl
limit_none s (Ended k is u) = refl
limit_none s (Outside c k) = refl
limit_none s Unplaced = refl

none_changes_by : (r : Result Value LibAnswer) (is : List Item) (t : Store) (m : Kept) (io : Io) (rows : List Row) (who : Event) (a : ℕ) (prov : Prov) →
    a ≢ 0 →
    Does given_value r is t (run rows (released rows a prov) (store_of m io)) → Does given_value r is t (changing m io rows who a prov 0)
none_changes_by r is t m io rows who a prov some h =
    does_same given_value r is t (changing m io rows who a prov 0) (run rows (released rows a prov) (store_of m io))
    (limit_none (store_of m io) (run rows (realloc rows who a prov 0) (store_of m io)) ∙ ap (λ (q : Script LibValue). run rows q (store_of m io))
    (sym (realloc_none rows who a prov some))) h

pub none_changes : (r : Result Value LibAnswer) (is : List Item) (t : Store) (m : Kept) (io : Io) (rows : List Row) (who : Event) (a : ℕ) (prov : Prov)
    (n : ℕ) → a ≢ 0 → n ≡ 0 →
    Does given_value r is t (run rows (released rows a prov) (store_of m io)) → Does given_value r is t (changing m io rows who a prov n)
none_changes r is t m io rows who a prov n some none h =
    subst (λ (k : ℕ). Does given_value r is t (changing m io rows who a prov k)) (sym none) (none_changes_by r is t m io rows who a prov some h)

pub some_changes : (r : Result Value LibAnswer) (is : List Item) (t : Store) (m : Kept) (io : Io) (rows : List Row) (who : Event) (a : ℕ) (prov : Prov)
    (n : ℕ) → a ≢ 0 → n ≢ 0 → Does given_value r is t (resizing m io rows who a prov n) → Does given_value r is t (changing m io rows who a prov n)
some_changes r is t m io rows who a prov n some more h =
    subst (λ (q : Script LibValue). Does given_value r is t (created_within n (store_of m io) (run rows q (store_of m io))))
    (realloc_some rows who a prov n some more) h

-- ---- by arguments
pub does_args : (r : Result Value LibAnswer) (is : List Item) (t : Store) (m : Kept) (io : Io) (rows : List Row) (who : Event) (a b : ℕ) (p q : Prov)
    (n k : ℕ) → a ≡ b → p ≡ q → n ≡ k →
    Does given_value r is t (changing m io rows who a p n) → Does given_value r is t (changing m io rows who b q k)
does_args r is t m io rows who a b p q n k address prov size h =
    subst (λ (j : ℕ). Does given_value r is t (changing m io rows who b q j)) size
    (subst (λ (c : Prov). Does given_value r is t (changing m io rows who b c n)) prov
    (subst (λ (c : ℕ). Does given_value r is t (changing m io rows who c p n)) address h))
