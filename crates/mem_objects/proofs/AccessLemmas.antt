-- How scripts are run one after another, and the checks of an access.
use Rattle.std.proofs.Common.{
  ◌≡◌,
  ℕ,
  ◌+◌,
  ◌-◌,
  ◌<◌,
  ◌≤◌,
  Bool,
  true,
  false,
  ◌&&◌,
  cond,
  refl,
  sym,
  ap,
  ap₂,
  ◌∙◌,
  subst,
  arith,
  List,
  [],
  ◌∷◌,
  ◌++◌,
  length,
  Option,
  Some,
  None,
  slice_get,
}
use Rattle.std.specs.Prelude.{Result, Ok, Err, IfOk, IfErr, nat_le, ◌==◌}
use Rattle.std.proofs.lemmas.Bool.Decides.{nat_tests}
use Rattle.ub_base.specs.declared.clause.Clause.{Clause}
use Rattle.ub_base.specs.declared.clause.Clause.TheVariants.{DeadObject, InvalidPointer, OutOfBounds}
use Rattle.ub_base.specs.declared.names.Event.{Event}
use Rattle.ub_base.specs.declared.names.Item.{Item}
use Rattle.ub_base.specs.declared.names.Item.TheVariants.{Narrow, Alive}
use Rattle.ub_base.specs.declared.names.ObjName.{ObjName}
use Rattle.addr_map.specs.declared.map.Row.{Row}
use Rattle.addr_map.specs.Rows.{row_of}
use Rattle.exposure.specs.declared.prov.Prov.{Prov}
use Rattle.exposure.specs.declared.prov.Prov.TheVariants.{Either}
use Rattle.exposure.specs.Cells.{kept_in, is_other}
use Rattle.mem_spec.specs.Store.{Store, Life, settled, is_live}
use Rattle.mem_spec.specs.Script.{
  Script,
  Give,
  Raise,
  Finish,
  Exceed,
  Misplace,
  Do,
  Touch,
  Ask,
  Get,
  Put,
  Bear,
  Bury,
  Show,
  Find,
  Settle,
  Take,
  Print,
  Act,
  Done,
  Raised,
  Ended,
  Outside,
  Unplaced,
  run,
  touched,
  refused,
  refuses,
  answer,
  left,
  item_of,
  touch,
  ◌>>=◌,
  ◌>>◌,
}
use Rattle.mem_objects.specs.declared.accessed.Accessed.{Accessed as Found}
use Rattle.mem_spec.specs.Acts.{Accessed, in_row, offset_in, is_aligned, object_of, access}
use Rattle.mem_spec.specs.Streams.{Io}
use Rattle.mem_objects.specs.Held.{Held, held_of, has_range, name_at}
use Rattle.mem_objects.proofs.HeldLemmas.{named_at}
use Rattle.mem_objects.specs.Memory.{Kept, store_of, life_in, IsRowOf}
use Rattle.mem_objects.specs.Made.{Settling, CanSettle, after_settling, settling_items}
use Rattle.mem_objects.specs.Access.{chosen_of, CanSettleOf, IsReached, IsReachedBy, reached, access_in, checked_offset}

-- items before those of what follows
abbrev pub before : {V : Type 0} → List Item → Act V → Act V
before [] a = a
before (i ∷ is) a = touched i (before is a)

abbrev pub after : {A B : Type 0} → List Row → (A → Script B) → Act A → Act B
after rows k (Done v is s) = before is (run rows (k v) s)
after rows k (Raised c) = Raised c
after rows k (Ended n is s) = Ended n is s
after rows k (Outside c n) = Outside c n
after rows k Unplaced = Unplaced

refused_after : {A B : Type 0} (rows : List Row) (k : A → Script B) (t : Touch) → refused t ≡ after rows k (refused t)
refused_after rows k (Ask x) = refl
refused_after rows k (Get x a n) = refl
refused_after rows k (Put x a bs) = refl
refused_after rows k (Bear x size kind declared) = refl
refused_after rows k (Bury x) = refl
refused_after rows k (Show x) = refl
refused_after rows k (Find a) = refl
refused_after rows k (Settle id x c) = refl
refused_after rows k Take = refl
refused_after rows k (Print to bs) = refl

touched_after : {A B : Type 0} (rows : List Row) (k : A → Script B) (i : Item) (a : Act A) → touched i (after rows k a) ≡ after rows k (touched i a)
touched_after rows k i (Done v is s) = refl
touched_after rows k i (Raised c) = refl
touched_after rows k i (Ended n is s) = refl
touched_after rows k i (Outside c n) = refl
touched_after rows k i Unplaced = refl

touch_split : {A B : Type 0} (b : Bool) (rows : List Row) (k : A → Script B) (t : Touch) (first : Act A) (both : Act B) → both ≡ after rows k first →
    cond b (refused t) (touched (item_of t) both) ≡ after rows k (cond b (refused t) (touched (item_of t) first))
touch_split true rows k t first both e = refused_after rows k t
touch_split false rows k t first both e = ap (touched (item_of t)) e ∙ touched_after rows k (item_of t) first

pub run_bind : {A B : Type 0} (rows : List Row) (p : Script A) (k : A → Script B) (s : Store) → run rows (p >>= k) s ≡ after rows k (run rows p s)
run_bind rows (Give v) k s = refl
run_bind rows (Raise c) k s = refl
run_bind rows (Finish n) k s = refl
run_bind rows (Exceed c n) k s = refl
run_bind rows Misplace k s = refl
run_bind rows (Do t g) k s = touch_split (refuses t s) rows k t (run rows (g (answer rows t s)) (left t s)) (run rows (g (answer rows t s) >>= k) (left t s))
    (run_bind rows (g (answer rows t s)) k (left t s))

before_done : {V : Type 0} (is js : List Item) (v : V) (s : Store) → before is (Done v js s) ≡ Done v (is ++ js) s
before_done [] js v s = refl
before_done (i ∷ is) js v s = ap (touched i) (before_done is js v s)

before_raised : {V : Type 0} (is : List Item) (c : Clause) → before {V = V} is (Raised c) ≡ Raised c
before_raised [] c = refl
before_raised (i ∷ is) c = ap (touched i) (before_raised is c)

pub done_then : {A B : Type 0} (rows : List Row) (p : Script A) (k : A → Script B) (s t u : Store) (v : A) (w : B) (is js : List Item) →
    run rows p s ≡ Done v is t → run rows (k v) t ≡ Done w js u → run rows (p >>= k) s ≡ Done w (is ++ js) u
done_then rows p k s t u v w is js e f = run_bind rows p k s ∙ ap (after rows k) e ∙ ap (before is) f ∙ before_done is js w u

pub raised_then : {A B : Type 0} (rows : List Row) (p : Script A) (k : A → Script B) (s t : Store) (v : A) (is : List Item) (c : Clause) →
    run rows p s ≡ Done v is t → run rows (k v) t ≡ Raised c → run rows (p >>= k) s ≡ Raised c
raised_then rows p k s t v is c e f = run_bind rows p k s ∙ ap (after rows k) e ∙ ap (before is) f ∙ before_raised is c

pub raised_first : {A B : Type 0} (rows : List Row) (p : Script A) (k : A → Script B) (s : Store) (c : Clause) → run rows p s ≡ Raised c →
    run rows (p >>= k) s ≡ Raised c
raised_first rows p k s c e = run_bind rows p k s ∙ ap (after rows k) e

-- ---- the object of an access
settles_done : (rows : List Row) (m : Kept) (io : Io) (id : Event) (keep : ObjName) → is_other (kept_in m.cells id) keep ≡ false →
    run rows (touch (Settle id keep OutOfBounds) >> Give keep) (store_of m io) ≡ Done keep (Narrow id keep ∷ []) (settled (store_of m io) id keep)
settles_done rows m io id keep e = rw e refl

settles_raise : (rows : List Row) (m : Kept) (io : Io) (id : Event) (keep : ObjName) → is_other (kept_in m.cells id) keep ≡ true →
    run rows (touch (Settle id keep OutOfBounds) >> Give keep) (store_of m io) ≡ Raised OutOfBounds
settles_raise rows m io id keep e = rw e refl

abbrev pub Outcome : Type 0
Outcome = Result (ObjName × Settling) Clause

abbrev pub Finds : List Row → Script ObjName → Kept → Outcome → Type 0
Finds rows p m r = IfOk r (λ q. (io : Io) → run rows p (store_of m io) ≡ Done q.0 (settling_items q.1) (after_settling q.1 (store_of m io)))

abbrev pub Refuses : List Row → Script ObjName → Kept → Outcome → Type 0
Refuses rows p m r = IfErr r (λ c. (io : Io) → run rows p (store_of m io) ≡ Raised c)

found_by : (b : Bool) (rows : List Row) (p : Script ObjName) (m : Kept) (id : Event) (keep : ObjName) → is_other (kept_in m.cells id) keep ≡ b →
    ((io : Io) → run rows p (store_of m io) ≡ run rows (touch (Settle id keep OutOfBounds) >> Give keep) (store_of m io)) →
    Finds rows p m (chosen_of b id keep) × Refuses rows p m (chosen_of b id keep)
found_by true rows p m id keep e is = (tt, λ io. is io ∙ settles_raise rows m io id keep e)
found_by false rows p m id keep e is = (λ io. is io ∙ settles_done rows m io id keep e, tt)

pub found_settled : (rows : List Row) (p : Script ObjName) (m : Kept) (id : Event) (keep : ObjName) (r : Outcome) →
    r ≡ chosen_of (is_other (kept_in m.cells id) keep) id keep →
    ((io : Io) → run rows p (store_of m io) ≡ run rows (touch (Settle id keep OutOfBounds) >> Give keep) (store_of m io)) → Finds rows p m r
found_settled rows p m id keep r e is = subst (λ (o : Outcome). Finds rows p m o) (sym e)
    (found_by (is_other (kept_in m.cells id) keep) rows p m id keep refl is).0

pub refused_settled : (rows : List Row) (p : Script ObjName) (m : Kept) (id : Event) (keep : ObjName) (r : Outcome) →
    r ≡ chosen_of (is_other (kept_in m.cells id) keep) id keep →
    ((io : Io) → run rows p (store_of m io) ≡ run rows (touch (Settle id keep OutOfBounds) >> Give keep) (store_of m io)) → Refuses rows p m r
refused_settled rows p m id keep r e is = subst (λ (o : Outcome). Refuses rows p m o) (sym e)
    (found_by (is_other (kept_in m.cells id) keep) rows p m id keep refl is).1

can_by : (b : Bool) (m : Kept) (id : Event) (past start keep : ObjName) → is_other (kept_in m.cells id) keep ≡ b →
    IfOk (chosen_of b id keep) (λ q. CanSettleOf m (Either id past start) q.1)
can_by true m id past start keep e = tt
can_by false m id past start keep e = λ has. (has, e)

pub can_settled : (m : Kept) (id : Event) (past start keep : ObjName) (r : Outcome) → r ≡ chosen_of (is_other (kept_in m.cells id) keep) id keep →
    IfOk r (λ q. CanSettleOf m (Either id past start) q.1)
can_settled m id past start keep r e = subst (λ (o : Outcome). IfOk o (λ q. CanSettleOf m (Either id past start) q.1)) (sym e)
    (can_by (is_other (kept_in m.cells id) keep) m id past start keep refl)

pub past_holds : (rows : List Row) (len a : ℕ) (id : Event) (past start : ObjName) → in_row (row_of rows past) a len ≡ true →
    object_of rows len a (Either id past start) ≡ touch (Settle id past OutOfBounds) >> Give past
past_holds rows len a id past start e = rw e refl

pub start_holds : (rows : List Row) (len a : ℕ) (id : Event) (past start : ObjName) → in_row (row_of rows past) a len ≡ false →
    in_row (row_of rows start) a len ≡ true → object_of rows len a (Either id past start) ≡ touch (Settle id start OutOfBounds) >> Give start
start_holds rows len a id past start e f = rw (e, f) refl

pub none_holds : (rows : List Row) (len a : ℕ) (id : Event) (past start : ObjName) → in_row (row_of rows past) a len ≡ false →
    in_row (row_of rows start) a len ≡ false → object_of rows len a (Either id past start) ≡ Raise OutOfBounds
none_holds rows len a id past start e f = rw (e, f) refl

-- ---- the checks once the object is known
pub dead_raises : (rows : List Row) (len align a : ℕ) (x : ObjName) (s : Store) → is_live (s.life x) ≡ false →
    run rows (access_in rows len align a x) s ≡ Raised DeadObject
dead_raises rows len align a x s e = rw e refl

pub outside_raises : (rows : List Row) (len align a : ℕ) (x : ObjName) (s : Store) → is_live (s.life x) ≡ true → in_row (row_of rows x) a len ≡ false →
    run rows (access_in rows len align a x) s ≡ Raised OutOfBounds
outside_raises rows len align a x s e f = rw (e, f) refl

pub unaligned_raises : (rows : List Row) (len align a : ℕ) (x : ObjName) (s : Store) → is_live (s.life x) ≡ true → in_row (row_of rows x) a len ≡ true →
    is_aligned align a ≡ false → run rows (access_in rows len align a x) s ≡ Raised InvalidPointer
unaligned_raises rows len align a x s e f g = rw (e, f, g) refl

pub reaches : (rows : List Row) (len align a : ℕ) (x : ObjName) (s : Store) → is_live (s.life x) ≡ true → in_row (row_of rows x) a len ≡ true →
    is_aligned align a ≡ true → run rows (access_in rows len align a x) s ≡ Done (record { object = x; from = offset_in (row_of rows x) a; life = s.life x })
    (Alive x ∷ []) s
reaches rows len align a x s e f g = rw (e, f, g) refl

row_range : (o : Option Row) (h : Held) (a len : ℕ) → IsRowOf o h → in_row o a len ≡ has_range h a len
row_range None h a len is = absurd is
row_range (Some r) h a len is = ap₂ (λ (b n : ℕ). nat_le b a && nat_le (a + len) (b + n)) is.0 is.1

pub range_of_row : (o : Option Row) (h : Held) (a len : ℕ) → IsRowOf o h → in_row o a len ≡ has_range h a len
range_of_row o h a len is = row_range o h a len is

offset_of_row : (o : Option Row) (h : Held) (a : ℕ) → IsRowOf o h → offset_in o a ≡ a - h.base
offset_of_row None h a is = absurd is
offset_of_row (Some r) h a is = ap (λ (b : ℕ). a - b) is.0

-- what the checks decide
abbrev pub by_offset : Result ℕ Clause → ObjName → Option Life → Store → Act Accessed
by_offset (Ok from) x life s = Done (record { object = x; from = from; life = life }) (Alive x ∷ []) s
by_offset (Err c) x life s = Raised c

checks_split : (b d g : Bool) (rows : List Row) (h : Held) (len align a : ℕ) (x : ObjName) (s : Store) → h.state.live ≡ b → has_range h a len ≡ d →
    is_aligned align a ≡ g → IsRowOf (row_of rows x) h → s.life x ≡ life_in (Some h) →
    run rows (access_in rows len align a x) s ≡ by_offset (checked_offset h len align a) x (life_in (Some h)) s
checks_split false d g rows h len align a x s e f i row life =
    let off : checked_offset h len align a ≡ Err DeadObject = rw e refl in
    dead_raises rows len align a x s (ap is_live life ∙ e) ∙ ap (λ (r : Result ℕ Clause). by_offset r x (life_in (Some h)) s) (sym off)
checks_split true false g rows h len align a x s e f i row life =
    let off : checked_offset h len align a ≡ Err OutOfBounds = rw (e, f) refl in
    outside_raises rows len align a x s (ap is_live life ∙ e) (range_of_row (row_of rows x) h a len row ∙ f) ∙ ap
    (λ (r : Result ℕ Clause). by_offset r x (life_in (Some h)) s) (sym off)
checks_split true true false rows h len align a x s e f i row life =
    let off : checked_offset h len align a ≡ Err InvalidPointer = rw (e, f, i) refl in
    unaligned_raises rows len align a x s (ap is_live life ∙ e) (range_of_row (row_of rows x) h a len row ∙ f) i ∙ ap
    (λ (r : Result ℕ Clause). by_offset r x (life_in (Some h)) s) (sym off)
checks_split true true true rows h len align a x s e f i row life =
    let off : checked_offset h len align a ≡ Ok (a - h.base) = rw (e, f, i) refl in
    reaches rows len align a x s (ap is_live life ∙ e) (range_of_row (row_of rows x) h a len row ∙ f) i
    ∙ ap₂ (λ (from : ℕ) (l : Option Life). Done (record { object = x; from = from; life = l }) (Alive x ∷ []) s) (offset_of_row (row_of rows x) h a row) life
    ∙ ap (λ (r : Result ℕ Clause). by_offset r x (life_in (Some h)) s) (sym off)

pub checks : (rows : List Row) (h : Held) (len align a : ℕ) (x : ObjName) (s : Store) (r : Result ℕ Clause) → IsRowOf (row_of rows x) h →
    s.life x ≡ life_in (Some h) → r ≡ checked_offset h len align a → run rows (access_in rows len align a x) s ≡ by_offset r x (life_in (Some h)) s
checks rows h len align a x s r row life e =
    checks_split h.state.live (has_range h a len) (is_aligned align a) rows h len align a x s refl refl refl row life ∙ ap
    (λ (q : Result ℕ Clause). by_offset q x (life_in (Some h)) s) (sym e)

ok_parts : (b d g : Bool) (v from : ℕ) → Ok from ≡ cond b (cond d (cond g (Ok v) (Err InvalidPointer)) (Err OutOfBounds)) (Err DeadObject) → (b ≡ true) ×
    (d ≡ true) × (from ≡ v)
ok_parts true true true v from e = (refl, refl, cc)
ok_parts true true false v from e = absurd (cc)
ok_parts true false g v from e = absurd (cc)
ok_parts false d g v from e = absurd (cc)

within : (base size a len : ℕ) → (nat_le base a && nat_le (a + len) (base + size)) ≡ true → (a - base) + len ≤ size
within base size a len e = grind (arith, nat_tests)

pub falls : (h : Held) (len align a from : ℕ) → Ok from ≡ checked_offset h len align a → (h.state.live ≡ true) × (from + len ≤ h.size)
falls h len align a from e =
    let parts = ok_parts h.state.live (has_range h a len) (is_aligned align a) (a - h.base) from e in
    let range : (a - h.base) + len ≤ h.size = within h.base h.size a len parts.1 in
    (parts.0, omega (arith, parts.2, range))

settled_life : (o : Settling) (s : Store) (x : ObjName) → (after_settling o s).life x ≡ s.life x
settled_life None s x = refl
settled_life (Some p) s x = refl

-- ---- from the address on
not_null : (a : ℕ) → 0 + 1 ≤ a → (a == 0) ≡ false
not_null a e = grind (arith, nat_tests)

access_is : (rows : List Row) (len align a : ℕ) (prov : Prov) → 0 + 1 ≤ a →
    access rows len align a prov ≡ (object_of rows len a prov >>= access_in rows len align a)
access_is rows len align a prov e = rw (not_null a e) refl

abbrev pub RunsTo : List Row → Script ObjName → Kept → ObjName → Settling → Type 0
RunsTo rows p m x settles = (io : Io) → run rows p (store_of m io) ≡ Done x (settling_items settles) (after_settling settles (store_of m io))

pub access_done : (r : Result Found Clause) (rows : List Row) (m : Kept) (len align a : ℕ) (prov : Prov) (x : ObjName) (settles : Settling) → 0 + 1 ≤ a →
    RunsTo rows (object_of rows len a prov) m x settles
    → IfOk r (λ f. IsReachedBy m.objects f x settles len)
    → IfOk r (λ f. (s : Store) → s.life x ≡ life_in (held_of m.objects x) →
    run rows (access_in rows len align a x) s ≡ Done (reached m.objects f) (Alive x ∷ []) s)
    → IfOk r (λ f. (io : Io) → run rows (access rows len align a prov) (store_of m io) ≡ Done (reached m.objects f)
    (settling_items f.settles ++ Alive f.name ∷ []) (after_settling f.settles (store_of m io)))
access_done (Err c) rows m len align a prov x settles p runs by k = tt
access_done (Ok f) rows m len align a prov x settles p runs by k = λ io.
    ap (λ (q : Script Accessed). run rows q (store_of m io)) (access_is rows len align a prov p)
    ∙ done_then rows (object_of rows len a prov) (access_in rows len align a) (store_of m io) (after_settling settles (store_of m io))
    (after_settling settles (store_of m io)) x (reached m.objects f) (settling_items settles) (Alive x ∷ []) (runs io)
    (k (after_settling settles (store_of m io)) (settled_life settles (store_of m io) x))
    ∙ ap₂ (λ (y : ObjName) (o : Settling). Done (reached m.objects f) (settling_items o ++ Alive y ∷ []) (after_settling o (store_of m io))) (sym by.name_is)
    (sym by.settles_is)

pub access_raises : (r : Result Found Clause) (rows : List Row) (m : Kept) (len align a : ℕ) (prov : Prov) (x : ObjName) (settles : Settling) → 0 + 1 ≤ a →
    RunsTo rows (object_of rows len a prov) m x settles
    → IfErr r (λ c. (s : Store) → s.life x ≡ life_in (held_of m.objects x) → run rows (access_in rows len align a x) s ≡ Raised c)
    → IfErr r (λ c. (io : Io) → run rows (access rows len align a prov) (store_of m io) ≡ Raised c)
access_raises (Ok f) rows m len align a prov x settles p runs k = tt
access_raises (Err c) rows m len align a prov x settles p runs k = λ io.
    ap (λ (q : Script Accessed). run rows q (store_of m io)) (access_is rows len align a prov p)
    ∙ raised_then rows (object_of rows len a prov) (access_in rows len align a) (store_of m io) (after_settling settles (store_of m io)) x
    (settling_items settles) c (runs io) (k (after_settling settles (store_of m io)) (settled_life settles (store_of m io) x))

-- ---- an access by a pointer that isn't ambiguous settles nothing
pub whole_found : (r : Result Found Clause) (m : Kept) (x : ObjName) (len : ℕ) → IfOk r (λ f. IsReachedBy m.objects f x None len) →
    IfOk r (λ f. IsReached m.objects f len)
whole_found (Err c) m x len by = tt
whole_found (Ok f) m x len by = by.reached

pub whole_settles : (r : Result Found Clause) (m : Kept) (prov : Prov) (x : ObjName) (len : ℕ) → IfOk r (λ f. IsReachedBy m.objects f x None len) →
    IfOk r (λ f. CanSettleOf m prov f.settles)
whole_settles (Err c) m prov x len by = tt
whole_settles (Ok f) m prov x len by = λ cell. subst (λ (o : Settling). CanSettle m.cells o) (sym by.settles_is) tt

pub whole_items : (r : Result Found Clause) (m : Kept) (x : ObjName) (len : ℕ) (old new : List Item) →
    IfOk r (λ f. IsReachedBy m.objects f x None len) → (length old < 32 → new ≡ old ++ Alive x ∷ []) →
    IfOk r (λ f. old ≡ [] → new ≡ settling_items f.settles ++ Alive f.name ∷ [])
whole_items (Err c) m x len old new by noted = tt
whole_items (Ok f) m x len old new by noted = λ e.
    noted (omega (arith, ap length e))
    ∙ ap (λ (ts : List Item). ts ++ Alive x ∷ []) e
    ∙ ap₂ (λ (y : ObjName) (o : Settling). settling_items o ++ Alive y ∷ []) (sym by.name_is) (sym by.settles_is)

pub object_raises : (rows : List Row) (m : Kept) (len align a : ℕ) (prov : Prov) (c : Clause) → 0 + 1 ≤ a →
    ((io : Io) → run rows (object_of rows len a prov) (store_of m io) ≡ Raised c) →
    (io : Io) → run rows (access rows len align a prov) (store_of m io) ≡ Raised c
object_raises rows m len align a prov c p raises io =
    ap (λ (q : Script Accessed). run rows q (store_of m io)) (access_is rows len align a prov p) ∙ raised_first rows (object_of rows len a prov)
    (access_in rows len align a) (store_of m io) c (raises io)

some_name : (x y : ObjName) → Some x ≡ Some y → x ≡ y
some_name x y h = cc

-- the object at the place of a name has that name
pub named_is : (hs : List Held) (k : ℕ) (x : ObjName) (h : Held) → name_at hs k ≡ Some x → slice_get hs k ≡ Some h → h.name ≡ x
named_is hs k x h e f = some_name h.name x (sym (named_at hs k h f) ∙ e)
