-- Lemmas on new objects: what a creation does, where the object stands, and how bytes get into it.
use Rattle.std.proofs.Common.{
  ◌≡◌,
  ◌≢◌,
  ℕ,
  zero,
  suc,
  ◌+◌,
  ◌-◌,
  ◌*◌,
  ◌%◌,
  ◌/◌,
  ◌<◌,
  ◌≤◌,
  ◌==◌,
  Bool,
  true,
  false,
  ◌&&◌,
  ◌||◌,
  cond,
  List,
  [],
  ◌∷◌,
  ◌++◌,
  length,
  map,
  refl,
  ap,
  ap₂,
  sym,
  subst,
  ◌∙◌,
  arith,
  eq-eqb,
  Option,
  Some,
  None,
}
use Rattle.std.specs.Prelude.{Result, Ok, Err, OnOk, IfErr, nat_le, nat_lt, ◌^◌, replicate, is_some}
use Rattle.std.proofs.lemmas.Bool.Decides.{nat_tests}
use Rattle.std.proofs.lemmas.List.{length-replicate}
use Rattle.ub_base.specs.declared.clause.Clause.{Clause}
use Rattle.ub_base.specs.declared.names.Item.{Item}
use Rattle.ub_base.specs.declared.names.Item.TheVariants.{Born, Alive, Write}
use Rattle.ub_base.specs.declared.names.Event.{Event}
use Rattle.ub_base.specs.declared.names.ObjName.{ObjName}
use Rattle.ub_base.specs.Names.{same_object}
use Rattle.ub_base.proofs.NameLemmas.{same_object_refl}
use Rattle.addr_map.specs.declared.map.Row.{Row}
use Rattle.addr_map.specs.declared.map.Mode.{Mode}
use Rattle.addr_map.specs.declared.map.Mode.TheVariants.{Spaced, Tight}
use Rattle.addr_map.specs.Rows.{row_of, row_at, free_of}
use Rattle.addr_map.specs.Sound.{Above}
use Rattle.addr_map.proofs.Tests.{eq_true}
use Rattle.addr_map.proofs.RowLists.{above-insert}
use Rattle.addr_map.proofs.RowLists.{free_floor}
use Rattle.exposure.specs.declared.prov.Prov.TheVariants.{Whole}
use Rattle.mem_objects.specs.declared.answer.LibAnswer.{LibAnswer}
use Rattle.mem_objects.specs.declared.answer.LibAnswer.TheVariants as answers
use Rattle.mem_objects.specs.declared.cell.Cell.{Cell}
use Rattle.mem_objects.specs.declared.cell.Via.{Via}
use Rattle.mem_objects.specs.declared.cell.Via.TheVariants as vias
use Rattle.mem_objects.specs.declared.value.Value.TheVariants.{Ptr}
use Rattle.mem_spec.specs.Store.{Store, Life, TaggedByte, born, with_bytes, is_live}
use Rattle.mem_spec.specs.Script.{Ask, Put, Bear, Give, Misplace, touch, ◌>>=◌, ◌>>◌, Act, Done, Raised, Outside, Unplaced, run}
use Rattle.mem_spec.specs.Acts.{Seen, scalar, whole, bytes, access, in_row, offset_in, is_aligned, suits_store, stored_from, store, create, has_place, base_in}
use Rattle.mem_spec.specs.Streams.{Io}
use Rattle.mem_objects.specs.Cells.{plain_cell}
use Rattle.mem_objects.specs.Held.{held_of}
use Rattle.mem_objects.specs.Memory.{Kept, HasCell, CellsKnown, store_of, life_in, no_place, base_by, rows_with, cannot_create}
use Rattle.mem_objects.specs.Stores.{Sees, IsShort, tagged_all}
use Rattle.mem_objects.proofs.AccessLemmas.{done_then, reaches}
use Rattle.mem_objects.proofs.WriteLemmas.{store_in}
use Rattle.libc_spec.specs.Library.{LibValue, pointer, plain, is_given, heap_name, heap_kind, new_object, calloc, created_with, created_within}
use Rattle.libc_arguments.specs.declared.arguments.Pointer.{Pointer}
use Rattle.libc_arguments.specs.Answers.{Does, given_value}
use Rattle.libc_heap.specs.Making.{new_life, rows_made, IsNewAt}
use Rattle.libc_arguments.proofs.Scripts.{then, behind, run_then, behind_done}
use Rattle.libc_heap.proofs.Allocating.{does_same, based, limit_kept, limit_of}

-- ---- what a creation does
pub record IsNew (rows : List Row) (x : ObjName) (n b : ℕ) (is : List Item) (s t : Store) : Type 0 where
  pub items : is ≡ Born x ∷ []
  pub store : t ≡ born s x n heap_kind None
  pub base : b ≡ base_in (row_of rows x)
  pub place : has_place (row_of rows x) n 16 ≡ true
  pub absent : is_some (s.life x) ≡ false

done_base : (a b : ℕ) (is js : List Item) (s t : Store) → Done a js s ≡ Done b is t → b ≡ a
done_base a b is js s t e = cc

done_items : (a b : ℕ) (is js : List Item) (s t : Store) → Done a js s ≡ Done b is t → is ≡ js
done_items a b is js s t e = cc

pub done_left : {V : Type 0} (a b : V) (is js : List Item) (s t : Store) → Done a js s ≡ Done b is t → t ≡ s
done_left a b is js s t e = cc

born_if : (q : Bool) (x : ObjName) (n a b : ℕ) (is : List Item) (s t : Store) →
    cond q Unplaced (Done a (Born x ∷ []) (born s x n heap_kind None)) ≡ Done b is t →
    (is ≡ Born x ∷ []) × (t ≡ born s x n heap_kind None) × (b ≡ a) × (q ≡ false)
born_if true x n a b is s t e = absurd (cc)
born_if false x n a b is s t e = (
  done_items a b is (Born x ∷ []) (born s x n heap_kind None) t e,
  done_left a b is (Born x ∷ []) (born s x n heap_kind None) t e,
  done_base a b is (Born x ∷ []) (born s x n heap_kind None) t e,
  refl,
)

created_if : (p : Bool) (rows : List Row) (x : ObjName) (n a b : ℕ) (is : List Item) (s t : Store) →
    run rows (cond p (touch (Bear x n heap_kind None) >> Give a) Misplace) s ≡ Done b is t →
    (p ≡ true) × (cond (is_some (s.life x)) Unplaced (Done a (Born x ∷ []) (born s x n heap_kind None)) ≡ Done b is t)
created_if true rows x n a b is s t e = (refl, e)
created_if false rows x n a b is s t e = absurd (cc)

created_is : (rows : List Row) (x : ObjName) (n b : ℕ) (is : List Item) (s t : Store) → run rows (create rows x n 16 heap_kind None) s ≡ Done b is t →
    IsNew rows x n b is s t
created_is rows x n b is s t e =
    let p = created_if (has_place (row_of rows x) n 16) rows x n (base_in (row_of rows x)) b is s t e in
    let q = born_if (is_some (s.life x)) x n (base_in (row_of rows x)) b is s t p.1 in
    record { items = q.0; store = q.1; base = q.2; place = p.0; absent = q.3 }

-- an act whose value is based at the object
done_by : (x : ObjName) (p : Pointer) (is : List Item) (t : Store) (act : Act ℕ) → Does (based x) (Ok p) is t act → act ≡ Done p.addr is t
done_by x p is t (Done w js u) h =
    ap (λ (b : ℕ). Done b js u) (sym (ap (λ (q : Pointer). q.addr) h.0)) ∙ ap (λ (ks : List Item). Done p.addr ks u) (sym h.1) ∙ ap
    (λ (v : Store). Done p.addr is v) (sym h.2)
done_by x p is t act h = absurd h

pub is_new : (rows : List Row) (x : ObjName) (n : ℕ) (p : Pointer) (is : List Item) (s t : Store) →
    Does (based x) (Ok p) is t (run rows (create rows x n 16 heap_kind None) s) → IsNew rows x n p.addr is s t
is_new rows x n p is s t h = created_is rows x n p.addr is s t (done_by x p is t (run rows (create rows x n 16 heap_kind None) s) h)

-- ---- where the object stands
same_row : (r s : Row) → Some s ≡ Some r → s ≡ r
same_row r s e = cc

above_if : (b : Bool) (k : ℕ) (s r : Row) (o : Option Row) → k ≤ s.base → (o ≡ Some r → k ≤ r.base) → cond b (Some s) o ≡ Some r → k ≤ r.base
above_if true k s r o h g e = subst (λ (q : Row). k ≤ q.base) (same_row r s e) h
above_if false k s r o h g e = g e

above_row : (k : ℕ) (x : ObjName) (rows : List Row) (r : Row) → Above k rows → row_of rows x ≡ Some r → k ≤ r.base
above_row k x [] r h e = absurd (cc)
above_row k x (s ∷ rows) r h e = above_if (same_object s.name x) k s r (row_of rows x) h.0 (λ f. above_row k x rows r h.1 f) e

pub true_false : true ≡ false → ⊥
true_false e = absurd (cc)

spaced_high : (n : ℕ) → 16777216 ≤ n → 16777216 ≤ (n + 16 + (16 - 1)) / 16 * 16
spaced_high n h = omega (arith, h)

tight_high : (n : ℕ) → 16777216 ≤ n → 16777216 ≤ (n + (16 - 1)) / 16 * 16
tight_high n h = omega (arith, h)

made_above : (c : Bool) (o : Option Row) (mode : Option Mode) (m : Kept) (x : ObjName) (n : ℕ) → (c ≡ false → no_place m o mode n 16 ≡ false) →
    Above 16777216 m.rows →
    Above 16777216 (cond c m.rows (rows_with o (row_at x (base_by o mode m.rows 16) n 16) m.rows))
made_above true o mode m x n place h = h
made_above false (Some r) mode m x n place h = h
made_above false None None m x n place h = absurd (true_false (place refl))
made_above false None (Some Spaced) m x n place h = above-insert 16777216 (row_at x (base_by None (Some Spaced) m.rows 16) n 16) m.rows
    (spaced_high (free_of m.rows) (free_floor m.rows)) h
made_above false None (Some Tight) m x n place h = above-insert 16777216 (row_at x (base_by None (Some Tight) m.rows 16) n 16) m.rows
    (tight_high (free_of m.rows) (free_floor m.rows)) h

or_false : (a b : Bool) → a || b ≡ false → b ≡ false
or_false true b e = absurd (cc)
or_false false b e = e

-- no row begins lower than before
pub rows_above : (m : Kept) (x : ObjName) (n : ℕ) → Above 16777216 m.rows → Above 16777216 (rows_made m x n)
rows_above m x n h =
    made_above (cannot_create m x n 16) (row_of m.rows x) m.mode m x n
    (λ e. or_false (is_some (held_of m.objects x)) (no_place m (row_of m.rows x) m.mode n 16) e) h

pub both_left : (a b : Bool) → a && b ≡ true → a ≡ true
both_left true b e = refl
both_left false b e = absurd (cc)

pub record IsPlaced (o : Option Row) (n : ℕ) : Type 0 where
  pub row : Row
  pub there : o ≡ Some row
  pub size : row.size ≡ n

placed_row : (o : Option Row) (n : ℕ) → has_place o n 16 ≡ true → IsPlaced o n
placed_row None n e = absurd (cc)
placed_row (Some r) n e = record { row = r; there = refl; size = eq_true r.size n (both_left (r.size == n) (r.align == 16) e) }

positive : (a b : ℕ) → 16777216 ≤ a → a ≡ b → 0 < b
positive a b h e = omega (arith, h, e)

at_most : (len n k : ℕ) → len ≤ n → k ≡ n → len ≤ k
at_most len n k h e = omega (arith, h, e)

pub new_at : (m : Kept) (x : ObjName) (n b len : ℕ) (is : List Item) (s : Store) (io : Io) → IsNew m.rows x n b is s (store_of m io) → Above 16777216 m.rows →
    len ≤ n → IsNewAt m x b len
new_at m x n b len is s io new above fits =
    let p = placed_row (row_of m.rows x) n new.place in
    let base : p.row.base ≡ b = sym (new.base ∙ ap base_in p.there) in
    record {
      row = p.row;
      there = p.there;
      base = base;
      above = positive p.row.base b (above_row 16777216 x m.rows p.row above p.there) base;
      room = at_most len n p.row.size fits p.size;
      life = ap (λ (t : Store). t.life x) new.store ∙ ap (λ (b : Bool). cond b (Some new_life) (s.life x)) (same_object_refl x);
    }

-- ---- bytes get into it
suits_all : (seen : Seen) (from : ℕ) → suits_store seen None from ≡ true
suits_all (scalar a) from = refl
suits_all whole from = refl
suits_all bytes from = refl

not_null : (a : ℕ) → 0 < a → (a == 0) ≡ false
not_null a h = grind (arith, nat_tests)

pub within : (a b len size : ℕ) → b ≡ a → len ≤ size → nat_le b a && nat_le (a + len) (b + size) ≡ true
within a b len size e h = grind (arith, nat_tests)

aligned_all : (a : ℕ) → is_aligned 1 a ≡ true
aligned_all a = eq-eqb (a % 1) 0 (omega arith)

pub access_there : (rows : List Row) (x : ObjName) (r : Row) (a len : ℕ) (s : Store) → row_of rows x ≡ Some r → r.base ≡ a → 0 < a → len ≤ r.size →
    is_live (s.life x) ≡ true →
    run rows (access rows len 1 a (Whole x)) s ≡ Done (record { object = x; from = offset_in (row_of rows x) a; life = s.life x }) (Alive x ∷ []) s
access_there rows x r a len s there base above room live =
    let z : (a == 0) ≡ false = not_null a above in
    rw z (reaches rows len 1 a x s live (ap (λ (o : Option Row). in_row o a len) there ∙ within a r.base len r.size base room) (aligned_all a))

pub no_offset : (a b : ℕ) → b ≡ a → a - b ≡ 0
no_offset a b e = omega (arith, e)

put_new : (rows : List Row) (x : ObjName) (seen : Seen) (bs : List TaggedByte) (s : Store) →
    run rows (store_in true seen bs (record { object = x; from = 0; life = Some new_life })) s ≡ Done tt
    (Write x 0 (length (stored_from None seen 0 bs)) ∷ []) (with_bytes s x 0 (stored_from None seen 0 bs))
put_new rows x seen bs s = rw (suits_all seen 0) refl

put_there : (rows : List Row) (x : ObjName) (r : Row) (a : ℕ) (seen : Seen) (bs : List TaggedByte) (s : Store) → row_of rows x ≡ Some r → r.base ≡ a →
    s.life x ≡ Some new_life →
    run rows (store_in true seen bs (record { object = x; from = offset_in (row_of rows x) a; life = s.life x })) s ≡ Done tt
    (Write x 0 (length (stored_from None seen 0 bs)) ∷ []) (with_bytes s x 0 (stored_from None seen 0 bs))
put_there rows x r a seen bs s there base life =
    ap₂ (λ (k : ℕ) (o : Option Life). run rows (store_in true seen bs (record { object = x; from = k; life = o })) s)
    (ap (λ (o : Option Row). offset_in o a) there ∙ no_offset a r.base base) life
    ∙ put_new rows x seen bs s

filled_run : (m : Kept) (x : ObjName) (a : ℕ) (seen : Seen) (bs : List TaggedByte) (io : Io) → IsNewAt m x a (length bs) →
    run m.rows (store m.rows true seen 1 a (Whole x) bs) (store_of m io) ≡ Done tt (Alive x ∷ Write x 0 (length (stored_from None seen 0 bs)) ∷ [])
    (with_bytes (store_of m io) x 0 (stored_from None seen 0 bs))
filled_run m x a seen bs io new =
    done_then m.rows (access m.rows (length bs) 1 a (Whole x)) (store_in true seen bs) (store_of m io) (store_of m io)
    (with_bytes (store_of m io) x 0 (stored_from None seen 0 bs))
    (record { object = x; from = offset_in (row_of m.rows x) a; life = life_in (held_of m.objects x) }) tt (Alive x ∷ [])
    (Write x 0 (length (stored_from None seen 0 bs)) ∷ [])
    (access_there m.rows x new.row a (length bs) (store_of m io) new.there new.base new.above new.room (ap is_live new.life))
    (put_there m.rows x new.row a seen bs (store_of m io) new.there new.base new.life)

abbrev pub Stores : Result (Unit {0}) Clause → Kept → Kept → Via → ObjName → ℕ → List Cell → List Item → Type 0
Stores r m new via x a cs is = OnOk r (HasCell m (Whole x) → IsShort via (length cs) → (seen : Seen) → Sees m via seen →
    (io : Io) → run m.rows (store m.rows true seen 1 a (Whole x) (tagged_all m cs)) (store_of m io) ≡ Done tt is (store_of new io))

abbrev pub Refuses : Result (Unit {0}) Clause → Kept → Via → ObjName → ℕ → List Cell → Type 0
Refuses r m via x a cs = IfErr r (λ c. (seen : Seen) → Sees m via seen →
    (io : Io) → run m.rows (store m.rows true seen 1 a (Whole x) (tagged_all m cs)) (store_of m io) ≡ Raised c)

pub not_raised : {V : Type 0} (v : V) (is : List Item) (s : Store) (c : Clause) → Done v is s ≡ Raised c → ⊥
not_raised v is s c e = absurd (cc)

-- a new object takes the bytes
pub filled_is : (r : Result (Unit {0}) Clause) (m new : Kept) (via : Via) (seen : Seen) (x : ObjName) (a : ℕ) (cs : List Cell) (is : List Item) →
    Stores r m new via x a cs is → Refuses r m via x a cs →
    IsShort via (length cs) → Sees m via seen → IsNewAt m x a (length (tagged_all m cs)) →
    (io : Io) → store_of new io ≡ with_bytes (store_of m io) x 0 (stored_from None seen 0 (tagged_all m cs))
filled_is (Ok u) m new via seen x a cs is stores refuses short sees at io =
    done_left tt tt is (Alive x ∷ Write x 0 (length (stored_from None seen 0 (tagged_all m cs))) ∷ [])
    (with_bytes (store_of m io) x 0 (stored_from None seen 0 (tagged_all m cs))) (store_of new io)
    (sym (filled_run m x a seen (tagged_all m cs) io at) ∙ stores tt short seen sees io)
filled_is (Err c) m new via seen x a cs is stores refuses short sees at io =
    absurd (not_raised tt (Alive x ∷ Write x 0 (length (stored_from None seen 0 (tagged_all m cs))) ∷ [])
    (with_bytes (store_of m io) x 0 (stored_from None seen 0 (tagged_all m cs))) c
    (sym (filled_run m x a seen (tagged_all m cs) io at) ∙ refuses seen sees io))

-- ---- which bytes
pub stored_whole : (i : ℕ) (bs : List TaggedByte) → stored_from None whole i bs ≡ bs
stored_whole i [] = refl
stored_whole i (b ∷ bs) = ap (λ (cs : List TaggedByte). b ∷ cs) (stored_whole (suc i) bs)

stored_plain : (i n : ℕ) → stored_from None bytes i (replicate n (plain 0)) ≡ replicate n (plain 0)
stored_plain i zero = refl
stored_plain i (suc n) = ap (λ (cs : List TaggedByte). plain 0 ∷ cs) (stored_plain (suc i) n)

tagged_zeros : (m : Kept) (n : ℕ) → tagged_all m (map plain_cell (replicate n 0)) ≡ replicate n (plain 0)
tagged_zeros m zero = refl
tagged_zeros m (suc n) = ap (λ (cs : List TaggedByte). plain 0 ∷ cs) (tagged_zeros m n)

pub zeros_known : (k n : ℕ) → CellsKnown k (map plain_cell (replicate n 0))
zeros_known k zero = tt
zeros_known k (suc n) = (omega arith, zeros_known k n)

-- the zeros of calloc
pub zeros_stored : (m : Kept) (n : ℕ) → stored_from None bytes 0 (tagged_all m (map plain_cell (replicate n 0))) ≡ replicate n (plain 0)
zeros_stored m n = ap (λ (bs : List TaggedByte). stored_from None bytes 0 bs) (tagged_zeros m n) ∙ stored_plain 0 n

pub zeros_length : (m : Kept) (n : ℕ) → length (tagged_all m (map plain_cell (replicate n 0))) ≡ n
zeros_length m n = ap (λ (bs : List TaggedByte). length bs) (tagged_zeros m n) ∙ length-replicate n (plain 0)

-- ---- calloc
pub then_value : (x : ObjName) (p : Pointer) (is js new : List Item) (u t : Store) (act : Act ℕ) (k : Store → Store) → Does (based x) (Ok p) is u act →
    new ≡ is ++ js → t ≡ k u →
    Does given_value (Ok (Ptr p.addr p.prov)) new t (then act (λ base v. Done (pointer base (Whole x)) js (k v)))
then_value x p is js new u t (Done b is' u') k h items store =
    does_same given_value (Ok (Ptr p.addr p.prov)) new t (behind is' (Done (pointer b (Whole x)) js (k u'))) (Done (pointer b (Whole x)) (is' ++ js) (k u'))
    (behind_done is' js (pointer b (Whole x)) (k u'))
    (ap (λ (q : Pointer). Ptr q.addr q.prov) h.0, items ∙ ap (λ (ks : List Item). ks ++ js) h.1, store ∙ ap k h.2)
then_value x p is js new u t act k h items store = absurd h

pub then_fault : (x : ObjName) (a : LibAnswer) (is new : List Item) (u t : Store) (act : Act ℕ) (k : ℕ → Store → Act LibValue) →
    Does (based x) (Err a) is u act → Does given_value (Err a) new t (then act k)
then_fault x answers.NoMemory is new u t act k h = tt
then_fault x (answers.Raise c) is new u t (Raised d) k h = h
then_fault x (answers.Outside c n) is new u t (Outside d j) k h = h
then_fault x answers.Unplaced is new u t Unplaced k h = tt
then_fault x a is new u t act k h = absurd h

abbrev pub zeroed : ObjName → ℕ → ℕ → Store → Act LibValue
zeroed x n base u = Done (pointer base (Whole x)) (Alive x ∷ Write x 0 (length (replicate n (plain 0))) ∷ []) (with_bytes u x 0 (replicate n (plain 0)))

calloc_then : (rows : List Row) (who : Event) (n : ℕ) (s : Store) → is_given n ≡ true →
    run rows (calloc rows who n) s ≡ then (run rows (new_object rows who n) s) (zeroed (heap_name who) n)
calloc_then rows who n s e =
    rw e (run_then rows (new_object rows who n) (λ base. touch (Ask (heap_name who)) >>=
    (λ life. touch (Put (heap_name who) 0 (replicate n (plain 0))) >> Give (pointer base (Whole (heap_name who))))) s)

pub calloc_is : (rows : List Row) (who : Event) (n : ℕ) (s : Store) → is_given n ≡ true → nat_lt (2 ^ 26) (created_with s n) ≡ false →
    created_within n s (run rows (calloc rows who n) s) ≡ then (run rows (new_object rows who n) s) (zeroed (heap_name who) n)
calloc_is rows who n s e h = limit_kept n s (run rows (calloc rows who n) s) e h ∙ calloc_then rows who n s e

abbrev pub Fills : Kept → Kept → Via → ObjName → ℕ → List Cell → Type 0
Fills m new via x a cs = IsShort via (length cs) → (seen : Seen) → Sees m via seen → IsNewAt m x a (length (tagged_all m cs)) →
    (io : Io) → store_of new io ≡ with_bytes (store_of m io) x 0 (stored_from None seen 0 (tagged_all m cs))

zeroed_items : (x : ObjName) (k : ℕ) (old is items : List Item) → old ≡ [] → items ≡ old ++ (Born x ∷ Alive x ∷ Write x 0 k ∷ []) → is ≡ Born x ∷ [] →
    items ≡ is ++ (Alive x ∷ Write x 0 (length (replicate k (plain 0))) ∷ [])
zeroed_items x k old is items none noted first =
    noted ∙ ap (λ (os : List Item). os ++ (Born x ∷ Alive x ∷ Write x 0 k ∷ [])) none ∙ ap (λ (j : ℕ). Born x ∷ Alive x ∷ Write x 0 j ∷ [])
    (sym (length-replicate k (plain 0)))
    ∙ ap (λ (is : List Item). is ++ (Alive x ∷ Write x 0 (length (replicate k (plain 0))) ∷ [])) (sym first)

same_most : (k n : ℕ) → k ≡ n → k ≤ n
same_most k n e = omega (arith, e)

zeroed_value : (m mid new : Kept) (x : ObjName) (k : ℕ) (p : Pointer) (is old items : List Item) (io : Io) → Above 16777216 mid.rows →
    Fills mid new vias.Bytes x p.addr (map plain_cell (replicate k 0)) →
    old ≡ [] → items ≡ old ++ (Born x ∷ Alive x ∷ Write x 0 k ∷ []) →
    Does (based x) (Ok p) is (store_of mid io) (run mid.rows (create mid.rows x k 16 heap_kind None) (store_of m io)) →
    Does given_value (Ok (Ptr p.addr p.prov)) items (store_of new io)
    (then (run mid.rows (create mid.rows x k 16 heap_kind None) (store_of m io)) (zeroed x k))
zeroed_value m mid new x k p is old items io above fills none noted does =
    let made = is_new mid.rows x k p is (store_of m io) (store_of mid io) does in
    let at = new_at mid x k p.addr (length (tagged_all mid (map plain_cell (replicate k 0)))) is (store_of m io) io made above
    (same_most _ k (zeros_length mid k)) in
    then_value x p is (Alive x ∷ Write x 0 (length (replicate k (plain 0))) ∷ []) items (store_of mid io) (store_of new io)
    (run mid.rows (create mid.rows x k 16 heap_kind None) (store_of m io)) (λ u. with_bytes u x 0 (replicate k (plain 0))) does
    (zeroed_items x k old is items none noted made.items)
    (fills tt bytes tt at io ∙ ap (with_bytes (store_of mid io) x 0) (zeros_stored mid k))

-- the object is made, and its bytes are zeros
pub calloc_done : (m mid new : Kept) (who : Event) (n k : ℕ) (x : ObjName) (p : Pointer) (is old items : List Item) (cs : List Cell) (io : Io) → k ≡ n →
    x ≡ heap_name who → is_given n ≡ true → nat_lt (2 ^ 26) (created_with (store_of m io) k) ≡ false →
    mid.rows ≡ rows_made m x k → new.rows ≡ mid.rows → Above 16777216 m.rows → cs ≡ map plain_cell (replicate k 0) → Fills mid new vias.Bytes x p.addr cs →
    old ≡ [] → items ≡ old ++ (Born x ∷ Alive x ∷ Write x 0 k ∷ []) →
    Does (based x) (Ok p) is (store_of mid io) (run mid.rows (create mid.rows x k 16 heap_kind None) (store_of m io)) →
    Does given_value (Ok (Ptr p.addr p.prov)) items (store_of new io) (created_within n (store_of m io) (run new.rows (calloc new.rows who n) (store_of m io)))
calloc_done m mid new who n k x p is old items cs io size name given limit rows same above zeros fills none noted does =
    let high : Above 16777216 mid.rows = subst (λ (rs : List Row). Above 16777216 rs) (sym rows) (rows_above m x k above) in
    let value = zeroed_value m mid new x k p is old items io high (subst (λ (bs : List Cell). Fills mid new vias.Bytes x p.addr bs) zeros fills) none noted
    does in
    let there = subst (λ (rs : List Row). Does given_value (Ok (Ptr p.addr p.prov)) items (store_of new io)
    (then (run rs (create rs x k 16 heap_kind None) (store_of m io)) (zeroed x k))) (sym same) value in
    let asked = subst (λ (j : ℕ). Does given_value (Ok (Ptr p.addr p.prov)) items (store_of new io)
    (then (run new.rows (create new.rows x j 16 heap_kind None) (store_of m io)) (zeroed x j))) size there in
    let named = subst (λ (y : ObjName). Does given_value (Ok (Ptr p.addr p.prov)) items (store_of new io)
    (then (run new.rows (create new.rows y n 16 heap_kind None) (store_of m io)) (zeroed y n))) name asked in
    does_same given_value (Ok (Ptr p.addr p.prov)) items (store_of new io)
    (created_within n (store_of m io) (run new.rows (calloc new.rows who n) (store_of m io)))
    (then (run new.rows (new_object new.rows who n) (store_of m io)) (zeroed (heap_name who) n))
    (calloc_is new.rows who n (store_of m io) given (limit_of n k (store_of m io) size limit)) named

-- it isn't made
pub calloc_failed : (m mid : Kept) (who : Event) (n k : ℕ) (x : ObjName) (a : LibAnswer) (is items : List Item) (t : Store) (io : Io) → k ≡ n →
    x ≡ heap_name who → is_given n ≡ true → nat_lt (2 ^ 26) (created_with (store_of m io) k) ≡ false →
    Does (based x) (Err a) is (store_of mid io) (run mid.rows (create mid.rows x k 16 heap_kind None) (store_of m io)) →
    Does given_value (Err a) items t (created_within n (store_of m io) (run mid.rows (calloc mid.rows who n) (store_of m io)))
calloc_failed m mid who n k x a is items t io size name given limit does =
    let asked = subst (λ (j : ℕ). Does (based x) (Err a) is (store_of mid io) (run mid.rows (create mid.rows x j 16 heap_kind None) (store_of m io))) size
    does in
    let named = subst (λ (y : ObjName). Does (based y) (Err a) is (store_of mid io) (run mid.rows (create mid.rows y n 16 heap_kind None) (store_of m io)))
    name asked in
    does_same given_value (Err a) items t (created_within n (store_of m io) (run mid.rows (calloc mid.rows who n) (store_of m io)))
    (then (run mid.rows (new_object mid.rows who n) (store_of m io)) (zeroed (heap_name who) n))
    (calloc_is mid.rows who n (store_of m io) given (limit_of n k (store_of m io) size limit))
    (then_fault (heap_name who) a is items (store_of mid io) t (run mid.rows (new_object mid.rows who n) (store_of m io)) (zeroed (heap_name who) n) named)

abbrev pub unmade : LibAnswer → Result Pointer LibAnswer
unmade a = Err a

pub made_value : (p : Pointer) → Ok p ≢ Err answers.NoMemory
made_value p e = absurd (cc)

pub zeros_in : (k n : ℕ) (cs : List Cell) → cs ≡ map plain_cell (replicate n 0) → CellsKnown k cs
zeros_in k n cs e = subst (λ (bs : List Cell). CellsKnown k bs) (sym e) (zeros_known k n)
