-- Parameters take their arguments: what the code does, one after the other.
use Rattle.std.proofs.Common.{◌≡◌, ◌≢◌, ℕ, zero, suc, ◌+◌, ◌-◌, ◌<◌, ◌^◌, ◌==◌, min, Bool, true, false, refl, sym, ap, ◌∙◌, subst, arith, append_assoc, get_or}
use Rattle.std.proofs.Common.{not, List, [], ◌∷◌, ◌++◌, length, Option, Some, None, slice_get}
use Rattle.std.specs.Prelude.{is_some, option_map, Result, Ok, Err}
use Rattle.ub_base.specs.declared.clause.Clause.{Clause}
use Rattle.ub_base.specs.declared.clause.Clause.TheVariants.{DeadObject, EffectiveType, InvalidPointer, OutOfBounds, OverlappingAssignment}
use Rattle.ub_base.specs.declared.clause.Clause.TheVariants.{StoreToConst, StoreToLiteral}
use Rattle.ub_base.specs.declared.names.Item.{Item}
use Rattle.ub_base.specs.declared.names.ObjName.{ObjName}
use Rattle.addr_map.specs.declared.map.Row.{Row}
use Rattle.addr_map.specs.Rows.{row_of}
use Rattle.exposure.specs.declared.prov.Prov.TheVariants.{Whole}
use Rattle.c_types.specs.Types.{CType, int, type_of}
use Rattle.c_typed.specs.declared.tree.Access.{Access}
use Rattle.c_typed.specs.declared.tree.Access.TheVariants as access
use Rattle.mem_spec.specs.Agreement.{bytes_of_kind}
use Rattle.mem_spec.specs.Bytes.{number_bytes, pointer_bytes}
use Rattle.mem_spec.specs.Store.{Life, Store, TaggedByte, is_live}
use Rattle.mem_spec.specs.Script.{Act, Ask, Done, Ended, Give, Outside, Put, Raised, Script, Unplaced, require, run, touch, touched, ◌>>=◌, ◌>>◌}
use Rattle.mem_spec.specs.Acts as acts
use Rattle.mem_spec.specs.Acts.{Accessed, Seen, check_writable, declared_of, is_aligned, is_constant, is_literal, scalar, stored_from, suits_store, whole}
use Rattle.mem_laws.proofs.MoreActs.{write_all}
use Rattle.mem_laws.specs.MoreRows.{Extends}
use Rattle.mem_objects.specs.declared.value.Value.{Value as Kept_value}
use Rattle.mem_objects.specs.Keeps.{Keeps, RowsStay}
use Rattle.mem_objects.specs.Made.{IsMade}
use Rattle.mem_objects.specs.Memory.{Kept}
use Rattle.mem_objects.specs.Sound.{IsSound}
use Rattle.mem_objects.proofs.AccessLemmas.{after, before, done_then, run_bind}
use Rattle.prov_memory.proofs.KeepLemmas.{keeps_none, keeps_then}
use Rattle.c_model.specs.Nodes.{overlap_inexactly, put, put_whole}
use Rattle.c_model.specs.Values as model
use Rattle.c_model.specs.Values.{Fun, Int, Nothing, Pointer, Ptr, Value, address_after, function_in, int_bytes, integer_of, pointer_of}
use Rattle.run_values.specs.declared.values.Pointer.{Pointer as Place}
use Rattle.run_values.specs.Kept.{IsOf}
use Rattle.run_values.specs.Views.{pointer_at, value_in}
use Rattle.run_values.proofs.Keeping.{values_stay}
use Rattle.run_layout.specs.declared.steps.ObjectCode.{ObjectCode}
use Rattle.run_layout.specs.declared.steps.Operand.TheVariants as operand
use Rattle.run_layout.specs.declared.steps.StoreCode.{StoreCode}
use Rattle.run_state.specs.declared.machine.Local.{Local}
use Rattle.run_state.specs.declared.machine.Machine.{Machine}
use Rattle.run_state.specs.Operands.{into_local, operand_in}
use Rattle.run_state.specs.Stands.{StandsTables}
use Rattle.run_answers.specs.Acts.{stored_by}
use Rattle.run_answers.specs.Performs.{CanPut, Puts, store_in}
use Rattle.run_answers.proofs.Stays.{value_stays}
use Rattle.run_answers.specs.Passing.{CanPassAll, HavePassed, IsOnePassed, PassesAll, PutsAs, argument_script, first_of, place_of, script_of}
use Rattle.run_answers.proofs.Standing.{tables_on}

-- ---- scripts that do the same under all rows
abbrev pub Alike : {V : Type 0} → Script V → Type 0
Alike {V} p = (rows more : List Row) (s : Store) → run rows p s ≡ run more p s

alike_after : {A B : Type 0} (rows more : List Row) (k : A → Script B) → ((v : A) → Alike (k v)) → (a : Act A) → after rows k a ≡ after more k a
alike_after rows more k h (Done v is s) = ap (before is) (h v rows more s)
alike_after rows more k h (Raised c) = refl
alike_after rows more k h (Ended n is s) = refl
alike_after rows more k h (Outside c n) = refl
alike_after rows more k h Unplaced = refl

alike_bind : {A B : Type 0} (p : Script A) (k : A → Script B) → Alike p → ((v : A) → Alike (k v)) → Alike (p >>= k)
alike_bind p k h each rows more s =
    run_bind rows p k s ∙ ap (after rows k) (h rows more s) ∙ alike_after rows more k each (run more p s) ∙ sym (run_bind more p k s)

alike_then : {B : Type 0} (b : Bool) (c : Clause) (p : Script B) → Alike p → Alike (require b c >> p)
alike_then true c p h = h
alike_then false c p h = λ rows more s. refl

alike_required : (b : Bool) (c : Clause) → Alike (require b c)
alike_required true c = λ rows more s. refl
alike_required false c = λ rows more s. refl

alike_checks : (b1 b2 b3 : Bool) (v : Accessed) →
    Alike (require b1 DeadObject >> (require b2 OutOfBounds >> (require b3 InvalidPointer >> Give v)))
alike_checks true true true v = λ rows more s. refl
alike_checks true true false v = λ rows more s. refl
alike_checks true false b3 v = λ rows more s. refl
alike_checks false b2 b3 v = λ rows more s. refl

-- an access to an object whose row is this one
abbrev access_by : Option Row → (len align a : ℕ) → ObjName → Script Accessed
access_by r len align a x =
    require (not (a == 0)) InvalidPointer
    >> (Give x >>= (λ y. touch (Ask y) >>= (λ life. require (is_live life) DeadObject
    >> (require (acts.in_row r a len) OutOfBounds >> (require (is_aligned align a) InvalidPointer
    >> Give (record { object = y; from = acts.offset_in r a; life = life }))))))

alike_access : (r : Option Row) (len align a : ℕ) (x : ObjName) → Alike (access_by r len align a x)
alike_access r len align a x =
    alike_then (not (a == 0)) InvalidPointer
    (touch (Ask x) >>= (λ life. require (is_live life) DeadObject
    >> (require (acts.in_row r a len) OutOfBounds >> (require (is_aligned align a) InvalidPointer
    >> Give (record { object = x; from = acts.offset_in r a; life = life })))))
    (alike_bind (touch (Ask x)) (λ life. require (is_live life) DeadObject
    >> (require (acts.in_row r a len) OutOfBounds >> (require (is_aligned align a) InvalidPointer
    >> Give (record { object = x; from = acts.offset_in r a; life = life })))) (λ rows more s. refl)
    (λ life. alike_checks (is_live life) (acts.in_row r a len) (is_aligned align a) (record { object = x; from = acts.offset_in r a; life = life })))

alike_writable : (first : Bool) (life : Option Life) → Alike (check_writable first life)
alike_writable true life = λ rows more s. refl
alike_writable false life =
    alike_then (not (is_literal life)) StoreToLiteral (require (not (is_constant life)) StoreToConst)
    (alike_required (not (is_constant life)) StoreToConst)

alike_write : (few : List Row) (first : Bool) (via : Seen) (bs : List TaggedByte) (at : Accessed) → Alike (write_all few first via bs at)
alike_write few first via bs at =
    alike_then (suits_store via (declared_of at.life) at.from) EffectiveType
    (check_writable first at.life >> touch (Put at.object at.from (stored_from (declared_of at.life) via 0 bs)))
    (alike_bind (check_writable first at.life) (λ u. touch (Put at.object at.from (stored_from (declared_of at.life) via 0 bs)))
    (alike_writable first at.life) (λ u rows more s. refl))

-- a store to an object whose row is this one
abbrev stored_at : List Row → Option Row → Bool → Seen → (align a : ℕ) → ObjName → List TaggedByte → Script (Unit {0})
stored_at few r first via align a x bs = access_by r (length bs) align a x >>= write_all few first via bs

alike_stored : {B : Type 0} (few : List Row) (r : Option Row) (first : Bool) (via : Seen) (align a : ℕ) (x : ObjName) (bs : List TaggedByte) (k : Script B) →
    Alike k → Alike (stored_at few r first via align a x bs >> k)
alike_stored few r first via align a x bs k h =
    alike_bind (stored_at few r first via align a x bs) (λ u. k)
    (alike_bind (access_by r (length bs) align a x) (write_all few first via bs) (alike_access r (length bs) align a x) (alike_write few first via bs))
    (λ u. h)

-- under other rows that have the same row of the object
stored_alike : {B : Type 0} (rows more : List Row) (first : Bool) (via : Seen) (align a : ℕ) (x : ObjName) (bs : List TaggedByte) (k : Script B) (s : Store) →
    row_of rows x ≡ row_of more x → Alike k →
    run rows (acts.store rows first via align a (Whole x) bs >> k) s ≡ run more (acts.store more first via align a (Whole x) bs >> k) s
stored_alike {B} rows more first via align a x bs k s same h =
    ap (λ (r : Option Row). run rows (stored_at rows r first via align a x bs >> k) s) same
    ∙ alike_stored rows (row_of more x) first via align a x bs k h rows more s

whole_alike : (rows more : List Row) (first : Bool) (size align a : ℕ) (x : ObjName) (v : Value) (s : Store) → row_of rows x ≡ row_of more x →
    run rows (put_whole rows first size align (record { address = a; prov = Whole x }) v) s
    ≡ run more (put_whole more first size align (record { address = a; prov = Whole x }) v) s
whole_alike rows more first size align a x (model.Whole bs source) s same =
    stored_alike rows more first whole align a x bs (require (not (overlap_inexactly size a source)) OverlappingAssignment >> Give Nothing) s same
    (alike_then (not (overlap_inexactly size a source)) OverlappingAssignment (Give Nothing) (λ few all t. refl))
whole_alike rows more first size align a x (Int z) s same = refl
whole_alike rows more first size align a x (Ptr b q) s same = refl
whole_alike rows more first size align a x (Fun b) s same = refl
whole_alike rows more first size align a x model.Missing s same = refl
whole_alike rows more first size align a x Nothing s same = refl

put_alike : (rows more : List Row) (first : Bool) (how : Access) (ty : CType) (a : ℕ) (x : ObjName) (v : Value) (s : Store) →
    row_of rows x ≡ row_of more x →
    run rows (put rows first how ty (record { address = a; prov = Whole x }) v) s
    ≡ run more (put more first how ty (record { address = a; prov = Whole x }) v) s
put_alike rows more first (access.Integer k) ty a x v s same =
    stored_alike rows more first (scalar (int k)) (bytes_of_kind k) a x (int_bytes k (integer_of v)) (Give Nothing) s same (λ few all t. refl)
put_alike rows more first access.Pointer ty a x v s same =
    stored_alike rows more first (scalar ty) 8 a x (pointer_bytes 8 0 (pointer_of v).prov (pointer_of v).address) (Give Nothing) s same (λ few all t. refl)
put_alike rows more first access.Function ty a x v s same =
    stored_alike rows more first (scalar ty) 8 a x (number_bytes 8 (function_in v)) (Give Nothing) s same (λ few all t. refl)
put_alike rows more first (access.Whole size align) ty a x v s same = whole_alike rows more first size align a x v s same

code_alike : (rows more : List Row) (c : Option StoreCode) (l : Local) (v : Value) (s : Store) → row_of rows l.name ≡ row_of more l.name →
    run rows (stored_by rows c (place_of l) v) s ≡ run more (stored_by more c (place_of l) v) s
code_alike rows more None l v s same = refl
code_alike rows more (Some c) l v s same = put_alike rows more c.initializing c.access (type_of c.ty.now) (address_after l.addr 0) l.name v s same

-- ---- the memory's own rows
extends_self : (rows : List Row) → Extends rows rows
extends_self rows = record {
  rows = λ x r e. e;
  covering = λ a x e. e;
  covered = λ a x is e. e;
  passing = λ a x e. e;
  passed = λ a x is e. e;
}

row_stays : (rows more : List Row) (x : ObjName) (o : Option Row) → RowsStay rows more → row_of rows x ≡ o → is_some o ≡ true → row_of more x ≡ row_of rows x
row_stays rows more x None stay at some = absurd (cc)
row_stays rows more x (Some r) stay at some = stay x r at ∙ sym at

-- ---- one parameter
-- the tables of a machine that has other values
tables_valued : (m n : Machine) → n ≡ record m { values = n.values } → StandsTables m → StandsTables n
tables_valued m n is t = subst StandsTables (sym is) (record { places = t.places; vias = t.vias; fillings = t.fillings })

-- how the store came out
abbrev came_out : List Item → Result (Unit {0}) Clause → Result (List Item) Clause
came_out is (Ok u) = Ok is
came_out is (Err c) = Err c

puts_as : (rows more : List Row) (m p q : Machine) (script : List Row → Script Value) (items : List Item) (r : Result (Unit {0}) Clause) →
    store_in m ≡ store_in p → items ≡ m.items ++ q.spare → run rows (script rows) (store_in p) ≡ run more (script more) (store_in p) →
    Puts more p q (script more) r → PutsAs rows m (record q { items = items }) (script rows) (came_out q.spare r)
puts_as rows more m p q script items (Ok u) stores joined same did =
    (joined, ap (run rows (script rows)) stores ∙ same ∙ did)
puts_as rows more m p q script items (Err c) stores joined same did = ap (run rows (script rows)) stores ∙ same ∙ did

pub one_passed : (m p q : Machine) (o : ObjectCode) (first k at : ℕ) (place : Place) (value : Kept_value) (r : Result (Unit {0}) Clause) (items : List Item) →
    at ≡ min (first + k) (2 ^ 32 - 1) →
    ((h : Kept_value) → operand_in m (operand.Local at 0) ≡ Some h → (n : Kept) → pointer_at place ≡ pointer_of (value_in n h)) →
    p ≡ record m { values = p.values } →
    ((h : Kept_value) → slice_get m.values.items (m.top.base + k) ≡ Some h → value ≡ h) →
    ((j : ℕ) → j ≢ m.top.base + k → slice_get p.values.items j ≡ slice_get m.values.items j) →
    ((rows : List Row) → CanPut rows p place value →
    Puts rows p q (stored_by rows (slice_get p.image.code.now.tables.stores.items o.store) (pointer_at place) (value_in p.memory value)) r) →
    (IsSound p.memory → StandsTables p → IsOf p.memory value → Keeps p.memory q.memory) →
    q ≡ record p { memory = q.memory; spare = q.spare } → items ≡ q.items ++ q.spare →
    IsOnePassed m o first k (record q { items = items })
one_passed m p q o first k at place value r items is local taken room others exact keeps rest joined =
    let whole : q ≡ record m { memory = q.memory; values = p.values; spare = q.spare } =
    rest ∙ ap (λ (x : Machine). record x { memory = q.memory; spare = q.spare }) taken in
    let vals : q.values ≡ p.values = ap (λ (x : Machine). x.values) whole in
    let memories : p.memory ≡ m.memory = ap (λ (x : Machine). x.memory) taken in
    let stores : store_in p ≡ store_in m = ap store_in taken in
    let all : items ≡ m.items ++ q.spare = joined ∙ ap (λ (x : Machine). x.items ++ q.spare) whole in
    record {
      rest = ap (λ (x : Machine). record x { items = items }) whole
          ∙ ap (λ (v : _). record m { memory = q.memory; values = v; items = items; spare = q.spare }) (sym vals);
      others = λ j ne. ap (λ (x : _). slice_get x.items j) vals ∙ others j ne;
      stores = λ l h small there given can.
          let same : value ≡ h = room h given in
          let where_at : at ≡ first + k = omega (arith, is, small) in
          let here : operand_in m (operand.Local at 0) ≡ Some (into_local 0 l) =
          ap (λ (i : ℕ). option_map (into_local 0) (slice_get m.locals.items (m.top.locals + i))) where_at ∙ ap (option_map (into_local 0)) there in
          let placed : pointer_at place ≡ place_of l = local (into_local 0 l) here m.memory in
          let made : IsMade p.memory place.prov =
          subst (λ (z : Pointer). IsMade p.memory z.prov) (sym placed) (subst (λ (z : Kept). IsMade z (Whole l.name)) (sym memories) can.place) in
          let sound : IsSound p.memory = subst IsSound (sym memories) can.sound in
          let tables : StandsTables p = tables_valued m p taken can.tables in
          let of : IsOf p.memory value = subst (λ (z : Kept). IsOf z value) (sym memories) (subst (λ (z : Kept_value). IsOf m.memory z) (sym same) can.value) in
          let own = p.memory.rows in
          let did = exact own (record { sound = sound; extends = extends_self own; tables = tables; place = made; value = of }) in
          record {
            kept = subst (λ (z : Kept). Keeps z q.memory) memories (keeps sound tables of);
            outcome = came_out q.spare r;
            puts = λ rows stay.
                let rows_same : row_of rows l.name ≡ row_of m.memory.rows l.name =
                row_stays m.memory.rows rows l.name (row_of m.memory.rows l.name) stay refl (can.sound.rowed l.name can.place) in
                let script : List Row → Script Value =
                λ few. stored_by few (slice_get m.image.code.now.tables.stores.items o.store) (place_of l) (value_in m.memory h) in
                let as_done : Puts own p q (script own) r =
                subst (λ (z : Script Value). Puts own p q z r)
                (ap (λ (x : Machine). stored_by own (slice_get x.image.code.now.tables.stores.items o.store) (pointer_at place) (value_in x.memory value)) taken
                ∙ ap (λ (z : Pointer). stored_by own (slice_get m.image.code.now.tables.stores.items o.store) z (value_in m.memory value)) placed
                ∙ ap (λ (z : Kept_value). stored_by own (slice_get m.image.code.now.tables.stores.items o.store) (place_of l) (value_in m.memory z)) same) did
                in
                puts_as rows own m p q script items r (sym stores) all
                (code_alike rows own (slice_get m.image.code.now.tables.stores.items o.store) l (value_in m.memory h) (store_in p)
                (rows_same ∙ ap (λ (z : Kept). row_of z.rows l.name) (sym memories))) as_done;
          };
    }

-- ---- one after the other: at first none has taken its argument
nothing_more : (is : List Item) → is ≡ is ++ []
nothing_more [] = refl
nothing_more (i ∷ is) = ap (λ (js : List Item). i ∷ js) (nothing_more is)

pub none_passed : (m : Machine) (objects : List ObjectCode) (first : ℕ) → HavePassed m objects first 0 m
none_passed m objects first = record {
  rest = refl;
  kept = keeps_none m.memory;
  others = λ j apart. refl;
  outcome = Ok [];
  puts = λ rows stay. (nothing_more m.items, refl);
}

-- and then one more
abbrev outcomes : Result (List Item) Clause → Result (List Item) Clause → Result (List Item) Clause
outcomes (Ok is) (Ok js) = Ok (is ++ js)
outcomes (Ok is) (Err c) = Err c
outcomes (Err c) b = Err c

before_raised : (is : List Item) (c : Clause) → before {V = Value} is (Raised c) ≡ Raised c
before_raised [] c = refl
before_raised (i ∷ is) c = ap (touched i) (before_raised is c)

puts_then : (rows : List Row) (old mid new : Machine) (p q : Script Value) (a b : Result (List Item) Clause) → PutsAs rows old mid p a →
    PutsAs rows mid new q b → PutsAs rows old new (p >> q) (outcomes a b)
puts_then rows old mid new p q (Ok is) (Ok js) d e = (
  e.0 ∙ ap (λ (xs : List Item). xs ++ js) d.0 ∙ simp append_assoc,
  done_then rows p (λ v. q) (store_in old) (store_in mid) (store_in new) Nothing Nothing is js d.1 e.1,
)
puts_then rows old mid new p q (Ok is) (Err c) d e =
    run_bind rows p (λ v. q) (store_in old) ∙ ap (after rows (λ v. q)) d.1 ∙ ap (before is) e ∙ before_raised is c
puts_then rows old mid new p q (Err c) (Ok js) d e = run_bind rows p (λ v. q) (store_in old) ∙ ap (after rows (λ v. q)) d
puts_then rows old mid new p q (Err c) (Err b) d e = run_bind rows p (λ v. q) (store_in old) ∙ ap (after rows (λ v. q)) d

one_more_passed : (old mid new : Machine) (objects : List ObjectCode) (o : ObjectCode) (first n count : ℕ) → slice_get objects n ≡ Some o →
    CanPassAll old first count → n < count → HavePassed old objects first n mid → IsOnePassed mid o first n new →
    HavePassed old objects first (suc n) new
one_more_passed old mid new objects o first n count at can lt d one =
    let place = can.places n lt in
    let l = place.0 in
    let argument = can.values n lt in
    let h = argument.0 in
    let bases : mid.top.base ≡ old.top.base = ap (λ (x : Machine). x.top.base) d.rest in
    let there : slice_get mid.locals.items (mid.top.locals + (first + n)) ≡ Some l =
    ap (λ (x : Machine). slice_get x.locals.items (x.top.locals + (first + n))) d.rest ∙ place.1 in
    let given : slice_get mid.values.items (mid.top.base + n) ≡ Some h =
    ap (λ (b : ℕ). slice_get mid.values.items (b + n)) bases ∙ d.others (old.top.base + n) (λ k below e. omega (arith, below, e)) ∙ argument.1 in
    let small : first + n < 2 ^ 32 = omega (arith, lt, can.numbers) in
    let moved = tables_on old mid old.top d.kept can.lawful can.tables in
    let tables : StandsTables mid = subst StandsTables (sym d.rest) (record { places = moved.places; vias = moved.vias; fillings = moved.fillings }) in
    let passed = one.stores l h small there given (record {
      sound = d.kept.sound can.sound;
      tables = tables;
      place = d.kept.made (Whole l.name) place.2;
      value = values_stay old.memory mid.memory h d.kept argument.2;
    }) in
    record {
      rest = one.rest ∙ ap (λ (x : Machine). record x { memory = new.memory; values = new.values; items = new.items; spare = new.spare }) d.rest;
      kept = keeps_then old.memory mid.memory new.memory d.kept passed.kept;
      others = λ j apart.
          one.others j (subst (λ (b : ℕ). j ≢ b + n) (sym bases) (apart n (omega arith))) ∙ d.others j (λ k below. apart k (omega (arith, below)));
      outcome = outcomes d.outcome passed.outcome;
      puts = λ rows stay.
          let stays : RowsStay mid.memory.rows rows = λ x r e. stay x r (passed.kept.rows x r e) in
          let same : stored_by rows (slice_get mid.image.code.now.tables.stores.items o.store) (place_of l) (value_in mid.memory h)
          ≡ argument_script rows old objects first n =
          ap (λ (x : Machine). stored_by rows (slice_get x.image.code.now.tables.stores.items o.store) (place_of l) (value_in mid.memory h)) d.rest
          ∙ ap (stored_by rows (slice_get old.image.code.now.tables.stores.items o.store) (place_of l)) (value_stays old.memory mid.memory h d.kept argument.2)
          ∙ ap (script_of rows old (Some o) (Some l)) (sym argument.1)
          ∙ ap (λ (z : Option Local). script_of rows old (Some o) z (slice_get old.values.items (old.top.base + n))) (sym place.1)
          ∙ ap (λ (z : Option ObjectCode). script_of rows old z (slice_get old.locals.items (old.top.locals + (first + n)))
          (slice_get old.values.items (old.top.base + n))) (sym at) in
          puts_then rows old mid new (first_of (argument_script rows old objects first) n) (argument_script rows old objects first n) d.outcome passed.outcome
          (d.puts rows stays) (subst (λ (z : Script Value). PutsAs rows mid new z passed.outcome) same (passed.puts rows stays));
    }

-- ---- the code's loop
item_at : {A : Type 0} (xs : List A) (i : ℕ) (x : A) → i < length xs → x ≡ get_or xs i x → slice_get xs i ≡ Some x
item_at [] i x lt is = absurd (omega (arith, lt))
item_at (y ∷ xs) zero x lt is = ap Some (sym is)
item_at (y ∷ xs) (suc i) x lt is = item_at xs i x (omega (arith, lt)) is

numbered : (first n number count : ℕ) → number ≡ min n (2 ^ 32 - 1) → n < count → first + count < 2 ^ 32 → number ≡ n
numbered first n number count is lt small = omega (arith, is, lt, small)

pub next_passed : (old mid new : Machine) (objects : List ObjectCode) (o : ObjectCode) (first n number : ℕ) → n < length objects → o ≡ get_or objects n o →
    number ≡ min n (2 ^ 32 - 1) → (CanPassAll old first (length objects) → HavePassed old objects first n mid) → IsOnePassed mid o first number new →
    CanPassAll old first (length objects) → HavePassed old objects first (n + 1) new
next_passed old mid new objects o first n number lt at is d one can =
    let same : number ≡ n = numbered first n number (length objects) is lt can.numbers in
    let next : suc n ≡ n + 1 = omega arith in
    subst (λ (k : ℕ). HavePassed old objects first k new) next
    (one_more_passed old mid new objects o first n (length objects) (item_at objects n o lt at) can lt (d can)
    (subst (λ (k : ℕ). IsOnePassed mid o first k new) same one))

pub all_passed : (objects : List ObjectCode) (first n : ℕ) (old new : Machine) → n ≡ length objects →
    (CanPassAll old first (length objects) → HavePassed old objects first n new) → PassesAll old objects first new
all_passed objects first n old new e d = λ can. subst (λ (k : ℕ). HavePassed old objects first k new) e (d can)
