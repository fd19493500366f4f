-- Parameters take their arguments: what the definitions do, and what the machine then stands for.
use Rattle.std.proofs.Common.{◌≡◌, ℕ, zero, suc, ◌+◌, ◌<◌, ◌≤◌, ◌^◌, min, Bool, true, refl, sym, ap, ◌∙◌, subst, arith, List, [], ◌∷◌, ◌++◌, length, reverse}
use Rattle.std.proofs.Common.{Option, Some, None, slice_get}
use Rattle.std.specs.Prelude.{take, Result, Ok, Err}
use Rattle.std.proofs.lemmas.List.{length-reverse, length-take-le}
use Rattle.std.proofs.lemmas.Option.{same_Some}
use Rattle.ub_base.specs.declared.clause.Clause.{Clause}
use Rattle.ub_base.specs.declared.names.Item.{Item}
use Rattle.ub_base.specs.declared.names.ObjName.{ObjName}
use Rattle.addr_map.specs.declared.map.Row.{Row}
use Rattle.addr_map.specs.Rows.{row_of}
use Rattle.exposure.specs.declared.prov.Prov.TheVariants.{Whole}
use Rattle.c_types.specs.Types.{type_of}
use Rattle.c_typed.specs.declared.tree.Place.{Place}
use Rattle.mem_spec.specs.Acts.{base_in}
use Rattle.mem_spec.specs.Script.{Do, Done, Exceed, Finish, Give, Misplace, Raise, Raised, Script, run, touched, ◌>>◌}
use Rattle.mem_spec.specs.Store.{Store}
use Rattle.mem_laws.specs.MoreRows.{BearsIn}
use Rattle.mem_objects.specs.declared.value.Value.{Value as Kept_value}
use Rattle.mem_objects.specs.Keeps.{Keeps, RowsStay}
use Rattle.mem_objects.specs.Memory.{Kept}
use Rattle.mem_objects.proofs.AccessLemmas.{after, before, done_then, run_bind}
use Rattle.c_model.specs.Nodes.{put}
use Rattle.c_model.specs.Program.{Decl}
use Rattle.c_model.specs.Runs.{Entry, State}
use Rattle.c_model.specs.Steps.{Begun, Scene, auto_name, object_at, pass_all}
use Rattle.c_model.specs.Values.{Value, Nothing, address_after}
use Rattle.c_model.specs.World.{World}
use Rattle.run_values.specs.Views.{value_in}
use Rattle.run_layout.specs.declared.steps.ObjectCode.{ObjectCode}
use Rattle.run_layout.specs.declared.steps.StoreCode.{StoreCode}
use Rattle.run_control.specs.View.{Meaning}
use Rattle.run_state.specs.declared.machine.Local.{Local}
use Rattle.run_state.specs.declared.machine.Machine.{Machine}
use Rattle.run_state.specs.declared.machine.Open.{Open}
use Rattle.run_state.specs.declared.machine.Stage.{Stage}
use Rattle.run_state.specs.Operands.{AreAddresses}
use Rattle.run_state.specs.Stands.{Holds, HoldsAll, IsResultOf, Stands, StandsBegun, result_seen}
use Rattle.run_answers.specs.Acts.{stored_by}
use Rattle.run_answers.specs.Performs.{store_in}
use Rattle.run_answers.proofs.Stays.{value_stays}
use Rattle.run_answers.specs.Ending.{KeepToRooms}
use Rattle.run_answers.specs.Entering.{TakesAs}
use Rattle.run_answers.specs.Passing.{PutsAs, argument_script, first_of, place_of, script_of, with_arguments}
use Rattle.run_answers.proofs.Creating.{none_bind, none_put}
use Rattle.run_machine.proofs.Lives.{result_stays}
use Rattle.run_answers.proofs.Standing.{frames_under, locals_on, tables_on}

-- ---- scripts one after the other
then_after : {A B C : Type 0} (a : Script A) (b : Script B) (c : Script C) → (a >> b) >> c ≡ a >> (b >> c)
then_after (Give v) b c = refl
then_after (Raise x) b c = refl
then_after (Finish n) b c = refl
then_after (Exceed x n) b c = refl
then_after Misplace b c = refl
then_after (Do t g) b c = ap (Do t) (λ i r. then_after (g r) b c i)

-- the stores that the definitions make, and those that the code makes
module _ (world : World) (f : Scene) (turn : ℕ) (p : ℕ → Script Value) where
  abbrev own_put : ℕ → Decl → Value → Script Value
  own_put k d v = put world.rows true d.access d.ty (object_at world f turn k) v

  pub passes : (k n : ℕ) (ds : List Decl) (vs : List Value) → n ≡ k + length vs → length vs ≤ length ds →
      ((j : ℕ) (d : Decl) (v : Value) → slice_get ds j ≡ Some d → slice_get vs j ≡ Some v → p (k + j) ≡ own_put (k + j) d v) →
      first_of p k >> pass_all world f turn k ds vs ≡ first_of p n >> Give Nothing
  passes k n [] [] e le each = ap (λ (m : ℕ). first_of p m >> Give Nothing) (let same : k ≡ n = omega (arith, e) in same)
  passes k n (d ∷ ds) [] e le each = ap (λ (m : ℕ). first_of p m >> Give Nothing) (let same : k ≡ n = omega (arith, e) in same)
  passes k n [] (v ∷ vs) e le each = absurd (omega (arith, le))
  passes k n (d ∷ ds) (v ∷ vs) e le each =
      let here : p k ≡ own_put k d v = subst (λ (i : ℕ). p i ≡ own_put i d v) (omega arith) (each 0 d v refl refl) in
      sym (then_after (first_of p k) (own_put k d v) (pass_all world f turn (suc k) ds vs))
      ∙ ap (λ (x : Script Value). (first_of p k >> x) >> pass_all world f turn (suc k) ds vs) (sym here)
      ∙ passes (suc k) n ds vs (omega (arith, e)) (omega (arith, le))
      (λ j c w at is. subst (λ (i : ℕ). p i ≡ own_put i c w) (omega arith) (each (suc j) c w at is))

-- ---- one of them
base_fits : (n : ℕ) → n < 2 ^ 64 → address_after n 0 ≡ n
base_fits n lt = omega (arith, lt)

base_low : (rows : List Row) (x : ObjName) (o : Option Row) → AreAddresses rows → row_of rows x ≡ o →
    base_in o < 2 ^ 64
base_low rows x None low at = omega arith
base_low rows x (Some r) low at = low x r at

pub own_script : (world : World) (f : Scene) (turn : ℕ) (m : Machine) (objects : List ObjectCode) (first k : ℕ) (o : ObjectCode) (d : Decl) (v : Value)
    (h : Kept_value) → AreAddresses world.rows → slice_get objects k ≡ Some o →
    slice_get m.locals.items (m.top.locals + (first + k))
    ≡ Some (record { addr = base_in (row_of world.rows (auto_name world f turn k)); name = auto_name world f turn k }) →
    slice_get m.values.items (m.top.base + k) ≡ Some h → value_in m.memory h ≡ v → TakesAs m.image.code.now o d →
    argument_script world.rows m objects first k ≡ put world.rows true d.access d.ty (object_at world f turn k) v
own_script world f turn m objects first k o d v h low at placed given is takes =
    let x = auto_name world f turn k in
    let l : Local = record { addr = base_in (row_of world.rows x); name = x } in
    let s = takes.store in
    ap (λ (z : Option ObjectCode).
    script_of world.rows m z (slice_get m.locals.items (m.top.locals + (first + k))) (slice_get m.values.items (m.top.base + k))) at
    ∙ ap (λ (z : Option Local). script_of world.rows m (Some o) z (slice_get m.values.items (m.top.base + k))) placed
    ∙ ap (λ (z : Option Kept_value). script_of world.rows m (Some o) (Some l) z) given
    ∙ ap (λ (z : Value). stored_by world.rows (slice_get m.image.code.now.tables.stores.items o.store) (place_of l) z) is
    ∙ ap (λ (z : Option StoreCode). stored_by world.rows z (place_of l) v) takes.at
    ∙ ap (λ (b : Bool). put world.rows b s.access (type_of s.ty.now) (place_of l) v) takes.first
    ∙ ap (λ a. put world.rows true a (type_of s.ty.now) (place_of l) v) takes.access
    ∙ ap (λ t. put world.rows true d.access t (place_of l) v) takes.ty
    ∙ ap (λ (a : ℕ). put world.rows true d.access d.ty (record { address = a; prov = Whole x }) v)
    (base_fits (base_in (row_of world.rows x)) (base_low world.rows x (row_of world.rows x) low refl))

-- ---- they create nothing
pub pass_none : (world : World) (f : Scene) (turn k : ℕ) (ds : List Decl) (vs : List Value) → BearsIn [] (pass_all world f turn k ds vs)
pass_none world f turn k [] [] = tt
pass_none world f turn k [] (v ∷ vs) = tt
pass_none world f turn k (d ∷ ds) [] = tt
pass_none world f turn k (d ∷ ds) (v ∷ vs) =
    none_bind (put world.rows true d.access d.ty (object_at world f turn k) v) (λ u. pass_all world f turn (suc k) ds vs)
    (none_put world.rows true d.access d.ty (object_at world f turn k) v) (λ u. pass_none world f turn (suc k) ds vs)

-- ---- items before those of what follows
pub before_done : {V : Type 0} (is js : List Item) (v : V) (s : Store) → before is (Done v js s) ≡ Done v (is ++ js) s
before_done [] js v s = refl
before_done (i ∷ is) js v s = ap (touched i) (before_done is js v s)

nothing_more : (is : List Item) → is ++ [] ≡ is
nothing_more [] = refl
nothing_more (i ∷ is) = ap (λ (js : List Item). i ∷ js) (nothing_more is)

-- all of them are done, where they raise no clause
pub record AreDone (rows : List Row) (old new : Machine) (script : Script Value) : Type 0 where
  pub items : List Item
  pub joined : new.items ≡ old.items ++ items
  pub ran : run rows script (store_in old) ≡ Done Nothing items (store_in new)

pub are_done : (rows : List Row) (old new : Machine) (script whole : Script Value) (r : Result (List Item) Clause) →
    run rows whole (store_in old) ≡ run rows (script >> Give Nothing) (store_in old) → PutsAs rows old new script r →
    ((c : Clause) → run rows whole (store_in old) ≡ Raised c → ⊥) → AreDone rows old new whole
are_done rows old new script whole (Ok is) same d plain = record {
  items = is;
  joined = d.0;
  ran = same ∙ done_then rows script (λ v. Give Nothing) (store_in old) (store_in new) (store_in new) Nothing Nothing is [] d.1 refl
      ∙ ap (λ (js : List Item). Done Nothing js (store_in new)) (nothing_more is);
}
are_done rows old new script whole (Err c) same d plain =
    absurd (plain c (same ∙ run_bind rows script (λ v. Give Nothing) (store_in old) ∙ ap (after rows (λ v. Give Nothing)) d))

-- ---- arguments in their rooms
pub held_at : (k : Kept) (rooms : List Kept_value) (room : ℕ) (vs : List Value) → HoldsAll k rooms room vs → (j : ℕ) (v : Value) → slice_get vs j ≡ Some v →
    Holds k rooms (room + j) v
held_at k rooms room [] a zero v is = absurd (cc)
held_at k rooms room [] a (suc j) v is = absurd (cc)
held_at k rooms room (w ∷ ws) a zero v is =
    subst (λ (x : ℕ). Holds k rooms x v) (let same : room ≡ room + 0 = omega arith in same)
    (subst (λ (y : Value). Holds k rooms room y) (same_Some w v is) a.0)
held_at k rooms room (w ∷ ws) a (suc j) v is =
    subst (λ (x : ℕ). Holds k rooms x v) (let same : suc room + j ≡ room + suc j = omega arith in same) (held_at k rooms (suc room) ws a.1 j v is)

pub argument_there : (vs : List Value) (j : ℕ) → j < length vs → (v : Value) × (slice_get vs j ≡ Some v)
argument_there [] j lt = absurd (omega (arith, lt))
argument_there (v ∷ vs) zero lt = (v, refl)
argument_there (v ∷ vs) (suc j) lt = argument_there vs j (omega (arith, lt))

-- ---- the objects that take arguments
slice_take : {A : Type 0} (n k : ℕ) (xs : List A) → k < n → slice_get (take n xs) k ≡ slice_get xs k
slice_take zero k xs lt = absurd (omega (arith, lt))
slice_take (suc n) zero [] lt = refl
slice_take (suc n) (suc k) [] lt = refl
slice_take (suc n) zero (x ∷ xs) lt = refl
slice_take (suc n) (suc k) (x ∷ xs) lt = slice_take n k xs (omega (arith, lt))

pub taking_count : (objects : List ObjectCode) (count n : ℕ) → count ≡ n → n ≤ length objects → length (with_arguments objects count) ≡ n
taking_count objects count n is le =
    let low : min (length objects) count ≤ length objects = omega arith in
    length-take-le (min (length objects) count) objects low ∙ omega (arith, is, le)

pub taking_at : (objects : List ObjectCode) (count n k : ℕ) → count ≡ n → n ≤ length objects → k < n →
    slice_get (with_arguments objects count) k ≡ slice_get objects k
taking_at objects count n k is le lt = slice_take (min (length objects) count) k objects (omega (arith, is, le, lt))

-- ---- the machine behind them
begun_closed : (world : World) (meaning : Meaning) (m n : Machine) (height : ℕ) (o : Open) (stage : Option Stage) (f : Scene) (e : Option Begun)
    (waiting : Option Place) → e ≡ None → StandsBegun world meaning m height o stage f e waiting → StandsBegun world meaning n height o stage f e waiting
begun_closed world meaning m n height o None f None waiting none b = b
begun_closed world meaning m n height o (Some stage) f None waiting none b = absurd b
begun_closed world meaning m n height o stage f (Some e) waiting none b = absurd (cc)

result_on : (old new : Kept) (function : Option ℕ) (left : Option Kept_value) → Keeps old new → IsResultOf old left →
    result_seen old function left ≡ result_seen new function left
result_on old new function (Some h) keeps is = ap (λ (v : Value). Some v) (sym (value_stays old new h keeps is))
result_on old new (Some n) None keeps is = refl
result_on old new None None keeps is = refl

-- its top frame has no full expression open, and has handed on its arguments
pub passed_stands : (world : World) (meaning : Option ℕ → Meaning) (m n : Machine) (st : State) (trace : List Entry) → Stands world meaning m st →
    st.top.arguments ≡ [] → st.top.begun ≡ None → KeepToRooms m.image.code.now (reverse m.below.items) st.held →
    n ≡ record m { memory = n.memory; values = n.values; items = n.items; spare = n.spare } → Keeps m.memory n.memory →
    RowsStay n.memory.rows world.rows → ((j : ℕ) → j < m.top.base → slice_get n.values.items j ≡ slice_get m.values.items j) →
    Stands world meaning n (record { top = st.top; held = st.held; store = store_in n; trace = trace })
passed_stands world meaning m n st trace s none closed to is keeps rows rooms =
    let k = record m { memory = n.memory; values = n.values; items = n.items; spare = n.spare } in
    let mg = meaning m.top.function in
    let frame = s.frames.0 in
    let os = reverse m.below.items in
    let high : length os ≤ length m.below.items = subst (λ (j : ℕ). j ≤ length m.below.items) (sym (length-reverse m.below.items)) (omega arith) in
    subst (λ (x : Machine). Stands world meaning x (record { top = st.top; held = st.held; store = store_in n; trace = trace })) (sym is) (record {
      program = s.program;
      code = s.code;
      listed = s.listed;
      memory = record {
        store = ap store_in is;
        sound = keeps.sound s.memory.sound;
        tagged = keeps.tagged s.memory.tagged;
        bare = keeps.bare s.memory.bare;
        high = keeps.high s.memory.high;
        rows = rows;
      };
      tables = tables_on m k m.top keeps s.code.constants s.tables;
      frames = (
        record {
          number = frame.number;
          turn = frame.turn;
          function = frame.function;
          arguments = subst (λ (vs : List Value). HoldsAll n.memory n.values.items m.top.base vs) (sym none) tt;
          locals = locals_on world m k m.top keeps m.top st.top.scene st.top.scene.blocks frame.locals;
          result = frame.result ∙ result_on m.memory n.memory m.top.function m.left keeps s.result;
          control = frame.control;
          begun = begun_closed world mg m k (length os) m.top m.top.stage st.top.scene st.top.begun None closed frame.begun;
        },
        s.frames.1,
        frames_under world m k m.top keeps m.top.base (length m.below.items) rooms (λ j b ne e. e) (λ j other ne e. e) meaning m.top st.top os m.work.below
            st.held
            high (omega arith) s.frames.1 to s.frames.2,
      );
      result = result_stays m.memory n.memory m.left keeps s.result;
      depth = s.depth;
    })
