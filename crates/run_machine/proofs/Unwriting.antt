-- A declaration is reached again: the bytes of its object become unwritten.
use Rattle.std.proofs.Common.{
  ◌≡◌,
  ℕ,
  ◌+◌,
  ◌-◌,
  ◌<◌,
  ◌^◌,
  min,
  true,
  refl,
  sym,
  ap,
  ◌∙◌,
  subst,
  arith,
  List,
  [],
  ◌∷◌,
  length,
  map,
  replicate,
  rules,
  Option,
  Some,
  None,
  slice_get,
}
use Rattle.std.specs.Prelude.{is_some, if◌then◌else◌, Ok}
use Rattle.std.specs.Borrow.{Bor}
use Rattle.ub_base.specs.declared.names.Item.{Item}
use Rattle.ub_base.specs.declared.names.Item.TheVariants.{Alive, Write}
use Rattle.ub_base.specs.declared.names.ObjName.{ObjName}
use Rattle.addr_map.specs.declared.map.Row.{Row}
use Rattle.addr_map.specs.Rows.{row_of}
use Rattle.mem_spec.specs.Acts.{size_in, unwrite}
use Rattle.mem_spec.specs.Script.{Act, Done, Raised, Ended, Outside, Unplaced, Put, Script, Give, run, touch, touched, ◌>>=◌, ◌>>◌}
use Rattle.mem_spec.specs.Store.{Life, Store, fresh, with_bytes}
use Rattle.mem_objects.specs.Held.{Held, held_of}
use Rattle.mem_spec.specs.Streams.{Io}
use Rattle.mem_objects.specs.Keeps.{Keeps, RowsStay}
use Rattle.mem_objects.specs.Memory.{Kept, life_in, store_of}
use Rattle.c_model.specs.Control as todo
use Rattle.c_model.specs.Control.{Todo}
use Rattle.c_model.specs.OpenBlocks.{Closes, NoEnters, NoEntersBehind}
use Rattle.c_model.specs.Runs.{Entry, State, depth_of, entry_of, limit_passed}
use Rattle.c_model.specs.Steps.{Control, Local, Scene, auto_name, control_act}
use Rattle.c_model.specs.Values.{Value, Nothing}
use Rattle.c_model.specs.World.{World}
use Rattle.run_control.specs.declared.statement.Block.{Block}
use Rattle.run_control.specs.declared.statement.Statement.TheFolds.{the_lemmas}
use Rattle.run_control.specs.declared.work.Work.{Work}
use Rattle.run_control.specs.declared.work.Work.TheVariants as work
use Rattle.run_control.specs.Stacked.{innermost}
use Rattle.run_control.specs.View.{Meaning, block_of, todo_of}
use Rattle.run_layout.specs.declared.steps.BlockCode.{BlockCode}
use Rattle.run_state.specs.declared.machine.Local.{Local as Kept_local}
use Rattle.run_state.specs.declared.machine.Machine.{Machine}
use Rattle.run_state.specs.Stands.{StandLocals, Stands, StandsControl}
use Rattle.run_control.specs.declared.work.Step.TheVariants as taking
use Rattle.run_answers.specs.Answering.{AnswersStep, IsDeclared, as_before}
use Rattle.run_machine.proofs.Lives.{stands_live, with_lives, with_objects}
use Rattle.run_answers.proofs.Staying.{control_stays}
use Rattle.run_answers.proofs.Still.{depth_same, left_stands}

-- ---- the act, under more rows
abbrev with_value : {A B : Type 0} → B → Act A → Act B
with_value v (Done a is s) = Done v is s
with_value v (Raised c) = Raised c
with_value v (Ended n is s) = Ended n is s
with_value v (Outside c n) = Outside c n
with_value v Unplaced = Unplaced

by_life : (rows more : List Row) (x : ObjName) (s : Store) (v : Value) (l : Option Life) → (is_some l ≡ true → row_of more x ≡ row_of rows x) →
    touched (Alive x) (run more ((if is_some l then touch (Put x 0 (replicate (size_in (row_of more x)) fresh)) else Give tt) >>= (λ u. Give v)) s)
    ≡ with_value v (touched (Alive x) (run rows (if is_some l then touch (Put x 0 (replicate (size_in (row_of rows x)) fresh)) else Give tt) s))
by_life rows more x s v None same = refl
by_life rows more x s v (Some l) same =
    ap (λ (r : Option Row). touched (Alive x) (Done v (Write x 0 (length (replicate (size_in r) fresh)) ∷ [])
    (with_bytes s x 0 (replicate (size_in r) fresh)))) (same refl)

pub unwrites : (rows more : List Row) (x : ObjName) (s : Store) (v : Value) (is : List Item) (t : Store) →
    (is_some (s.life x) ≡ true → row_of more x ≡ row_of rows x) → run rows (unwrite rows x) s ≡ Done tt is t →
    run more (unwrite more x >> Give v) s ≡ Done v is t
unwrites rows more x s v is t same done = by_life rows more x s v (s.life x) same ∙ ap (with_value v) done

-- ---- an object of a sound memory has the same row in more rows
row_stays : (rows more : List Row) (x : ObjName) (o : Option Row) → RowsStay rows more → row_of rows x ≡ o → is_some o ≡ true →
    row_of more x ≡ row_of rows x
row_stays rows more x None stay e there = absurd (cc)
row_stays rows more x (Some r) stay e there = stay x r e ∙ sym e

lives_there : (o : Option Held) → is_some (life_in o) ≡ true → is_some o ≡ true
lives_there None e = absurd (cc)
lives_there (Some h) e = refl

pub same_row : (m : Kept) (more : List Row) (x : ObjName) → ((y : ObjName) → is_some (held_of m.objects y) ≡ true → is_some (row_of m.rows y) ≡ true) →
    RowsStay m.rows more → is_some (life_in (held_of m.objects x)) ≡ true → row_of more x ≡ row_of m.rows x
same_row m more x rowed stay live = row_stays m.rows more x (row_of m.rows x) stay refl (rowed x (lives_there (held_of m.objects x) live))

-- ---- the innermost block
abbrev number_in : Option (Bor Block) → ℕ
number_in None = 0
number_in (Some c) = c.now.number

abbrev head_of : List ℕ → ℕ
head_of [] = 0
head_of (j ∷ js) = j

pub block_number : (meaning : Meaning) (b : Block) → (block_of meaning b).number ≡ b.number
block_number meaning b = search (rules, the_lemmas)

-- it is the one that is left first
pub innermost_open : (meaning : Meaning) (ws : List Work) (around : List ℕ) (b : Bor Block) → NoEnters (todo_of meaning ws) →
    Closes (todo_of meaning ws) around → innermost ws ≡ Some b → (os : List ℕ) × (around ≡ b.now.number ∷ os)
innermost_open meaning [] around b none closes is = absurd (cc)
innermost_open meaning (work.Leave a ∷ ws) [] b none closes is = absurd closes
innermost_open meaning (work.Leave a ∷ ws) (o ∷ os) b none closes is =
    (os, ap (λ (k : ℕ). k ∷ os) (closes.0 ∙ block_number meaning a.now ∙ ap number_in is))
innermost_open meaning (work.Enter a ∷ ws) around b none closes is = absurd none
innermost_open meaning (work.ToDo s ∷ ws) around b none closes is = innermost_open meaning ws around b none closes is
innermost_open meaning (work.Rest ss ∷ ws) around b none closes is = innermost_open meaning ws around b none closes is
innermost_open meaning (work.Round r ∷ ws) around b none closes is = innermost_open meaning ws around b none closes is
innermost_open meaning (work.Again r ∷ ws) around b none closes is = innermost_open meaning ws around b none closes is
innermost_open meaning (work.Test r ∷ ws) around b none closes is = innermost_open meaning ws around b none closes is
innermost_open meaning (work.BreakHere ∷ ws) around b none closes is = innermost_open meaning ws around b none closes is
innermost_open meaning (work.Begin n ∷ ws) around b none closes is = innermost_open meaning ws around b none closes is

-- the open blocks of a frame begin with it
pub begins_with : (bs : List (ℕ × ℕ)) (n : ℕ) (os : List ℕ) → map (λ (b : ℕ × ℕ). b.0) bs ≡ n ∷ os →
    (turn : ℕ) × (rest : List (ℕ × ℕ)) × (bs ≡ (n, turn) ∷ rest)
begins_with [] n os e = absurd (cc)
begins_with ((k, turn) ∷ bs) n os e = (turn, bs, ap (λ (j : ℕ). (j, turn) ∷ bs) (ap head_of e))

-- ---- what the step does
abbrev with_blocks : Local → List (ℕ × ℕ) → Local
with_blocks f bs = record f { scene = record f.scene { blocks = bs } }

blocks_as : (f : Local) (bs : List (ℕ × ℕ)) → f.scene.blocks ≡ bs → f ≡ with_blocks f bs
blocks_as f bs e = ap (with_blocks f) e

pub unwrites_own : (world : World) (f : Local) (d n turn : ℕ) (rest : List (ℕ × ℕ)) (after : Todo) → f.scene.blocks ≡ (n, turn) ∷ rest →
    control_act world f (todo.Unwrite d ∷ after) ≡ (unwrite world.rows (auto_name world f.scene turn d) >> Give Nothing)
unwrites_own world f d n turn rest after e = ap (λ (g : Local). control_act world g (todo.Unwrite d ∷ after)) (blocks_as f ((n, turn) ∷ rest) e)

-- ---- all together
abbrev or_this : {A : Type 0} → A → Option A → A
or_this z None = z
or_this z (Some w) = w

pub some_same : {A : Type 0} (x y : A) → Some x ≡ Some y → x ≡ y
some_same x y e = ap (or_this x) e

pub capped : (a b n : ℕ) → a + b < 2 ^ 32 → n ≡ a + b → min n (2 ^ 32 - 1) ≡ a + b
capped a b n lt e = omega (arith, lt, e)

pub capped_wide : (a b : ℕ) → a + b < 2 ^ 64 → min (a + b) (2 ^ 64 - 1) ≡ a + b
capped_wide a b lt = omega (arith, lt)

-- what the machine names is the object of the innermost block
pub names_own : (world : World) (m : Machine) (f : Scene) (bs : List (ℕ × ℕ)) (n turn d : ℕ) (rest : List (ℕ × ℕ)) (c : BlockCode) (l : Kept_local) →
    bs ≡ (n, turn) ∷ rest → slice_get m.image.code.now.tables.blocks.items (min (m.top.blocks + n) (2 ^ 32 - 1)) ≡ Some c →
    slice_get m.locals.items (min (m.top.locals + min (c.first + d) (2 ^ 32 - 1)) (2 ^ 64 - 1)) ≡ Some l →
    ((code : BlockCode) → slice_get m.image.code.now.tables.blocks.items (m.top.blocks + n) ≡ Some code →
    (m.top.blocks + n < 2 ^ 32) × (d < code.objects.count) × (code.first + d < 2 ^ 32) × (m.top.locals + (code.first + d) < 2 ^ 64)) →
    StandLocals world m m.top f bs → l.name ≡ auto_name world f turn d
names_own world m f bs n turn d rest c l first block there declared locals =
    let own = subst (λ (ds : List (ℕ × ℕ)). StandLocals world m m.top f ds) first locals in
    let code = own.0.0 in
    let bounds = declared code own.0.1 in
    let same = some_same c code (sym block
    ∙ ap (slice_get m.image.code.now.tables.blocks.items) (capped m.top.blocks n (m.top.blocks + n) bounds.0 refl) ∙ own.0.1) in
    let at = capped code.first d (c.first + d) bounds.2 (ap (λ (k : BlockCode). k.first + d) same) in
    let there_too = ap (λ (i : ℕ). slice_get m.locals.items (min (m.top.locals + i) (2 ^ 64 - 1))) at
    ∙ ap (slice_get m.locals.items) (capped_wide m.top.locals (code.first + d) bounds.3) in
    ap (λ (k : Kept_local). k.name) (some_same l _ (sym there ∙ there_too ∙ (own.0.2 d bounds.1).0))

-- with other objects, other items, and less left to do
lives_stand : (world : World) (meaning : Option ℕ → Meaning) (m : Machine) (os : List Held) (is : List Item) (before : List Work) (st : State) (after : Todo)
    (trace : List Entry) → Keeps m.memory (with_objects m.memory os) →
    StandsControl (meaning m.top.function) m.work.now (record st.top { todo = after }) → Stands world meaning (as_before m before) st →
    Stands world meaning (record m { memory = with_objects m.memory os; items = is })
    (record { top = record st.top { todo = after }; held = st.held; store = store_of (with_objects m.memory os) m.streams; trace = trace })
lives_stand world meaning m os is before st after trace keeps control s =
    let there = as_before m before in
    left_stands world meaning (with_lives there os) m.work.now is m.spare (record st { store = store_of (with_objects m.memory os) m.streams }) after trace
    control (stands_live world there os keeps meaning st s)

answers_so : (m : Machine) (d : ℕ) (os : List Held) (is : List Item) (b : Bor Block) (c : BlockCode) (l : Kept_local) → innermost m.work.now ≡ Some b →
    slice_get m.image.code.now.tables.blocks.items (min (m.top.blocks + b.now.number) (2 ^ 32 - 1)) ≡ Some c →
    slice_get m.locals.items (min (m.top.locals + min (c.first + d) (2 ^ 32 - 1)) (2 ^ 64 - 1)) ≡ Some l → Keeps m.memory (with_objects m.memory os) →
    run m.memory.rows (unwrite m.memory.rows l.name) (store_of m.memory m.streams) ≡ Done tt is (store_of (with_objects m.memory os) m.streams) →
    AnswersStep (taking.Unwrite d) m (record m { memory = with_objects m.memory os; items = is }) (Ok None)
answers_so m d os is b c l inner block there keeps exact = λ world meaning st h.
    let mg = meaning m.top.function in
    let after = todo_of mg m.work.now in
    let frame = h.stands.frames.0 in
    let io = m.streams in
    let bs = st.top.scene.blocks in
    let ready = sym (h.next ∙ frame.control.ready) in
    let around = h.can.0 in
    let found = innermost_open mg m.work.now (map (λ (k : ℕ × ℕ). k.0) bs) b
    (subst (λ (t : Todo). NoEntersBehind t) ready around.behind)
    (subst (λ (t : Todo). Closes t (map (λ (k : ℕ × ℕ). k.0) bs)) ready around.closes) inner in
    let first = begins_with bs b.now.number found.0 found.1 in
    let turn = first.0 in
    let declared = subst (λ (ds : List (ℕ × ℕ)). IsDeclared m.image.code.now m.top d ds) first.2 h.can.1 in
    let name = names_own world (as_before m h.before) st.top.scene bs b.now.number turn d first.1 c l first.2 block there declared frame.locals in
    let x = auto_name world st.top.scene turn d in
    let same = same_row m.memory world.rows x h.stands.memory.sound.rowed h.stands.memory.rows in
    let ran = unwrites m.memory.rows world.rows x (store_of m.memory io) Nothing is (store_of (with_objects m.memory os) io) same
    (subst (λ (y : ObjName). run m.memory.rows (unwrite m.memory.rows y) (store_of m.memory io) ≡ Done tt is (store_of (with_objects m.memory os) io))
    name exact) in
    let trace = entry_of world st.top Control is ∷ st.trace in
    λ rows. (
      record { top = record st.top { todo = after }; held = st.held; store = store_of (with_objects m.memory os) io; trace = trace },
      control_stays world st (todo.Unwrite d) after Nothing is (store_of (with_objects m.memory os) io) h.closed ready refl
          (ap (λ (p : Script Value). run world.rows p st.store) (unwrites_own world st.top d b.now.number turn first.1 after first.2)
          ∙ ap (λ (s : Store). run world.rows (unwrite world.rows x >> Give Nothing) s) h.stands.memory.store ∙ ran) refl
          (ap (λ (k : ℕ). limit_passed world.limits k (store_of m.memory io)) (depth_same st.top (record st.top { todo = after }) st.held refl)
          ∙ ap (limit_passed world.limits (depth_of st.top st.held)) (sym h.stands.memory.store) ∙ h.within),
      refl,
      lives_stand world meaning m os is h.before st after trace keeps (record { ready = refl; behind = λ e. refl }) h.stands,
    )

unwrite_answers : (m : Machine) (d : ℕ) (k : Kept) (is : List Item) (b : Bor Block) (c : BlockCode) (l : Kept_local) → innermost m.work.now ≡ Some b →
    slice_get m.image.code.now.tables.blocks.items (min (m.top.blocks + b.now.number) (2 ^ 32 - 1)) ≡ Some c →
    slice_get m.locals.items (min (m.top.locals + min (c.first + d) (2 ^ 32 - 1)) (2 ^ 64 - 1)) ≡ Some l → Keeps m.memory k →
    record k { objects = [] } ≡ record m.memory { objects = [] } →
    ((io : Io) → run k.rows (unwrite k.rows l.name) (store_of m.memory io) ≡ Done tt is (store_of k io)) →
    AnswersStep (taking.Unwrite d) m (record m { memory = k; items = is }) (Ok None)
unwrite_answers m d k is b c l inner block there keeps rest exact =
    let e : k ≡ with_objects m.memory k.objects = ap (λ (j : Kept). record j { objects = k.objects }) rest in
    subst (λ (j : Kept). AnswersStep (taking.Unwrite d) m (record m { memory = j; items = is }) (Ok None)) (sym e)
    (answers_so m d k.objects is b c l inner block there (subst (λ (j : Kept). Keeps m.memory j) e keeps)
    (subst (λ (j : Kept). run j.rows (unwrite j.rows l.name) (store_of m.memory m.streams) ≡ Done tt is (store_of j m.streams)) e (exact m.streams)))

-- .. by the name that was read
pub unwrite_named : (m : Machine) (d at : ℕ) (k : Kept) (is : List Item) (b : Bor Block) (c : BlockCode) (x : ObjName) → innermost m.work.now ≡ Some b →
    slice_get m.image.code.now.tables.blocks.items (min (m.top.blocks + b.now.number) (2 ^ 32 - 1)) ≡ Some c → at ≡ min (c.first + d) (2 ^ 32 - 1) →
    (l : Kept_local) × (slice_get m.locals.items (min (m.top.locals + at) (2 ^ 64 - 1)) ≡ Some l) × (l.name ≡ x) →
    Keeps m.memory k → record k { objects = [] } ≡ record m.memory { objects = [] } →
    ((io : Io) → run k.rows (unwrite k.rows x) (store_of m.memory io) ≡ Done tt is (store_of k io)) →
    AnswersStep (taking.Unwrite d) m (record m { memory = k; items = is }) (Ok None)
unwrite_named m d at k is b c x inner block same there keeps rest exact =
    unwrite_answers m d k is b c there.0 inner block
    (ap (λ (i : ℕ). slice_get m.locals.items (min (m.top.locals + i) (2 ^ 64 - 1))) (sym same) ∙ there.1) keeps rest
    (subst (λ (y : ObjName). (io : Io) → run k.rows (unwrite k.rows y) (store_of m.memory io) ≡ Done tt is (store_of k io)) (sym there.2) exact)
