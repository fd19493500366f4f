-- A full expression is settled: the machine then stands for the definitions' next state.
use Rattle.std.proofs.Common.{
  ◌≡◌,
  ℕ,
  ◌&&◌,
  Bool,
  true,
  false,
  refl,
  sym,
  ap,
  ◌∙◌,
  subst,
  true≢false,
  List,
  [],
  ◌∷◌,
  length,
  map,
  reverse,
  ℤ,
  Option,
  Some,
  None,
}
use Rattle.std.specs.Borrow.{Bor}
use Rattle.std.specs.Prelude.{is_none, is_some, if◌then◌else◌, OnOk, Result, Ok, Err}
use Rattle.mem_spec.specs.Script.{run}
use Rattle.mem_objects.specs.Memory.{Kept}
use Rattle.mem_objects.specs.declared.value.Value.{Value as Kept_value}
use Rattle.c_model.specs.Control as todo
use Rattle.c_model.specs.Control.{Todo, Unused, ready_work, work_after}
use Rattle.c_model.specs.Moves.{End, Move, Stay}
use Rattle.c_model.specs.Runs.{
  Entry,
  Outcome,
  Running,
  State,
  acted,
  back,
  block_passes,
  depth_of,
  entry_of,
  limit_passed,
  limited,
  moved,
  step,
  within,
}
use Rattle.c_model.specs.Steps.{Begun, Control, Local, MayPick, Scene, does, ends_with, is_result, move, next, result_of, root_value, settled}
use Rattle.c_model.specs.Values.{Value, integer_of, truth}
use Rattle.c_model.specs.World.{World}
use Rattle.run_values.specs.Kept.{IsOf}
use Rattle.run_values.specs.Views.{value_in}
use Rattle.run_control.specs.declared.statement.Switch.{Switch}
use Rattle.run_control.specs.declared.work.Use.{Use}
use Rattle.run_control.specs.declared.work.Use.TheVariants as for_use
use Rattle.run_control.specs.declared.work.Work.{Work}
use Rattle.run_control.specs.Stacked.{Stacked}
use Rattle.run_control.specs.View.{Meaning, after, is_nothing, todo_of, use_of}
use Rattle.run_layout.specs.declared.steps.Operand.{Operand}
use Rattle.run_state.specs.declared.halt.Halt.{Halt}
use Rattle.run_state.specs.declared.halt.Halt.TheVariants as halt
use Rattle.run_state.specs.declared.machine.Machine.{Machine}
use Rattle.run_state.specs.declared.machine.Open.{Open}
use Rattle.run_state.specs.declared.machine.Stage.{Stage}
use Rattle.run_state.specs.Operands.{QuietGives, RoomGives, operand_in}
use Rattle.run_state.specs.Stands.{IsResultOf, StandLocals, Stands, StandsControl, result_seen}
use Rattle.run_answers.specs.Answering.{Answers, AnswersControl, CanGoOn, ComesTo, IsWithin, MayGoOn}
use Rattle.run_answers.specs.Ended.{AnswersEnd}
use Rattle.run_answers.specs.Ending.{CanEnd}
use Rattle.run_answers.specs.Leaving.{GoesStill}
use Rattle.run_answers.specs.Moving.{GoesOn}
use Rattle.run_answers.specs.Jumps.{HasCases}
use Rattle.run_answers.specs.Settling.{CanSettle, GoesBehind, HasSelected, HasUsed, left_by}
use Rattle.run_machine.proofs.Aside.{operand_aside}
use Rattle.run_answers.proofs.Opened.{one_open}
use Rattle.run_machine.proofs.RootValue.{root_gives}
use Rattle.run_machine.proofs.Selecting.{selected_todo}
use Rattle.run_answers.proofs.Staying.{no_memory}
use Rattle.run_answers.proofs.Still.{above_same, depth_same, frame_aside, frames_aside, tables_aside}

-- ---- the definitions
module _ (world : World) (st : State) (e : Begun) (begun : st.top.begun ≡ Some e) where
  abbrev pub settled_top : Local
  settled_top = settled world st.top (root_value world st.top e) e.what

  abbrev pub trace_after : List Entry
  trace_after = entry_of world st.top Control [] ∷ st.trace

  abbrev pub settled_state : State
  settled_state = record { top = settled_top; held = st.held; store = st.store; trace = trace_after }

  abbrev ends_here : Bool
  ends_here = is_none st.top.function && ends_with world (ready_work st.top.todo)

  moves_by : (b : Bool) → ends_here ≡ b → move world st.top st.top.begun Control ≡ (if b then End else Stay)
  moves_by b is =
      ap (λ (x : Option Begun). move world st.top x Control) begun ∙ ap (λ (c : Bool). let k : Move Local = (if c then End else Stay) in k) is

  steps_by : (k : Move Local) → move world st.top st.top.begun Control ≡ k →
      step world st Control ≡ limited world.limits (moved world st Control k (result_of world st.top) st.store trace_after)
  steps_by k is =
      ap (λ (l : Option _). within l (acted world st Control (run world.rows (does world st.top st.top.begun Control) st.store)))
      (ap (λ (b : Option Begun). if is_some b then None else block_passes world.limits st.store (ready_work st.top.todo)) begun)
      ∙ ap (acted world st Control) (ap (λ (b : Option Begun). run world.rows (does world st.top b Control) st.store) begun)
      ∙ ap (λ (j : Move Local). limited world.limits (moved world st Control j (result_of world st.top) st.store trace_after)) is

  depth_after : limit_passed world.limits (depth_of st.top st.held) st.store ≡ None →
      limit_passed world.limits (depth_of settled_top st.held) st.store ≡ None
  depth_after limits = ap (λ (d : ℕ). limit_passed world.limits d st.store) (depth_same st.top settled_top st.held refl) ∙ limits

  -- the frame stays
  settles_on : ends_here ≡ false → limit_passed world.limits (depth_of st.top st.held) st.store ≡ None → step world st Control ≡ Running settled_state
  settles_on stays limits =
      steps_by Stay (moves_by false stays)
      ∙ ap (λ (b : Option Begun). limited world.limits (Running (record {
        top = next world st.top b Control (result_of world st.top);
        held = st.held;
        store = st.store;
        trace = trace_after;
      }))) begun
      ∙ ap (λ (l : Option _). within l (Running settled_state)) (depth_after limits)

  -- .. or ends
  settles_ends : ends_here ≡ true →
      step world st Control ≡ limited world.limits (back world st.held (result_of world st.top) st.store trace_after)
  settles_ends ends = steps_by End (moves_by true ends)

-- ---- what is left to do, and the result
-- of a value that isn't the test of a `switch`
abbrev pub IsNoTest : Use → Type 0
IsNoTest how = (b : Bor Switch) → how ≡ for_use.Select b → ⊥

after_same : (m : Meaning) (b : Bool) (z : ℤ) (how : Use) (rest : Todo) → IsNoTest how →
    after m b z how rest ≡ work_after b z (use_of m how) rest
after_same m b z for_use.Unused rest h = refl
after_same m b z (for_use.Branch s t) rest h = refl
after_same m b z (for_use.Enter s) rest h = refl
after_same m b z (for_use.Select s) rest h = absurd (h s refl)
after_same m b z (for_use.GoRound s) rest h = refl
after_same m b z (for_use.GoAgain s) rest h = refl
after_same m b z for_use.Result rest h = refl

result_left : (world : World) (meaning : Meaning) (k : Kept) (n : Option ℕ) (how : Use) (h : Kept_value) (left : Option Kept_value) (result : Option Value) →
    result ≡ result_seen k n left →
    (if is_result world (use_of meaning how) then Some (value_in k h) else result) ≡ result_seen k n (left_by how h left)
result_left world meaning k n for_use.Unused h left result is = is
result_left world meaning k n (for_use.Branch s t) h left result is = is
result_left world meaning k n (for_use.Enter s) h left result is = is
result_left world meaning k n (for_use.Select s) h left result is = is
result_left world meaning k n (for_use.GoRound s) h left result is = is
result_left world meaning k n (for_use.GoAgain s) h left result is = is
result_left world meaning k n for_use.Result h left result is = refl

result_made : (k : Kept) (how : Use) (h : Kept_value) (left : Option Kept_value) → IsOf k h → IsResultOf k left → IsResultOf k (left_by how h left)
result_made k for_use.Unused h left made is = is
result_made k (for_use.Branch s t) h left made is = is
result_made k (for_use.Enter s) h left made is = is
result_made k (for_use.Select s) h left made is = is
result_made k (for_use.GoRound s) h left made is = is
result_made k (for_use.GoAgain s) h left made is = is
result_made k for_use.Result h left made is = made

-- of a value that has no use
unused_work : (b : Bool) (z : ℤ) (rest : Todo) → work_after b z Unused rest ≡ rest
unused_work true z rest = refl
unused_work false z rest = refl

unused_todo : (world : World) (f : Local) (v : Value) (what : todo.Use) → what ≡ Unused → (settled world f v what).todo ≡ f.todo
unused_todo world f v what is = ap (λ (u : todo.Use). work_after (truth v) (integer_of v) u f.todo) is ∙ unused_work (truth v) (integer_of v) f.todo

nothing_ends : (world : World) (t : Todo) → ends_with world t ≡ is_nothing t
nothing_ends world [] = refl
nothing_ends world (w ∷ ws) = refl

-- ---- the machine
-- with no full expression open in its top frame, this left to do in it, and this result
abbrev pub settled_in : Machine → List Work → Option Kept_value → Machine
settled_in m ws left = record m { top = record m.top { stage = None }; work = record { below = m.work.below; now = ws }; left = left }

-- operands give what they gave
operand_closed : (m : Machine) (left : Option Kept_value) (stage : Option Stage) (o : Operand) →
    operand_in (record m { top = record m.top { stage = stage }; left = left }) o ≡ operand_in m o
operand_closed m left stage o = operand_aside m stage left m.items o

locals_closed : (world : World) (m : Machine) (o : Open) (f : Scene) (bs : List (ℕ × ℕ)) → StandLocals world m o f bs →
    StandLocals world m (record o { stage = None }) f bs
locals_closed world m o f [] l = tt
locals_closed world m o f (b ∷ bs) l = (l.0, locals_closed world m o f bs l.1)

closed_stands : (world : World) (meaning : Option ℕ → Meaning) (m : Machine) (ws : List Work) (left : Option Kept_value) (st : State) (v : Value)
    (what : todo.Use)
    (trace : List Entry) → StandsControl (meaning m.top.function) ws (settled world st.top v what) →
    (settled world st.top v what).result ≡ result_seen m.memory m.top.function left → IsResultOf m.memory left → Stands world meaning m st →
    Stands world meaning (settled_in m ws left) (record { top = settled world st.top v what; held = st.held; store = st.store; trace = trace })
closed_stands world meaning m ws left st v what trace control result made s =
    let n = settled_in m ws left in
    let o = record m.top { stage = None } in
    let f = settled world st.top v what in
    let frame = frame_aside world (meaning m.top.function) m n (length (reverse m.below.items)) m.top m.work.now m.left st.top None s.frames.0 in
    record {
      program = s.program;
      code = s.code;
      listed = s.listed;
      memory = s.memory;
      tables = tables_aside m n s.tables;
      frames = (
        record {
          number = frame.number;
          turn = frame.turn;
          function = frame.function;
          arguments = frame.arguments;
          locals = locals_closed world n m.top st.top.scene st.top.scene.blocks frame.locals;
          result = result;
          control = control;
          begun = refl;
        },
        above_same m.top o st.top f (reverse m.below.items) (map (λ h. (h.0, Some h.1)) st.held)
            (record { base = refl; node = refl; function = refl; locals = refl; above = refl; first_block = refl })
            (record { path = refl; home = refl; blocks = refl }) s.frames.1,
        frames_aside world meaning m n None (reverse m.below.items) m.work.below (map (λ h. (h.0, Some h.1)) st.held) s.frames.2,
      );
      result = made;
      depth = s.depth ∙ sym (depth_same st.top f st.held refl);
    }

-- ---- what holds of a full expression that is to be settled, in a machine that stands
some_open : (o : Option Begun) (x : Begun) → o ≡ Some x → is_some o ≡ true
some_open o x h = ap is_some h

pub record Settles (world : World) (meaning : Option ℕ → Meaning) (m : Machine) (stage : Stage) (st : State) : Type 0 where
  pub e : Begun
  pub opened : st.top.begun ≡ Some e
  pub can : CanSettle world m st e
  pub value : Kept_value
  pub gives : operand_in m stage.value ≡ Some value
  pub made : IsOf m.memory value
  pub seen : value_in m.memory value ≡ root_value world st.top e
  pub how : use_of (meaning m.top.function) m.top.how ≡ e.what
  pub todo : todo_of (meaning m.top.function) m.work.now ≡ st.top.todo

settles : QuietGives → RoomGives → (world : World) (meaning : Option ℕ → Meaning) (m : Machine) (stage : Stage) (st : State) → m.top.stage ≡ Some stage →
    Stands world meaning m st → MayGoOn world m st → m.items ≡ [] → Settles world meaning m stage st
settles quiet room world meaning m stage st is s may items =
    let mg = meaning m.top.function in
    let frame = s.frames.0 in
    let found = one_open world mg m (length (reverse m.below.items)) m.top m.top.stage stage st.top.scene st.top.begun frame.begun is in
    let e = found.0 in
    let can = subst (λ (b : Option Begun). CanGoOn world m st b) found.1 may.can in
    let done = subst (λ (b : Option Begun). MayPick world st.top b Control) found.1 may.control in
    let gives = root_gives quiet room world meaning m stage st e s items can.addresses found.2 (can.usable stage found.2.laid is found.2.at) done in
    record {
      e = e;
      opened = found.1;
      can = can;
      value = gives.0;
      gives = gives.1;
      made = gives.2;
      seen = gives.3;
      how = found.2.what;
      todo = frame.control.behind (some_open st.top.begun e found.1);
    }

module _ (world : World) (meaning : Option ℕ → Meaning) (m : Machine) (stage : Stage) (st : State) (is : m.top.stage ≡ Some stage)
    (s : Stands world meaning m st) (x : Settles world meaning m stage st) where
  abbrev mg : Meaning
  mg = meaning m.top.function

  abbrev v : Value
  v = root_value world st.top x.e

  -- what is left to do once the value was used
  work_todo : (ws : List Work) →
      todo_of mg ws ≡ work_after (truth (value_in m.memory x.value)) (integer_of (value_in m.memory x.value)) (use_of mg m.top.how) (todo_of mg m.work.now) →
      todo_of mg ws ≡ (settled world st.top v x.e.what).todo
  work_todo ws now =
      now
      ∙ ap (λ (w : Value). work_after (truth w) (integer_of w) (use_of mg m.top.how) (todo_of mg m.work.now)) x.seen
      ∙ ap (λ (u : todo.Use). work_after (truth v) (integer_of v) u (todo_of mg m.work.now)) x.how
      ∙ ap (work_after (truth v) (integer_of v) x.e.what) x.todo

  used_todo : IsNoTest m.top.how → (ws : List Work) →
      todo_of mg ws ≡ after mg (truth (value_in m.memory x.value)) (integer_of (value_in m.memory x.value)) m.top.how (todo_of mg m.work.now) →
      todo_of mg ws ≡ (settled world st.top v x.e.what).todo
  used_todo other ws now =
      work_todo ws
      (now ∙ after_same mg (truth (value_in m.memory x.value)) (integer_of (value_in m.memory x.value)) m.top.how (todo_of mg m.work.now) other)

  used_result : (left : Option Kept_value) → left ≡ left_by m.top.how x.value m.left →
      (settled world st.top v x.e.what).result ≡ result_seen m.memory m.top.function left
  used_result left by =
      ap (λ (u : todo.Use). if is_result world u then Some v else st.top.result) (sym x.how)
      ∙ ap (λ (w : Value). if is_result world (use_of mg m.top.how) then Some w else st.top.result) (sym x.seen)
      ∙ result_left world mg m.memory m.top.function m.top.how x.value m.left st.top.result s.frames.0.result
      ∙ ap (result_seen m.memory m.top.function) (sym by)

  -- the machine stands for the state behind it
  settled_stands : (ws : List Work) (left : Option Kept_value) → ready_work (todo_of mg ws) ≡ ready_work (settled world st.top v x.e.what).todo →
      left ≡ left_by m.top.how x.value m.left → Stands world meaning (settled_in m ws left) (settled_state world st x.e x.opened)
  settled_stands ws left ready by =
      closed_stands world meaning m ws left st v x.e.what (trace_after world st x.e x.opened)
      (record { ready = ready; behind = λ b. absurd (true≢false (sym b)) }) (used_result left by)
      (subst (IsResultOf m.memory) (sym by) (result_made m.memory m.top.how x.value m.left x.made s.result)) s

  abbrev behind : Todo
  behind = (settled world st.top v x.e.what).todo

  -- where something is left to do, the frame stays
  stays_by : (n : Option ℕ) → st.top.function ≡ n → GoesBehind n m st x.e.what behind → is_nothing (ready_work behind) ≡ false →
      ends_here world st x.e x.opened ≡ false
  stays_by (Some n) is goes on = ap (λ (o : Option ℕ). is_none o && ends_with world (ready_work st.top.todo)) is
  stays_by None is goes on =
      ap (λ (o : Option ℕ). is_none o && ends_with world (ready_work st.top.todo)) is
      ∙ nothing_ends world (ready_work st.top.todo)
      ∙ ap (λ (t : Todo). is_nothing (ready_work t)) (sym (unused_todo world st.top v x.e.what goes.0))
      ∙ on

  settled_so : (ws : List Work) (left : Option Kept_value) → IsWithin world st → is_nothing (ready_work behind) ≡ false →
      ready_work (todo_of mg ws) ≡ ready_work behind → left ≡ left_by m.top.how x.value m.left → m.items ≡ [] →
      Answers world meaning (Ok None) (settled_in m ws left) (step world st Control)
  settled_so ws left limits on ready by items = λ rows. (
    settled_state world st x.e x.opened,
    settles_on world st x.e x.opened (stays_by m.top.function (sym s.frames.0.function) x.can.behind on) limits,
    sym items,
    settled_stands ws left ready by,
  )

  -- where nothing is, it is an isolated initializer's, and ends
  abbrev Isolated : Type 0
  Isolated = (ends_here world st x.e x.opened ≡ true) × (x.e.what ≡ Unused) × CanEnd m st

  isolated_by : (n : Option ℕ) → st.top.function ≡ n → GoesBehind n m st x.e.what behind → is_nothing (ready_work behind) ≡ true → Isolated
  isolated_by (Some n) is goes over = absurd (true≢false (sym over ∙ goes))
  isolated_by None is goes over = (
    ap (λ (o : Option ℕ). is_none o && ends_with world (ready_work st.top.todo)) is
        ∙ nothing_ends world (ready_work st.top.todo)
        ∙ ap (λ (t : Todo). is_nothing (ready_work t)) (sym (unused_todo world st.top v x.e.what goes.0))
        ∙ over,
    goes.0,
    goes.1 over,
  )

  ended_so : (m3 : Machine) (ws : List Work) (left : Option Kept_value) (status : Option ℕ) → IsWithin world st → Isolated →
      todo_of mg ws ≡ behind → left ≡ left_by m.top.how x.value m.left → m.items ≡ [] → AnswersEnd (settled_in m ws left) m3 (Ok status) →
      ComesTo world meaning status m3 (step world st Control)
  ended_so m3 ws left status limits own now by items ends =
      let after_it = settled_state world st x.e x.opened in
      let gives : result_of world (settled_top world st x.e x.opened) ≡ result_of world st.top =
      ap (λ (u : todo.Use). result_of world (settled world st.top v u)) own.1 in
      let can = own.2 in
      subst (λ (o : Outcome). ComesTo world meaning status m3 o)
      (ap (λ (w : Value). limited world.limits (back world st.held w st.store (trace_after world st x.e x.opened))) gives
      ∙ sym (settles_ends world st x.e x.opened own.0))
      (ends world meaning after_it (trace_after world st x.e x.opened) (settled_stands ws left (ap ready_work now) by)
      (depth_after world st x.e x.opened limits) refl (record { function = can.function; rooms = can.rooms; room = can.room }) (sym items))

-- ---- by the calls that it consists of: the value is used, and the frame goes on or ends
abbrev StillGoes : Machine → Machine → Result (Option ℕ) Halt → Type 0
StillGoes m2 m3 r = (k : Meaning) → is_nothing (ready_work (todo_of k m2.work.now)) ≡ false → GoesStill m2 m3 r

abbrev EndsThen : Machine → Machine → Result (Option ℕ) Halt → Type 0
EndsThen m2 m3 r = (k : Meaning) → is_nothing (ready_work (todo_of k m2.work.now)) ≡ true → AnswersEnd m2 m3 r

abbrev pub closed_in : Machine → Machine
closed_in m = record m { top = record m.top { stage = None } }

-- what is left to do behind the full expression
abbrev todo_after : (world : World) (meaning : Option ℕ → Meaning) (m : Machine) (stage : Stage) (st : State) → Settles world meaning m stage st → Todo
todo_after world meaning m stage st x = (settled world st.top (root_value world st.top x.e) x.e.what).todo

module _ (m m2 m3 : Machine) (stage : Stage) (world : World) (meaning : Option ℕ → Meaning) (st : State) (is : m.top.stage ≡ Some stage)
    (s : Stands world meaning m st) (limits : IsWithin world st) (items : m.items ≡ []) (x : Settles world meaning m stage st)
    (rest : m2 ≡ record (closed_in m) { work = m2.work; left = m2.left }) (below : m2.work.below ≡ m.work.below)
    (now : todo_of (meaning m.top.function) m2.work.now ≡ todo_after world meaning m stage st x)
    (left : m2.left ≡ left_by m.top.how x.value m.left) where
  abbrev k : Meaning
  k = meaning m.top.function

  abbrev after_todo : Todo
  after_todo = todo_after world meaning m stage st x

  whole : m2 ≡ settled_in m m2.work.now m2.left
  whole = rest
      ∙ ap (λ (bs : List (List Work)). record m { top = record m.top { stage = None }; work = record { below = bs; now = m2.work.now }; left = m2.left })
      below

  goes_on : (r : Result (Option ℕ) Halt) → is_nothing (ready_work after_todo) ≡ false → OnOk r ((j : Meaning) → GoesOn j m2.work m3.work) →
      GoesStill m2 m3 r → Answers world meaning r m3 (step world st Control)
  goes_on (Err halt) on goes stays = no_memory world meaning m3 (step world st Control) halt stays
  goes_on (Ok status) on goes stays =
      let still = (goes k).on (ap (λ (t : Todo). is_nothing (ready_work t)) now ∙ on) in
      let under : m3.work.below ≡ m.work.below = still.0 ∙ below in
      let full : m3 ≡ settled_in m m3.work.now m2.left =
      stays.1 ∙ ap (λ (y : Machine). record y { work = m3.work }) rest
      ∙ ap (λ (bs : List (List Work)). record m { top = record m.top { stage = None }; work = record { below = bs; now = m3.work.now }; left = m2.left })
      under in
      let answer = settled_so world meaning m stage st is s x m3.work.now m2.left limits on (still.1 ∙ ap ready_work now) left items in
      subst (λ (o : Option ℕ). Answers world meaning (Ok o) m3 (step world st Control)) (sym stays.0)
      (subst (λ (y : Machine). Answers world meaning (Ok None) y (step world st Control)) (sym full) answer)

  ends_then : (r : Result (Option ℕ) Halt) → is_nothing (ready_work after_todo) ≡ true → AnswersEnd m2 m3 r →
      Answers world meaning r m3 (step world st Control)
  ends_then (Err halt) over ends = no_memory world meaning m3 (step world st Control) halt ends
  ends_then (Ok status) over ends =
      ended_so world meaning m stage st is s x m3 m2.work.now m2.left status limits
      (isolated_by world meaning m stage st is s x m.top.function (sym s.frames.0.function) x.can.behind over) now left items
      (subst (λ (y : Machine). AnswersEnd y m3 (Ok status)) whole ends)

  settled_by : (r : Result (Option ℕ) Halt) → OnOk r ((j : Meaning) → GoesOn j m2.work m3.work) → StillGoes m2 m3 r → EndsThen m2 m3 r → (b : Bool) →
      is_nothing (ready_work after_todo) ≡ b → Answers world meaning r m3 (step world st Control)
  settled_by r goes still ends true over = ends_then r over (ends k (ap (λ (t : Todo). is_nothing (ready_work t)) now ∙ over))
  settled_by r goes still ends false on = goes_on r on goes (still k (ap (λ (t : Todo). is_nothing (ready_work t)) now ∙ on))

pub settle_answers : QuietGives → RoomGives → (m m2 m3 : Machine) (stage : Stage) (r : Result (Option ℕ) Halt) →
    IsNoTest m.top.how → HasUsed (closed_in m) m.top.how stage.value m2 → OnOk r ((k : Meaning) → GoesOn k m2.work m3.work) → StillGoes m2 m3 r →
    EndsThen m2 m3 r → m.top.stage ≡ Some stage → AnswersControl m m3 r
settle_answers quiet room m m2 m3 stage r other used goes still ends is = λ world meaning st s may items.
    let k = meaning m.top.function in
    let x = settles quiet room world meaning m stage st is s may items in
    let gives : operand_in (closed_in m) stage.value ≡ Some x.value = operand_closed m m.left None stage.value ∙ x.gives in
    settled_by m m2 m3 stage world meaning st is s may.within items x used.rest used.below
    (used_todo world meaning m stage st is s x other m2.work.now (used.now x.value gives m.memory k)) (used.left x.value gives) r goes still ends
    (is_nothing (ready_work (todo_after world meaning m stage st x))) refl

-- .. or a case of a `switch` comes next
case_todo : (world : World) (meaning : Option ℕ → Meaning) (m m2 : Machine) (stage : Stage) (st : State) (b : Bor Switch) (what : todo.Use) (behind : Todo)
    (h : Kept_value) (n : Option ℕ) → m.top.function ≡ n → GoesBehind n m st what behind → use_of (meaning n) (for_use.Select b) ≡ what →
    HasCases m.image.code.now m.jumps n (for_use.Select b) → Stands world meaning m st → HasSelected (closed_in m) b.now.number stage.value m2 →
    operand_in (closed_in m) stage.value ≡ Some h →
    todo_of (meaning n) m2.work.now ≡ work_after (truth (value_in m.memory h)) (integer_of (value_in m.memory h))
    (use_of (meaning n) (for_use.Select b)) (todo_of (meaning n) m.work.now)
case_todo world meaning m m2 stage st b what behind h None is goes how c s selects gives = absurd (let e = goes.0 in cc)
case_todo world meaning m m2 stage st b what behind h (Some n) is goes how c s selects gives =
    selected_todo world meaning m.program.now (closed_in m) m2 n b stage.value h m.memory s.code c is selects gives

case_after : (world : World) (meaning : Option ℕ → Meaning) (m m2 : Machine) (stage : Stage) (st : State) (b : Bor Switch) → m.top.how ≡ for_use.Select b →
    HasSelected (closed_in m) b.now.number stage.value m2 → Stands world meaning m st → (x : Settles world meaning m stage st) →
    operand_in (closed_in m) stage.value ≡ Some x.value →
    todo_of (meaning m.top.function) m2.work.now ≡ work_after (truth (value_in m.memory x.value)) (integer_of (value_in m.memory x.value))
    (use_of (meaning m.top.function) m.top.how) (todo_of (meaning m.top.function) m.work.now)
case_after world meaning m m2 stage st b how selects s x gives =
    let k = meaning m.top.function in
    case_todo world meaning m m2 stage st b x.e.what (settled world st.top (root_value world st.top x.e) x.e.what).todo x.value m.top.function refl x.can.behind
    (ap (use_of k) (sym how) ∙ x.how) (subst (λ (u : Use). HasCases m.image.code.now m.jumps m.top.function u) how x.can.chooses) s selects gives
    ∙ ap (λ (u : Use). work_after (truth (value_in m.memory x.value)) (integer_of (value_in m.memory x.value)) (use_of k u) (todo_of k m.work.now)) (sym how)

pub select_answers : QuietGives → RoomGives → (m m2 m3 : Machine) (stage : Stage) (b : Bor Switch) (r : Result (Option ℕ) Halt) →
    m.top.how ≡ for_use.Select b → HasSelected (closed_in m) b.now.number stage.value m2 → OnOk r ((k : Meaning) → GoesOn k m2.work m3.work) →
    StillGoes m2 m3 r → EndsThen m2 m3 r → m.top.stage ≡ Some stage → AnswersControl m m3 r
select_answers quiet room m m2 m3 stage b r how selects goes still ends is = λ world meaning st s may items.
    let x = settles quiet room world meaning m stage st is s may items in
    let gives : operand_in (closed_in m) stage.value ≡ Some x.value = operand_closed m m.left None stage.value ∙ x.gives in
    let lefts : m2.left ≡ m.left = ap (λ (y : Machine). y.left) selects.rest in
    settled_by m m2 m3 stage world meaning st is s may.within items x
    (selects.rest ∙ ap (λ (l : Option Kept_value). record (closed_in m) { work = m2.work; left = l }) (sym lefts)) selects.below
    (work_todo world meaning m stage st is s x m2.work.now (case_after world meaning m m2 stage st b how selects s x gives))
    (lefts ∙ ap (λ (u : Use). left_by u x.value m.left) (sym how)) r goes still ends
    (is_nothing (ready_work (todo_after world meaning m stage st x))) refl

-- ---- the value is used
abbrev pub with_left : Machine → Option Kept_value → Machine
with_left m left = record m { left = left }

pub used_so : (m m1 m2 : Machine) (how : Use) (o : Operand) (b : Bool) → m1 ≡ with_left m m1.left →
    ((h : Kept_value) → operand_in m o ≡ Some h → m1.left ≡ left_by how h m.left) →
    ((h : Kept_value) → operand_in m1 o ≡ Some h → (k : Kept) → b ≡ truth (value_in k h)) → m2 ≡ record m1 { work = m2.work } →
    m2.work.below ≡ m1.work.below → ((k : Meaning) (z : ℤ) → todo_of k m2.work.now ≡ after k b z how (todo_of k m1.work.now)) → HasUsed m how o m2
used_so m m1 m2 how o b kept left tests rest below now =
    let worked : m1.work ≡ m.work = ap (λ (x : Machine). x.work) kept in
    let lefts : m2.left ≡ m1.left = ap (λ (x : Machine). x.left) rest in
    let same : operand_in m1 o ≡ operand_in m o = ap (λ (x : Machine). operand_in x o) kept ∙ operand_closed m m1.left m.top.stage o in
    record {
      rest = rest ∙ ap (λ (x : Machine). record x { work = m2.work }) kept
          ∙ ap (λ (l : Option Kept_value). record m { work = m2.work; left = l }) (sym lefts);
      below = below ∙ ap (λ (w : Stacked). w.below) worked;
      left = λ h is. lefts ∙ left h is;
      now = λ h is k mg.
          now mg (integer_of (value_in k h)) ∙ ap (λ (c : Bool). after mg c (integer_of (value_in k h)) how (todo_of mg m1.work.now)) (tests h (same ∙ is) k)
          ∙ ap (λ (w : Stacked). after mg (truth (value_in k h)) (integer_of (value_in k h)) how (todo_of mg w.now)) worked;
    }

pub used_ok : {A E : Type 0} (r : Result A E) (m m1 : Machine) (w : Stacked) (how : Use) (o : Operand) (b : Bool) → m1 ≡ with_left m m1.left →
    ((h : Kept_value) → operand_in m o ≡ Some h → m1.left ≡ left_by how h m.left) →
    ((h : Kept_value) → operand_in m1 o ≡ Some h → (k : Kept) → b ≡ truth (value_in k h)) → OnOk r (w.below ≡ m1.work.below) →
    OnOk r ((k : Meaning) (z : ℤ) → todo_of k w.now ≡ after k b z how (todo_of k m1.work.now)) → OnOk r (HasUsed m how o (record m1 { work = w }))
used_ok (Ok x) m m1 w how o b kept left tests below now = used_so m m1 (record m1 { work = w }) how o b kept left tests refl below now
used_ok (Err e) m m1 w how o b kept left tests below now = tt
