-- Control steps after which the frame goes on, and what the machine then stands for.
use Rattle.std.proofs.Common.{◌≡◌, ℕ, Bool, true, false, refl, sym, ap, ◌∙◌, subst, List, [], ◌∷◌, length, reverse, Option, Some, None}
use Rattle.std.specs.Borrow.{Bor}
use Rattle.std.specs.Prelude.{is_some, if◌then◌else◌, Result, Ok, Err, IfOk}
use Rattle.ub_base.specs.declared.names.Item.{Item}
use Rattle.mem_spec.specs.Store.{Store}
use Rattle.mem_spec.specs.Script.{Done, run}
use Rattle.c_model.specs.Control.{Todo, Use as Model_use, Work, Enter, ready_work, out_of, on_with, leaves}
use Rattle.c_model.specs.Moves.{Move, End, Stay}
use Rattle.c_model.specs.Steps.{Pick as Model_pick, Begun, Local, Control, control_act, control_move, control_next, does, move, next}
use Rattle.c_model.specs.Steps.{root_value, settled}
use Rattle.c_model.specs.Values.{Value, Nothing}
use Rattle.c_model.specs.World.{World}
use Rattle.c_model.specs.Runs.{
  Outcome,
  Running,
  State,
  acted,
  back,
  block_passes,
  chosen_pick,
  depth_of,
  enter_passes,
  entry_of,
  limit_passed,
  limited,
  moved,
  step,
  within,
}
use Rattle.run_control.specs.declared.work.Work.{Work as Kept_work}
use Rattle.run_control.specs.declared.moves.Move.{Move as Kept_move}
use Rattle.run_control.specs.declared.moves.Move.TheVariants.{Out, On, Back}
use Rattle.run_control.specs.Moves.{moved as moved_by}
use Rattle.run_control.specs.declared.work.Step.{Step}
use Rattle.run_control.specs.declared.work.Step.TheVariants as taking
use Rattle.run_control.specs.View.{Meaning, readied, step_of, todo_of}
use Rattle.run_layout.specs.declared.steps.Due.{Due}
use Rattle.run_listing.specs.Along.{place_of}
use Rattle.run_state.specs.declared.halt.Halt.{Halt}
use Rattle.run_state.specs.declared.halt.Halt.TheVariants as halt
use Rattle.run_state.specs.declared.machine.Machine.{Machine}
use Rattle.run_state.specs.declared.machine.Stage.{Stage}
use Rattle.run_state.specs.declared.watch.Begun.{Begun as Shown}
use Rattle.run_state.specs.Stands.{Stands}
use Rattle.run_answers.specs.declared.pick.Pick.{Pick}
use Rattle.run_answers.specs.declared.pick.Pick.TheVariants as pick
use Rattle.run_answers.specs.Answering.{
  Answers,
  AnswersCanonical,
  AnswersControl,
  AnswersStep,
  CanGoOn,
  CanTake,
  HasTaken,
  MayGoOn,
  TakesControl,
  as_before,
  step_of_move,
}
use Rattle.run_answers.specs.Ending.{CanEnd, is_last}
use Rattle.run_answers.specs.Entering.{CanEnterFirst}
use Rattle.run_answers.specs.Picks.{ByWay, Follows, FollowsCanonical, FollowsIn, IsPick, IsStep, top_of}
use Rattle.run_answers.specs.Settling.{GoesBehind}
use Rattle.run_answers.proofs.Finished.{control_first, no_event}
use Rattle.run_answers.proofs.Opened.{none_open}
use Rattle.run_answers.proofs.Still.{depth_same, items_stand, left_stands}

-- ---- the definitions: no full expression is open, this work comes next, and the frame stays
module _ (world : World) (st : State) (w : Work) (rest : Todo) where
  passes_none : st.top.begun ≡ None → ready_work st.top.todo ≡ w ∷ rest → block_passes world.limits st.store (w ∷ rest) ≡ None →
      enter_passes world.limits st Control ≡ None
  passes_none closed ready none =
      ap (λ (b : Option Begun). if is_some b then None else block_passes world.limits st.store (ready_work st.top.todo)) closed
      ∙ ap (λ (t : Todo). block_passes world.limits st.store t) ready ∙ none

  does_so : st.top.begun ≡ None → ready_work st.top.todo ≡ w ∷ rest →
      does world st.top st.top.begun Control ≡ control_act world st.top (w ∷ rest)
  does_so closed ready = ap (λ (b : Option Begun). does world st.top b Control) closed ∙ ap (control_act world st.top) ready

  moves_so : st.top.begun ≡ None → ready_work st.top.todo ≡ w ∷ rest → move world st.top st.top.begun Control ≡ control_move world (w ∷ rest)
  moves_so closed ready = ap (λ (b : Option Begun). move world st.top b Control) closed ∙ ap (control_move world) ready

  next_so : (v : Value) → st.top.begun ≡ None → ready_work st.top.todo ≡ w ∷ rest →
      next world st.top st.top.begun Control v ≡ control_next world st.top (w ∷ rest)
  next_so v closed ready = ap (λ (b : Option Begun). next world st.top b Control v) closed ∙ ap (control_next world st.top) ready

  abbrev pub after_step : List Item → Store → State
  after_step is s = record {
    top = control_next world st.top (w ∷ rest);
    held = st.held;
    store = s;
    trace = entry_of world st.top Control is ∷ st.trace;
  }

  moved_so : (v : Value) (is : List Item) (s : Store) → st.top.begun ≡ None → ready_work st.top.todo ≡ w ∷ rest → control_move world (w ∷ rest) ≡ Stay →
      moved world st Control (move world st.top st.top.begun Control) v s (entry_of world st.top Control is ∷ st.trace) ≡ Running (after_step is s)
  moved_so v is s closed ready stays =
      ap (λ (k : Move Local). moved world st Control k v s (entry_of world st.top Control is ∷ st.trace)) (moves_so closed ready ∙ stays)
      ∙ ap (λ (f : Local). Running (record { top = f; held = st.held; store = s; trace = entry_of world st.top Control is ∷ st.trace }))
      (next_so v closed ready)

  pub control_stays : (v : Value) (is : List Item) (s : Store) → st.top.begun ≡ None → ready_work st.top.todo ≡ w ∷ rest →
      block_passes world.limits st.store (w ∷ rest) ≡ None → run world.rows (control_act world st.top (w ∷ rest)) st.store ≡ Done v is s →
      control_move world (w ∷ rest) ≡ Stay →
      limit_passed world.limits (depth_of (control_next world st.top (w ∷ rest)) st.held) s ≡ None →
      step world st Control ≡ Running (after_step is s)
  control_stays v is s closed ready passes runs stays limits =
      ap (λ (l : Option _). within l (acted world st Control (run world.rows (does world st.top st.top.begun Control) st.store)))
      (passes_none closed ready passes)
      ∙ ap (acted world st Control) (ap (λ (k : _). run world.rows k st.store) (does_so closed ready) ∙ runs)
      ∙ ap (limited world.limits) (moved_so v is s closed ready stays)
      ∙ ap (λ (l : Option _). within l (Running (after_step is s))) limits

  -- .. and the frame ends
  pub control_ends : (v : Value) (is : List Item) (s : Store) → st.top.begun ≡ None → ready_work st.top.todo ≡ w ∷ rest →
      block_passes world.limits st.store (w ∷ rest) ≡ None → run world.rows (control_act world st.top (w ∷ rest)) st.store ≡ Done v is s →
      control_move world (w ∷ rest) ≡ End →
      step world st Control ≡ limited world.limits (back world st.held v s (entry_of world st.top Control is ∷ st.trace))
  control_ends v is s closed ready passes runs ends =
      ap (λ (l : Option _). within l (acted world st Control (run world.rows (does world st.top st.top.begun Control) st.store)))
      (passes_none closed ready passes)
      ∙ ap (acted world st Control) (ap (λ (k : _). run world.rows k st.store) (does_so closed ready) ∙ runs)
      ∙ ap (λ (k : Move Local). limited world.limits (moved world st Control k v s (entry_of world st.top Control is ∷ st.trace)))
      (moves_so closed ready ∙ ends)

-- ---- the machine
-- a step that changes nothing but what is left to do
pub left_answers : (s : Step) (world : World) (meaning : Option ℕ → Meaning) (m : Machine) (ws : List Kept_work) (st : State) (todo : Todo) →
    HasTaken world meaning s m st → todo_of (meaning m.top.function) ws ≡ todo →
    control_next world st.top (step_of (meaning m.top.function) s ∷ todo_of (meaning m.top.function) m.work.now) ≡ record st.top { todo = todo } →
    block_passes world.limits st.store (step_of (meaning m.top.function) s ∷ todo_of (meaning m.top.function) m.work.now) ≡ None →
    run world.rows (control_act world st.top (step_of (meaning m.top.function) s ∷ todo_of (meaning m.top.function) m.work.now)) st.store
    ≡ Done Nothing [] st.store →
    control_move world (step_of (meaning m.top.function) s ∷ todo_of (meaning m.top.function) m.work.now) ≡ Stay →
    Answers world meaning (Ok None) (record m { work = record m.work { now = ws } }) (step world st Control)
left_answers s world meaning m ws st todo h now leaves passes runs stays =
    let mg = meaning m.top.function in
    let w = step_of mg s in
    let rest = todo_of mg m.work.now in
    let ready = sym (h.next ∙ h.stands.frames.0.control.ready) in
    let trace = entry_of world st.top Control [] ∷ st.trace in
    let after : State = record { top = record st.top { todo = todo }; held = st.held; store = st.store; trace = trace } in
    λ rows. (
      after,
      control_stays world st w rest Nothing [] st.store h.closed ready passes runs stays
          (ap (λ (f : Local). limit_passed world.limits (depth_of f st.held) st.store) leaves
          ∙ ap (λ (d : ℕ). limit_passed world.limits d st.store) (depth_same st.top (record st.top { todo = todo }) st.held refl) ∙ h.within)
          ∙ ap (λ (f : Local). Running (record { top = f; held = st.held; store = st.store; trace = trace })) leaves,
      sym h.items,
      left_stands world meaning (as_before m h.before) ws m.items m.spare st todo trace (record { ready = ap ready_work now; behind = λ b. now }) h.stands,
    )

-- ---- moves
module _ (world : World) (meaning : Option ℕ → Meaning) (m : Machine) (ws : List Kept_work) (st : State) where
  move_answers : (how : Kept_move) → ((k : Meaning) → todo_of k ws ≡ moved_by how (todo_of k m.work.now)) →
      HasTaken world meaning (step_of_move how) m st →
      Answers world meaning (Ok None) (record m { work = record m.work { now = ws } }) (step world st Control)
  move_answers Out now h = left_answers (step_of_move Out) world meaning m ws st (out_of (todo_of (meaning m.top.function) m.work.now)) h
      (now (meaning m.top.function)) refl refl refl refl
  move_answers On now h = left_answers (step_of_move On) world meaning m ws st (on_with (todo_of (meaning m.top.function) m.work.now)) h
      (now (meaning m.top.function)) refl refl refl refl
  move_answers Back now h = left_answers (step_of_move Back) world meaning m ws st (leaves (todo_of (meaning m.top.function) m.work.now)) h
      (now (meaning m.top.function)) refl refl refl refl

-- with this work the frames below as they were
abbrev pub with_work : Machine → List (List Kept_work) → List Kept_work → Machine
with_work m below now = record m { work = record { below = below; now = now } }

pub go_answers : (how : Kept_move) (m : Machine) (below : List (List Kept_work)) (ws : List Kept_work) → below ≡ m.work.below →
    ((k : Meaning) → todo_of k ws ≡ moved_by how (todo_of k m.work.now)) → AnswersStep (step_of_move how) m (with_work m below ws) (Ok None)
go_answers how m below ws same now = λ world meaning st h.
    subst (λ (bs : List (List Kept_work)). Answers world meaning (Ok None) (with_work m bs ws) (step world st Control)) (sym same)
    (move_answers world meaning m ws st how now h)

-- nothing is done
pub nothing_answers : (m : Machine) → AnswersStep taking.Nothing m m (Ok None)
nothing_answers m = λ world meaning st h.
    left_answers taking.Nothing world meaning m m.work.now st (todo_of (meaning m.top.function) m.work.now) h refl refl refl refl refl

-- ---- want of memory
pub no_memory : (world : World) (meaning : Option ℕ → Meaning) (n : Machine) (o : Outcome) (e : Halt) → e ≡ halt.NoMemory →
    Answers world meaning (Err e) n o
no_memory world meaning n o e is = subst (λ (h : Halt). Answers world meaning (Err h) n o) (sym is) tt

-- ---- by the step that was taken
pub by_step : (s t : Step) (m n : Machine) (r : Result (Option ℕ) Halt) → s ≡ t → AnswersStep t m n r → AnswersStep s m n r
by_step s t m n r is a = subst (λ (x : Step). AnswersStep x m n r) (sym is) a

-- ---- the next step, taken off
-- the machine before it is the one that stood
before_stands : (world : World) (meaning : Option ℕ → Meaning) (m : Machine) (below : List (List Kept_work)) (now : List Kept_work) (st : State) →
    below ≡ m.work.below → Stands world meaning m st → Stands world meaning (as_before (with_work m below now) m.work.now) st
before_stands world meaning m below now st same s =
    subst (λ (bs : List (List Kept_work)). Stands world meaning (with_work m bs m.work.now) st) (sym same) s

ends_as : (m : Machine) (below : List (List Kept_work)) (now : List Kept_work) (st : State) → CanEnd m st → CanEnd (with_work m below now) st
ends_as m below now st c = record { function = c.function; rooms = c.rooms; room = c.room }

enters_as : (world : World) (m : Machine) (below : List (List Kept_work)) (now : List Kept_work) (st : State) (t : Todo) →
    CanEnterFirst world m st t → CanEnterFirst world (with_work m below now) st t
enters_as world m below now st [] c = tt
enters_as world m below now st (Enter b ds ∷ rest) c = record {
  function = c.function;
  limit = c.limit;
  turn = c.turn;
  number = c.number;
  block = c.block;
  below = c.below;
  rooms = c.rooms;
  rows = c.rows;
  takes = c.takes;
}
enters_as world m below now st (w ∷ rest) c = tt

enters_cleared : (world : World) (m : Machine) (is : List Item) (st : State) (t : Todo) → CanEnterFirst world m st t →
    CanEnterFirst world (record m { items = is }) st t
enters_cleared world m is st [] c = tt
enters_cleared world m is st (Enter b ds ∷ rest) c = record {
  function = c.function;
  limit = c.limit;
  turn = c.turn;
  number = c.number;
  block = c.block;
  below = c.below;
  rooms = c.rooms;
  rows = c.rows;
  takes = c.takes;
}
enters_cleared world m is st (w ∷ rest) c = tt

-- of the machine that has taken it off
pub has_taken : (o : Option Step) (s : Step) (m : Machine) (below : List (List Kept_work)) (now : List Kept_work) → m.top.stage ≡ None → o ≡ Some s →
    below ≡ m.work.below → ((k : Meaning) → readied k o (todo_of k now) ≡ ready_work (todo_of k m.work.now)) → (world : World)
    (meaning : Option ℕ → Meaning) (st : State) → Stands world meaning m st → MayGoOn world m st → m.items ≡ [] →
    HasTaken world meaning s (with_work m below now) st
has_taken o s m below now none is same ready world meaning st stands goes items =
    let mg = meaning m.top.function in
    let next = ap (λ (p : Option Step). readied mg p (todo_of mg now)) (sym is) ∙ ready mg in
    let closed = none_open world mg m (length (reverse m.below.items)) m.top m.top.stage st.top.scene st.top.begun stands.frames.0.begun none in
    let can = subst (λ (b : Option Begun). CanGoOn world m st b) closed goes.can in
    record {
      before = m.work.now;
      stands = before_stands world meaning m below now st same stands;
      next = next;
      within = goes.within;
      closed = closed;
      can = subst (λ (t : Todo). CanTake world m.image.code.now m.jumps m.top st t) (sym (next ∙ stands.frames.0.control.ready)) can.takes;
      items = items;
      enters = enters_as world m below now st (step_of mg s ∷ todo_of mg now)
          (subst (λ (t : Todo). CanEnterFirst world m st t) (sym (next ∙ stands.frames.0.control.ready)) can.enters);
      ends = λ e. ends_as m below now st (can.ends (sym (ap is_last (next ∙ stands.frames.0.control.ready)) ∙ e));
    }

pub control_answers : (r : Result (Option ℕ) Halt) (o : Option Step) (s : Step) (m : Machine) (below : List (List Kept_work)) (now : List Kept_work)
    (n : Machine) → m.top.stage ≡ None → o ≡ Some s → below ≡ m.work.below →
    ((k : Meaning) → readied k o (todo_of k now) ≡ ready_work (todo_of k m.work.now)) → AnswersStep s (with_work m below now) n r → AnswersControl m n r
control_answers r o s m below now n none is same ready does = λ world meaning st stands goes items.
    does world meaning st (has_taken o s m below now none is same ready world meaning st stands goes items)

pub not_both : {A : Type 0} (o : Option A) (x : A) → o ≡ None → o ≡ Some x → ⊥
not_both None x none some = cc
not_both (Some y) x none some = cc

-- ---- of a pick
-- nothing changes where no event is followed
way_still : (straight : Bool) (m : Machine) (s : Stage) (b : Shown) (n : Machine) (due : Option (Bor Due)) → ByWay straight m s b n due → due ≡ None → n ≡ m
way_still true m s b n None w is = w.1
way_still true m s b n (Some due) w is = absurd (cc)
way_still false m s b n due w is = w.1

pub followed : (m : Machine) (stage : Option Stage) (b : Option Shown) (n : Machine) (due : Option (Bor Due)) → FollowsIn m stage b n due → due ≡ None → n ≡ m
followed m None b n due f is = f.1
followed m (Some s) None n due f is = absurd f
followed m (Some s) (Some b) n due f is = way_still s.straight m s b n due f is

-- where the control step may be picked, no event is
pub event_untold : FollowsCanonical → (m n k : Machine) (next : Option (Bor Due)) (due : Bor Due) (r : Result Pick Halt) → Follows m n next →
    next ≡ Some due → AnswersCanonical m k r
event_untold follows m n k next due r f is = λ world meaning st stands goes.
    let picks = follows m n next f world meaning st stands in
    let event = ap (λ (o : Option (Bor Due)). chosen_pick world (place_of o)) (sym is) in
    absurd (no_event due.now.place (event ∙ picks ∙ control_first world st.top st.top.begun goes.control))

-- a control step is taken by the machine that has touched nothing
pub cleared_stands : (world : World) (meaning : Option ℕ → Meaning) (m n : Machine) (is : List Item) (st : State) → n ≡ m → Stands world meaning m st →
    Stands world meaning (record n { items = is }) st
cleared_stands world meaning m n is st same s =
    subst (λ (k : Machine). Stands world meaning (record k { items = is }) st) (sym same) (items_stand world meaning m is m.spare st s)

ends_cleared : (m : Machine) (is : List Item) (st : State) → CanEnd m st → CanEnd (record m { items = is }) st
ends_cleared m is st c = record { function = c.function; rooms = c.rooms; room = c.room }

behind_cleared : (n : Option ℕ) (m : Machine) (is : List Item) (st : State) (what : Model_use) (t : Todo) → GoesBehind n m st what t →
    GoesBehind n (record m { items = is }) st what t
behind_cleared (Some n) m is st what t goes = goes
behind_cleared None m is st what t goes = (goes.0, λ e. ends_cleared m is st (goes.1 e))

can_cleared : (world : World) (m : Machine) (is : List Item) (st : State) (b : Option Begun) → CanGoOn world m st b →
    CanGoOn world (record m { items = is }) st b
can_cleared world m is st None can = record {
  takes = can.takes;
  enters = enters_cleared world m is st (ready_work st.top.todo) can.enters;
  ends = λ e. ends_cleared m is st (can.ends e);
}
can_cleared world m is st (Some e) can = record {
  behind = behind_cleared m.top.function m is st e.what (settled world st.top (root_value world st.top e) e.what).todo can.behind;
  chooses = can.chooses;
  addresses = can.addresses;
  usable = λ stage laid here at. let u = can.usable stage laid here at in record { firsts = u.firsts; value = u.value; named = u.named };
}

pub cleared_goes : (world : World) (m n : Machine) (is : List Item) (st : State) → n ≡ m → MayGoOn world m st → MayGoOn world (record n { items = is }) st
cleared_goes world m n is st same goes =
    subst (λ (k : Machine). MayGoOn world (record k { items = is }) st) (sym same)
    (record { within = goes.within; control = goes.control; can = can_cleared world m is st st.top.begun goes.can })

pub step_told : (m n k : Machine) (next : Option (Bor Due)) (is : List Item) (r : Result Pick Halt) → Follows m n next → next ≡ None → is ≡ [] →
    TakesControl (record n { items = is }) k r → AnswersCanonical m k r
step_told m n k next is r f none empty does = λ world meaning st stands goes.
    let same = followed m m.top.stage (top_of m) n next f none in
    does world meaning st (cleared_stands world meaning m n is st same stands) (cleared_goes world m n is st same goes) empty

pub status_told : (m n : Machine) (status : Option ℕ) → AnswersControl m n (Ok status) → TakesControl m n (Ok (pick.Step status))
status_told m n status a = λ world meaning st stands goes items. a world meaning st stands goes items

pub halt_told : (m n : Machine) (e : Halt) → AnswersControl m n (Err e) → TakesControl m n (Err e)
halt_told m n e a = λ world meaning st stands goes items. a world meaning st stands goes items

-- the control step is this pick of the definitions
pub steps_taken : {E : Type 0} (r : Result Pick E) (world : World) (st : State) (p : Model_pick) → Control ≡ p → IfOk r IsStep →
    IfOk r (IsPick world st p)
steps_taken (Ok x) world st p is a = subst (λ (q : Model_pick). IsPick world st q x) is a
steps_taken (Err e) world st p is a = tt
