-- The outermost frame stays that of `main`, and how a run ends.
use Rattle.std.proofs.Common.{◌≡◌, ◌⊎◌, inl, inr, ℕ, Bool, true, false, ◌&&◌, if◌then◌else◌, List, [], ◌∷◌, Option, Some, None, is_none, refl, sym, ap, subst}
use Rattle.std.proofs.Common.{◌∙◌}
use Rattle.ub_base.specs.declared.clause.Cause.{Cause}
use Rattle.c_typed.specs.declared.tree.Place.{Place}
use Rattle.c_typed.specs.Order.{is_body}
use Rattle.mem_spec.specs.Script.{Act, Done, Raised, Ended, Outside, Unplaced, run}
use Rattle.mem_spec.specs.Store.{Store}
use Rattle.mem_spec.specs.Streams.{Outputs}
use Rattle.c_model.specs.Control.{Todo, Enter, Leave, Begin, Go_to, Go_out, Go_on, Go_back, ready_work}
use Rattle.c_model.specs.Moves.{Move, Stay, Start, End}
use Rattle.c_model.specs.Program.{Head, Call, Isolated, Expr, expr, Function, Stmt}
use Rattle.c_model.specs.Runs.{Entry, State, Outcome, Refused, Raises, Over, No_row, Ends, Running, acted, back, entry_of, limited, main_frame, moved}
use Rattle.c_model.specs.Runs.{started_run, within}
use Rattle.c_model.specs.Steps.{Begun, Control, Ev, Local, Pick, Scene, at_node, body_frame, called_by, control_next, does, ends_with, move, move_of, next}
use Rattle.c_model.specs.Steps.{own_body, start_call, started}
use Rattle.c_model.specs.Values.{Value, later_values}
use Rattle.c_model.specs.World.{Limits, World}
use Rattle.ending_laws.specs.Main.{IsEnding, IsOfMain, PicksStayOfMain, RunsEnd, StartsWithMain, outermost}
use Rattle.ending_laws.proofs.Going.{only_bodies_end}

-- ---- what a pick came to
abbrev state_in : Outcome → State → State
state_in (Running st) other = st
state_in o other = other

same_state : (a b : State) → Running a ≡ Running b → a ≡ b
same_state a b q = ap (λ o. state_in o a) q

abbrev trace_in : Outcome → List Entry
trace_in (Ends n out trace) = trace
trace_in o = []

through_within : (x : Option (Cause × ℕ)) (o : Outcome) (st : State) → within x o ≡ Running st → o ≡ Running st
through_within None o st q = q
through_within (Some c) o st q = absurd (cc (q))

through_limited : (limits : Limits) (o : Outcome) (st : State) → limited limits o ≡ Running st → o ≡ Running st
through_limited limits Refused st q = q
through_limited limits (Raises c trace) st q = q
through_limited limits (Over c n) st q = q
through_limited limits No_row st q = q
through_limited limits (Ends n out trace) st q = q
through_limited limits (Running s) st q = through_within _ (Running s) st q

ends_within : (x : Option (Cause × ℕ)) (o : Outcome) (n : ℕ) (out : Outputs) (trace : List Entry) → within x o ≡ Ends n out trace → o ≡ Ends n out trace
ends_within None o n out trace q = q
ends_within (Some c) o n out trace q = absurd (cc (q))

ends_limited : (limits : Limits) (o : Outcome) (n : ℕ) (out : Outputs) (trace : List Entry) → limited limits o ≡ Ends n out trace → o ≡ Ends n out trace
ends_limited limits Refused n out trace q = q
ends_limited limits (Raises c t) n out trace q = q
ends_limited limits (Over c k) n out trace q = q
ends_limited limits No_row n out trace q = q
ends_limited limits (Ends k o t) n out trace q = q
ends_limited limits (Running s) n out trace q = absurd (let z = ends_within _ (Running s) n out trace q in cc (z))

module _ (world : World) where
  -- ---- the function of a frame stays
  control_function : (f : Local) (ws : Todo) → (control_next world f ws).function ≡ f.function
  control_function f [] = refl
  control_function f (Enter b ds ∷ ws) = refl
  control_function f (Leave b ds ∷ ws) = refl
  control_function f (Begin e what ∷ ws) = refl
  control_function f (Go_to k ∷ ws) = refl
  control_function f (Go_out ∷ ws) = refl
  control_function f (Go_on ∷ ws) = refl
  control_function f (Go_back ∷ ws) = refl
  control_function f (w ∷ ws) = refl

  next_function : (f : Local) (o : Option Begun) (p : Pick) (v : Value) → (next world f o p v).function ≡ f.function
  next_function f None Control v = control_function f (ready_work f.todo)
  next_function f None (Ev u) v = refl
  next_function f (Some e) Control v = refl
  next_function f (Some e) (Ev u) v = refl

  outer_function : (f g : Local) (hs : List (Local × Place)) → g.function ≡ f.function → (outermost g hs).function ≡ (outermost f hs).function
  outer_function f g [] q = q
  outer_function f g (h ∷ hs) q = refl

  back_stays : (hs : List (Local × Place)) (v : Value) (s : Store) (trace : List Entry) (after : State) (f : Local) → back world hs v s trace ≡ Running after →
      (outermost after.top after.held).function ≡ (outermost f hs).function
  back_stays [] v s trace after f q = absurd (cc (q))
  back_stays (h ∷ hs) v s trace after f q =
      subst (λ (z : State). (outermost z.top z.held).function ≡ (outermost h.0 hs).function) (same_state _ after q)
      (outer_function h.0 (next world h.0 h.0.begun (Ev h.1) v) hs (next_function h.0 h.0.begun (Ev h.1) v))

  module _ (st : State) where
    stay_stays : (p : Pick) (v : Value) → (outermost (next world st.top st.top.begun p v) st.held).function ≡ (outermost st.top st.held).function
    stay_stays p v = outer_function st.top (next world st.top st.top.begun p v) st.held (next_function st.top st.top.begun p v)

    moved_stays : (p : Pick) (m : Move Local) (v : Value) (s : Store) (trace : List Entry) (after : State) → moved world st p m v s trace ≡ Running after →
        (outermost after.top after.held).function ≡ (outermost st.top st.held).function
    moved_stays Control Stay v s trace after q =
        subst (λ (z : State). (outermost z.top z.held).function ≡ (outermost st.top st.held).function) (same_state _ after q) (stay_stays Control v)
    moved_stays (Ev u) Stay v s trace after q =
        subst (λ (z : State). (outermost z.top z.held).function ≡ (outermost st.top st.held).function) (same_state _ after q) (stay_stays (Ev u) v)
    moved_stays Control (Start g) v s trace after q = absurd (cc (q))
    moved_stays (Ev u) (Start g) v s trace after q =
        subst (λ (z : State). (outermost z.top z.held).function ≡ (outermost st.top st.held).function) (same_state _ after q) refl
    moved_stays Control End v s trace after q = back_stays st.held v s trace after st.top q
    moved_stays (Ev u) End v s trace after q = back_stays st.held v s trace after st.top q

    acted_stays : (p : Pick) (act : Act Value) (after : State) → acted world st p act ≡ Running after →
        (outermost after.top after.held).function ≡ (outermost st.top st.held).function
    acted_stays p (Done v is s) after q =
        moved_stays p (move world st.top st.top.begun p) v s (entry_of world st.top p is ∷ st.trace) after (through_limited world.limits _ after q)
    acted_stays p (Raised c) after q = absurd (cc (q))
    acted_stays p (Ended n is s) after q = absurd (cc (q))
    acted_stays p (Outside c n) after q = absurd (cc (q))
    acted_stays p Unplaced after q = absurd (let z = through_within _ No_row after q in cc (z))

  -- ---- an event ends no frame
  abbrev NoEnd : Move Local → Type 0
  NoEnd End = ⊥
  NoEnd m = Unit {0}

  body_goes : (f : Scene) (k n : ℕ) (vs : List Value) (b : Option Stmt) → NoEnd (body_frame world f k n vs b)
  body_goes f k n vs None = tt
  body_goes f k n vs (Some s) = tt

  call_goes : (f : Scene) (k : ℕ) (vs : List Value) (c : Option (ℕ × Function)) → NoEnd (start_call world f k vs c)
  call_goes f k vs None = tt
  call_goes f k vs (Some c) = body_goes f k c.0 vs (own_body c.1)

  start_goes : (f : Scene) (k : ℕ) (h : Head) (vs : List Value) → NoEnd (started world f k h vs)
  start_goes f k (Call d) vs = call_goes f k (later_values vs) (called_by world vs)
  start_goes f k (Isolated e) vs = tt
  start_goes f k _ vs = tt

  if_goes : (b : Bool) (m : Move Local) → NoEnd m → NoEnd (if b then m else Stay)
  if_goes true m k = k
  if_goes false m k = tt

  node_goes : (f : Scene) (e : Begun) (u : Place) (o : Option Expr) → NoEnd (move_of world f e u o)
  node_goes f e u None = tt
  node_goes f e u (Some (expr h ty line es)) = if_goes (is_body u.kind) _ (start_goes f u.node h _)

  move_goes : (f : Local) (o : Option Begun) (u : Place) → NoEnd (move world f o (Ev u))
  move_goes f None u = tt
  move_goes f (Some e) u = node_goes f.scene e u (at_node 0 e.root u.node)

  -- ---- nor does a function's frame as a full expression settles
  settle_stays : (f : Local) (e : Begun) (n : ℕ) → f.function ≡ Some n → move world f (Some e) Control ≡ End → ⊥
  settle_stays f e n q h =
      let z : (if is_none (Some n) && ends_with world (ready_work f.todo) then End else Stay) ≡ End =
      ap (λ o. if is_none o && ends_with world (ready_work f.todo) then End else Stay) (sym q) ∙ h in
      cc (z)

  module _ (st : State) (of : IsOfMain world st) where
    abbrev Result : Pick → List Entry → Type 0
    Result p later = ((st.held ≡ []) × (st.top.begun ≡ None)) ⊎ IsEnding world st p later

    no_begun : (f : Local) (o : Option Begun) → f.function ≡ Some world.program.main → move world f o Control ≡ End → o ≡ None
    no_begun f None q h = refl
    no_begun f (Some e) q h = absurd (settle_stays f e world.program.main q h)

    back_ends : (hs : List (Local × Place)) (v : Value) (s : Store) (trace : List Entry) (n : ℕ) (out : Outputs) (later : List Entry) →
        back world hs v s trace ≡ Ends n out later → hs ≡ []
    back_ends [] v s trace n out later q = refl
    back_ends (h ∷ hs) v s trace n out later q = absurd (cc (q))

    moved_ends : (p : Pick) (m : Move Local) (v : Value) (s : Store) (trace : List Entry) (n : ℕ) (out : Outputs) (later : List Entry) →
        move world st.top st.top.begun p ≡ m → moved world st p m v s trace ≡ Ends n out later → (st.held ≡ []) × (st.top.begun ≡ None)
    moved_ends Control Stay v s trace n out later is q = absurd (cc (q))
    moved_ends (Ev u) Stay v s trace n out later is q = absurd (cc (q))
    moved_ends Control (Start g) v s trace n out later is q = absurd (cc (q))
    moved_ends (Ev u) (Start g) v s trace n out later is q = absurd (cc (q))
    moved_ends Control End v s trace n out later is q =
        let held = back_ends st.held v s trace n out later q in
        (held, no_begun st.top st.top.begun (subst (λ z. (outermost st.top z).function ≡ Some world.program.main) held of) is)
    moved_ends (Ev u) End v s trace n out later is q = absurd (subst NoEnd is (move_goes st.top st.top.begun u))

    acted_ends : (p : Pick) (act : Act Value) (n : ℕ) (out : Outputs) (later : List Entry) →
        run world.rows (does world st.top st.top.begun p) st.store ≡ act → acted world st p act ≡ Ends n out later → Result p later
    acted_ends p (Done v is s) n out later ran q =
        inl (moved_ends p (move world st.top st.top.begun p) v s (entry_of world st.top p is ∷ st.trace) n out later refl
        (ends_limited world.limits _ n out later q))
    acted_ends p (Raised c) n out later ran q = absurd (cc (q))
    acted_ends p (Ended k is s) n out later ran q =
        let b = only_bodies_end world st.top st.top.begun p st.store k is s ran in
        inr (record {
          body = b.0;
          is = b.1;
          kind = b.2;
          status = k;
          items = is;
          store = s;
          ran = ran;
          newest = sym (ap trace_in q);
        })
    acted_ends p (Outside c k) n out later ran q = absurd (cc (q))
    acted_ends p Unplaced n out later ran q = absurd (let z = ends_within _ No_row n out later q in cc (z))

pub picks_stay_of_main : PicksStayOfMain
picks_stay_of_main world st after p of q = acted_stays world st p _ after (through_within _ _ after q) ∙ of

pub runs_end : RunsEnd
runs_end world st p n out later of q = acted_ends world st of p _ n out later refl (ends_within _ _ n out later q)

started_main : (world : World) (vs : List Value) (act : Act Value) (st : State) → started_run world act vs ≡ Running st → IsOfMain world st
started_main world vs (Done v is s) st q =
    let first : State = record { top = main_frame world vs; held = []; store = s; trace = [] } in
    subst (IsOfMain world) (same_state first st (through_limited world.limits _ st q)) refl
started_main world vs (Raised c) st q = absurd (cc (q))
started_main world vs (Ended n is s) st q = absurd (cc (q))
started_main world vs (Outside c n) st q = absurd (cc (q))
started_main world vs Unplaced st q = absurd (cc (q))

pub starts_with_main : StartsWithMain
starts_with_main world input vs st q = started_main world vs _ st (through_within _ _ st q)
