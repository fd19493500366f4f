-- Every state of an order keeps that the frames fit.
use Rattle.std.proofs.Common.{◌≡◌, ℕ, ◌&&◌, if◌then◌else◌, List, [], ◌∷◌, map, Option, Some, None}
use Rattle.std.proofs.Common.{refl, sym, ◌∙◌, subst}
use Rattle.std.specs.Prelude.{is_none, slice_get}
use Rattle.ub_base.specs.declared.clause.Cause.{Cause}
use Rattle.c_typed.specs.declared.tree.Place.{Place}
use Rattle.mem_spec.specs.Store.{Store}
use Rattle.mem_spec.specs.Script.{Act, Done, Raised, Ended, Outside, Unplaced, run}
use Rattle.c_model.specs.Program.{Expr, Stmt, Function}
use Rattle.c_model.specs.Values.{Value, Nothing}
use Rattle.c_model.specs.World.{World, Limits}
use Rattle.c_model.specs.Moves.{Move, Stay, Start, End}
use Rattle.c_model.specs.Control.{ready_work}
use Rattle.c_model.specs.Steps.{Local, Begun, Pick, Control, Ev, at_node, event_act, body_of, control_act, control_move}
use Rattle.c_model.specs.Steps.{does, move, next, ends_with}
use Rattle.c_model.specs.Runs.{Entry, State, Outcome, Refused, Raises, Over, No_row, Ends, Running, entry_of, back, moved, acted, step, within, limited}
use Rattle.c_model.specs.Runs.{limit_passed, depth_of, enter_passes, without_row, After, here, refused, last, more, too_late}
use Rattle.c_model.specs.Runs.{start, started_run, stand, nothing_stands, main_frame, too_many, created_after, work_of}
use Rattle.c_model.specs.Claims.{ComesTo, starts as from_start, stops as from_stop, refuses as from_refused}
use Rattle.value_laws.specs.Sizes.{Sizes, HasSize, type_of, result_size, StatementFits, ProgramFits}
use Rattle.value_laws.proofs.Scripts.{Gave, run_gave}
use Rattle.value_laws.proofs.Acts.{keeps_size}
use Rattle.value_laws.proofs.Work.{TodoFits, ready_fits}
use Rattle.value_laws.proofs.Frames.{body_there, FrameFits, HeldFit, lowest, waits}
use Rattle.value_laws.proofs.Picks.{frame_given, result_fits, control_gives, control_fits, settled_fits, EventMove, stays, starts, EventIs, event_gives}
use Rattle.value_laws.proofs.Picks.{event_moves}
use Rattle.value_laws.proofs.Picks.{event_value}

module _ (size : Sizes) (world : World) where
  -- what a state keeps
  pub record StateFits (st : State) : Type 0 where
    pub result : Option ℕ
    pub top : FrameFits size world result st.top
    pub held : HeldFit size world result st.held

  abbrev pub OutcomeFits : Outcome → Type 0
  OutcomeFits (Running st) = StateFits st
  OutcomeFits o = Unit {0}

  within_fits : (c : Option (Cause × ℕ)) (o : Outcome) → OutcomeFits o → OutcomeFits (within c o)
  within_fits None o h = h
  within_fits (Some c) o h = tt

  limited_fits : (limits : Limits) (o : Outcome) → OutcomeFits o → OutcomeFits (limited limits o)
  limited_fits limits (Running st) h = within_fits (limit_passed limits (depth_of st.top st.held) st.store) (Running st) h
  limited_fits limits Refused h = tt
  limited_fits limits (Raises c trace) h = tt
  limited_fits limits (Over c n) h = tt
  limited_fits limits No_row h = tt
  limited_fits limits (Ends n out trace) h = tt

  without_fits : (st : State) (p : Pick) → OutcomeFits (without_row world st p)
  without_fits st p = within_fits _ No_row tt

  -- back in the frame below
  back_fits : (above : Option ℕ) (hs : List (Local × Place)) → HeldFit size world above hs → (v : Value) → HasSize above v → (s : Store) (trace : List Entry)
      → OutcomeFits (back world hs v s trace)
  back_fits above _ (lowest _) v g s trace = tt
  back_fits above _ (waits _ result h hs w below) v g s trace = at_frame h.0.begun refl
    where
      at_frame : (o : Option Begun) → h.0.begun ≡ o → OutcomeFits (Running (record { top = next world h.0 o (Ev h.1) v; held = hs; store = s; trace = trace }))
      at_frame None e = record { result = result; top = w.frame; held = below }
      at_frame (Some b) e = record {
        result = result;
        top = frame_given size world result h.0 b h.1 v e (λ x q. keeps_size above (size (type_of x)) v (w.takes b e x q) g) w.frame;
        held = below;
      }

  module _ (ok : ProgramFits size world) (st : State) (fits : StateFits st) where
    -- a control step
    control_moved : (o : Option Begun) → st.top.begun ≡ o → (v : Value) → HasSize fits.result v → (s : Store) (trace : List Entry)
        → OutcomeFits (moved world st Control (move world st.top o Control) v s trace)
    control_moved None e v g s trace = go (control_move world (ready_work st.top.todo))
      where
        go : (m : Move Local) → OutcomeFits (moved world st Control m v s trace)
        go Stay =
            subst (λ z. OutcomeFits (Running (record { top = next world st.top z Control v; held = st.held; store = s; trace = trace }))) (sym e)
            (record {
              result = fits.result;
              top = control_fits size world fits.result st.top fits.top (ready_work st.top.todo) (ready_fits size fits.result st.top.todo fits.top.todo);
              held = fits.held;
            })
        go (Start l) = tt
        go End = back_fits fits.result st.held fits.held v g s trace
    control_moved (Some b) e v g s trace = go (if is_none st.top.function && ends_with world (ready_work st.top.todo) then End else Stay)
      where
        go : (m : Move Local) → OutcomeFits (moved world st Control m v s trace)
        go Stay =
            subst (λ z. OutcomeFits (Running (record { top = next world st.top z Control v; held = st.held; store = s; trace = trace }))) (sym e)
            (record { result = fits.result; top = settled_fits size world fits.result st.top fits.top b e; held = fits.held })
        go (Start l) = tt
        go End = back_fits fits.result st.held fits.held v g s trace

    control_acted : (a : Act Value) → Gave world.rows (HasSize fits.result) a → OutcomeFits (acted world st Control a)
    control_acted (Done v is s) g = limited_fits world.limits _ (control_moved st.top.begun refl v g s (entry_of world st.top Control is ∷ st.trace))
    control_acted (Raised c) g = tt
    control_acted (Ended n is s) g = tt
    control_acted (Outside c n) g = tt
    control_acted Unplaced g = without_fits st Control

    control_gave : (o : Option Begun) → Gave world.rows (HasSize fits.result) (run world.rows (does world st.top o Control) st.store)
    control_gave None =
        run_gave world.rows (HasSize fits.result) (control_act world st.top (ready_work st.top.todo)) st.store
        (control_gives size world fits.result st.top fits.top (ready_work st.top.todo))
    control_gave (Some b) = result_fits size world fits.result st.top fits.top

    -- an event
    module _ (b : Begun) (e : st.top.begun ≡ Some b) (u : Place) where
      event_moved : (m : Move Local) → EventMove size world b u m → (v : Value)
          → ((x : Expr) → at_node 0 b.root u.node ≡ Some x → HasSize (size (type_of x)) v) → (s : Store) (trace : List Entry)
          → OutcomeFits (moved world st (Ev u) m v s trace)
      event_moved _ stays v g s trace =
          subst (λ z. OutcomeFits (Running (record { top = next world st.top z (Ev u) v; held = st.held; store = s; trace = trace }))) (sym e)
          (record { result = fits.result; top = frame_given size world fits.result st.top b u v e g fits.top; held = fits.held })
      event_moved _ (starts l result frame takes) v g s trace = record {
        result = result;
        top = frame;
        held = waits result fits.result (st.top, u) st.held (record {
          frame = fits.top;
          takes = λ c r x q. takes x (let same : b ≡ c = cc in subst (λ z. at_node 0 z.root u.node ≡ Some x) (sym same) q);
        }) fits.held;
      }

      event_acted : (a : Act Value) → Gave world.rows (EventIs size world st.top.scene b u (at_node 0 b.root u.node)) a → OutcomeFits (acted world st (Ev u) a)
      event_acted (Done v is s) g =
          limited_fits world.limits _
          (subst (λ z. OutcomeFits (moved world st (Ev u) (move world st.top z (Ev u)) v s (entry_of world st.top (Ev u) is ∷ st.trace))) (sym e)
          (event_moved _ (event_moves size world ok fits.result st.top.scene b (fits.top.begun b e) u (at_node 0 b.root u.node) refl v g) v
          (event_value size world ok fits.result st.top.scene b (fits.top.begun b e) u v g) s _))
      event_acted (Raised c) g = tt
      event_acted (Ended n is s) g = tt
      event_acted (Outside c n) g = tt
      event_acted Unplaced g = without_fits st (Ev u)

    -- nothing has begun
    nothing_acted : (u : Place) → st.top.begun ≡ None → OutcomeFits (acted world st (Ev u) (Done Nothing [] st.store))
    nothing_acted u e =
        limited_fits world.limits (moved world st (Ev u) (move world st.top st.top.begun (Ev u)) Nothing st.store trace)
        (subst (λ z. OutcomeFits (moved world st (Ev u) (move world st.top z (Ev u)) Nothing st.store trace)) (sym e)
        (subst (λ z. OutcomeFits (Running (record { top = next world st.top z (Ev u) Nothing; held = st.held; store = st.store; trace = trace }))) (sym e)
        (record { result = fits.result; top = fits.top; held = fits.held })))
      where
        trace : List Entry
        trace = entry_of world st.top (Ev u) [] ∷ st.trace

    pub step_fits : (p : Pick) → OutcomeFits (step world st p)
    step_fits Control = within_fits (enter_passes world.limits st Control) _ (control_acted _ (control_gave st.top.begun))
    step_fits (Ev u) = within_fits (enter_passes world.limits st (Ev u)) _ (go st.top.begun refl)
      where
        go : (o : Option Begun) → st.top.begun ≡ o → OutcomeFits (acted world st (Ev u) (run world.rows (does world st.top o (Ev u)) st.store))
        go None e = nothing_acted u e
        go (Some b) e =
            event_acted b e u _
            (run_gave world.rows (EventIs size world st.top.scene b u (at_node 0 b.root u.node))
            (event_act world st.top.scene b u (at_node 0 b.root u.node)) st.store
            (event_gives size world ok fits.result st.top.scene b (fits.top.begun b e) u (at_node 0 b.root u.node) refl))

  -- an order
  pub order_fits : ProgramFits size world → (st : State) (ps : List Pick) (o : Outcome) → StateFits st → After world st ps o → OutcomeFits o
  order_fits ok _ _ _ h (here st) = h
  order_fits ok _ _ _ h (refused st p ps r) = tt
  order_fits ok _ _ _ h (last st p may) = step_fits ok st h p
  order_fits ok _ _ _ h (more st next' p q ps o may e rest) =
      order_fits ok next' (q ∷ ps) o (subst OutcomeFits e (step_fits ok st h p)) rest
  order_fits ok _ _ _ h (too_late st p q ps may r) = tt

  -- from the start
  main_fits : ProgramFits size world → (vs : List Value) → (result : Option ℕ) × FrameFits size world result (main_frame world vs)
  main_fits ok vs = go (slice_get world.program.functions world.program.main) refl
    where
      fits_of : (o : Option Function) → slice_get world.program.functions world.program.main ≡ o → (result : Option ℕ)
          × ((s : Stmt) → body_of world (Some world.program.main) ≡ Some s → StatementFits size result s)
      fits_of None e = (None, λ s q. absurd (nowhere s q))
        where
          none_there : body_of world (Some world.program.main) ≡ None
          none_there = rw e

          nowhere : (s : Stmt) → body_of world (Some world.program.main) ≡ Some s → ⊥
          nowhere s q = (let r = none_there in cc)
      fits_of (Some fun) e =
          (result_size size fun.ty, λ s q. (ok.functions world.program.main fun e).body s (sym (body_there world world.program.main fun e) ∙ q))

      work_fits : (result : Option ℕ) (o : Option Stmt) → ((s : Stmt) → o ≡ Some s → StatementFits size result s) → TodoFits size result (work_of world o)
      work_fits result None g = tt
      work_fits result (Some s) g = (g s refl, tt)

      go : (o : Option Function) → slice_get world.program.functions world.program.main ≡ o → (result : Option ℕ) × FrameFits size world result
          (main_frame world vs)
      go o e =
          let r = fits_of o e in (
            r.0,
            record {
              todo = work_fits r.0 (body_of world (Some world.program.main)) r.1;
              begun = λ b q. absurd (cc);
              gives = λ v q. absurd (cc);
              body = r.1;
            },
          )

  started_fits : ProgramFits size world → (a : Act Value) (vs : List Value) → OutcomeFits (started_run world a vs)
  started_fits ok (Done v is s) vs =
      let r = main_fits ok vs in
      limited_fits world.limits (Running (record { top = main_frame world vs; held = []; store = s; trace = [] })) (record {
        result = r.0;
        top = r.1;
        held = lowest r.0;
      })
  started_fits ok (Outside c n) vs = tt
  started_fits ok (Raised c) vs = tt
  started_fits ok (Ended n is s) vs = tt
  started_fits ok Unplaced vs = tt

  pub start_fits : ProgramFits size world → (input : List ℕ) (vs : List Value) → OutcomeFits (start world input vs)
  start_fits ok input vs = within_fits (too_many world.limits (created_after 0 (map (λ o. o.decl) world.program.standing))) _
      (started_fits ok (run world.rows (stand world world.program.standing) (nothing_stands world input)) vs)

  pub comes_fits : ProgramFits size world → (input : List ℕ) (vs : List Value) (ps : List Pick) (o : Outcome) → ComesTo world input vs ps o → OutcomeFits o
  comes_fits ok input vs _ _ (from_start st ps o e after) = order_fits ok st ps o (subst OutcomeFits e (start_fits ok input vs)) after
  comes_fits ok input vs _ _ (from_stop o e h) = subst OutcomeFits e (start_fits ok input vs)
  comes_fits ok input vs _ _ (from_refused p ps h) = tt
