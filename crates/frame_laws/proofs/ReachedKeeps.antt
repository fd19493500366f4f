-- Each permitted pick leaves reached all that is done.
use Rattle.std.proofs.Common.{◌≡◌, ℕ, zero, suc, Bool, true, false, List, [], ◌∷◌, Option, Some, None, if◌then◌else◌, refl, sym, subst, true≢false}
use Rattle.c_typed.specs.declared.tree.Place.{Place}
use Rattle.c_typed.specs.Decide.{canonical}
use Rattle.c_typed.specs.Order.{is_body}
use Rattle.mem_spec.specs.Store.{Store}
use Rattle.mem_spec.specs.Script.{Act, Done, Raised, Ended, Outside, Unplaced}
use Rattle.c_model.specs.Program.{Head, Call, Isolated, Expr, expr, Stmt, Function, tree_of}
use Rattle.c_model.specs.Control.{Todo, Enter, Leave, Unwrite, Begin, Nothing_to_do, Go_to, Go_out, Go_on, Go_back, To_do, Rest, Round}
use Rattle.c_model.specs.Control.{Again, Test, Break_here, ready_work}
use Rattle.c_model.specs.ChoiceLaws.{IsNext}
use Rattle.c_model.specs.Moves.{Move, Stay, Start, End}
use Rattle.c_model.specs.Values.{Value, later_values}
use Rattle.c_model.specs.World.{World}
use Rattle.c_model.specs.Steps.{Begun, Local, Pick, Control, Ev, Scene, MayPick, at_node, taken_by, is_done, control_next, control_move, next}
use Rattle.c_model.specs.Steps.{move, move_of, started, start_call, body_frame, called_by, own_body}
use Rattle.c_model.specs.Runs.{State, Entry, Outcome, Refused, Raises, Over, No_row, Ends, Running, After, here, refused, last, more, too_late, on_running}
use Rattle.c_model.specs.Runs.{step, acted, moved, back, started_run, main_frame, canonical_pick, canonical_after, chosen_pick}
use Rattle.c_model.proofs.GoesOn as goes
use Rattle.c_model.proofs.Halves.{closed_at}
use Rattle.listing_laws.specs.Due.{DecidesPermitted}
use Rattle.frame_laws.specs.Reached.{IsReachedIn, WaitsNext, AllWaitNext, AreReached, StartsReached, StepsReached, OrdersReached, CanonicalReached}
use Rattle.frame_laws.proofs.StateKeeps.{same_state, through_within, through_limited}

module _ (world : World) where
  -- 1. How a pick fits a frame: an event may come next.

  data Suits (f : Scene) : Option Begun → Pick → Type 0 where
    goes_on : Suits f None Control
    settles : (e : Begun) → Suits f (Some e) Control
    takes : (e : Begun) (u : Place) → IsNext world f e u → Suits f (Some e) (Ev u)

  suits : DecidesPermitted → (f : Local) (o : Option Begun) (p : Pick) → MayPick world f o p → Suits f.scene o p
  suits decides f None Control m = goes_on
  suits decides f None (Ev u) m = absurd m
  suits decides f (Some e) Control m = settles e
  suits decides f (Some e) (Ev u) m =
      takes e u (goes.next world f.scene e u ((decides (tree_of e.root) (taken_by world f.scene e) (is_done e) u).1 m))

  canonical_suits : (f : Local) (o : Option Begun) → Suits f.scene o (canonical_pick world f o)
  canonical_suits f None = goes_on
  canonical_suits f (Some e) = go (canonical (tree_of e.root) (taken_by world f.scene e) (is_done e)) refl
    where
      go : (c : Option Place) → canonical (tree_of e.root) (taken_by world f.scene e) (is_done e) ≡ c → Suits f.scene (Some e) (chosen_pick world c)
      go None q = settles e
      go (Some u) q = takes e u (goes.next world f.scene e u (goes.taken_may world f.scene e u q))

  -- 2. The frame behind it.

  none_reached : (f : Scene) (o : Option Begun) → o ≡ None → IsReachedIn world f o
  none_reached f o q = subst (λ z. IsReachedIn world f z) (sym q) tt

  control_reached : (f : Local) (ws : Todo) → f.begun ≡ None → IsReachedIn world (control_next world f ws).scene (control_next world f ws).begun
  control_reached f [] q = none_reached f.scene f.begun q
  control_reached f (Enter b ds ∷ ws) q = none_reached _ f.begun q
  control_reached f (Leave b ds ∷ ws) q = none_reached _ f.begun q
  control_reached f (Begin e what ∷ ws) q = λ v h. absurd (true≢false (sym h))
  control_reached f (Unwrite d ∷ ws) q = none_reached f.scene f.begun q
  control_reached f (Nothing_to_do ∷ ws) q = none_reached f.scene f.begun q
  control_reached f (Go_to k ∷ ws) q = none_reached f.scene f.begun q
  control_reached f (Go_out ∷ ws) q = none_reached f.scene f.begun q
  control_reached f (Go_on ∷ ws) q = none_reached f.scene f.begun q
  control_reached f (Go_back ∷ ws) q = none_reached f.scene f.begun q
  control_reached f (To_do s ∷ ws) q = none_reached f.scene f.begun q
  control_reached f (Rest ss ∷ ws) q = none_reached f.scene f.begun q
  control_reached f (Round test step s ∷ ws) q = none_reached f.scene f.begun q
  control_reached f (Again e s ∷ ws) q = none_reached f.scene f.begun q
  control_reached f (Test test step s ∷ ws) q = none_reached f.scene f.begun q
  control_reached f (Break_here ∷ ws) q = none_reached f.scene f.begun q

  next_reached : (f : Local) (o : Option Begun) (p : Pick) (v : Value) → f.begun ≡ o → IsReachedIn world f.scene o → Suits f.scene o p
      → IsReachedIn world (next world f o p v).scene (next world f o p v).begun
  next_reached f _ _ v q k goes_on = control_reached f (ready_work f.todo) q
  next_reached f _ _ v q k (settles e) = tt
  next_reached f _ _ v q k (takes e u n) = λ w h. closed_at world f.scene e u v n w (k w) h

  -- a new frame has no full expression open
  abbrev IsNew : Move Local → Type 0
  IsNew (Start g) = g.begun ≡ None
  IsNew m = Unit {0}

  body_new : (f : Scene) (k n : ℕ) (vs : List Value) (b : Option Stmt) → IsNew (body_frame world f k n vs b)
  body_new f k n vs None = tt
  body_new f k n vs (Some s) = refl

  call_new : (f : Scene) (k : ℕ) (vs : List Value) (c : Option (ℕ × Function)) → IsNew (start_call world f k vs c)
  call_new f k vs None = tt
  call_new f k vs (Some c) = body_new f k c.0 vs (own_body c.1)

  start_new : (f : Scene) (k : ℕ) (h : Head) (vs : List Value) → IsNew (started world f k h vs)
  start_new f k (Call d) vs = call_new f k (later_values vs) (called_by world vs)
  start_new f k (Isolated e) vs = refl
  start_new f k _ vs = tt

  if_new : (b : Bool) (m : Move Local) → IsNew m → IsNew (if b then m else Stay)
  if_new true m h = h
  if_new false m h = tt

  node_new : (f : Scene) (e : Begun) (u : Place) (o : Option Expr) → IsNew (move_of world f e u o)
  node_new f e u None = tt
  node_new f e u (Some (expr h ty line es)) = if_new (is_body u.kind) _ (start_new f u.node h _)

  ends_new : (b : Bool) → IsNew (if b then End else Stay)
  ends_new true = tt
  ends_new false = tt

  work_new : (ws : Todo) → IsNew (control_move world ws)
  work_new [] = tt
  work_new (Leave b ds ∷ ws) = ends_new _
  work_new (_ ∷ ws) = tt

  move_new : (f : Local) (o : Option Begun) (p : Pick) → IsNew (move world f o p)
  move_new f None Control = work_new (ready_work f.todo)
  move_new f None (Ev u) = tt
  move_new f (Some e) Control = ends_new _
  move_new f (Some e) (Ev u) = node_new f.scene e u (at_node 0 e.root u.node)

  wait_now : (f : Scene) (o : Option Begun) (u : Place) → IsReachedIn world f o → Suits f o (Ev u) → WaitsNext world f o u
  wait_now f _ _ k (takes e u n) = (k, n)

  -- the frame below goes on
  back_reached : (h : Local) (o : Option Begun) (u : Place) (v : Value) → h.begun ≡ o → WaitsNext world h.scene o u
      → IsReachedIn world (next world h o (Ev u) v).scene (next world h o (Ev u) v).begun
  back_reached h None u v q w = none_reached h.scene h.begun q
  back_reached h (Some e) u v q w = λ x g. closed_at world h.scene e u v w.1 x (w.0 x) g

  -- 3. The state behind it.

  abbrev Reached : State → Type 0
  Reached st = AreReached world st.top st.held

  over_reached : (hs : List (Local × Place)) (v : Value) (s : Store) (trace : List Entry) (after : State) → AllWaitNext world hs
      → back world hs v s trace ≡ Running after → Reached after
  over_reached [] v s trace after w q = absurd (cc (q))
  over_reached (h ∷ hs) v s trace after w q =
      subst Reached (same_state _ after q) (back_reached h.0 h.0.begun h.1 v refl w.0, w.1)

  moved_reached : (st : State) (p : Pick) (m : Move Local) (v : Value) (s : Store) (trace : List Entry) (after : State)
      → Reached st → Suits st.top.scene st.top.begun p → IsNew m → moved world st p m v s trace ≡ Running after → Reached after
  moved_reached st p Stay v s trace after k fit new q =
      subst Reached (same_state _ after q) (next_reached st.top st.top.begun p v refl k.0 fit, k.1)
  moved_reached st Control (Start g) v s trace after k fit new q = absurd (cc (q))
  moved_reached st (Ev u) (Start g) v s trace after k fit new q =
      subst Reached (same_state _ after q) (none_reached g.scene g.begun new, (wait_now st.top.scene st.top.begun u k.0 fit, k.1))
  moved_reached st p End v s trace after k fit new q = over_reached st.held v s trace after k.1 q

  acted_reached : (st : State) (p : Pick) (act : Act Value) (after : State) → Reached st → Suits st.top.scene st.top.begun p
      → acted world st p act ≡ Running after → Reached after
  acted_reached st p (Done v is s) after k fit q =
      moved_reached st p (move world st.top st.top.begun p) v s _ after k fit (move_new st.top st.top.begun p) (through_limited world.limits _ after q)
  acted_reached st p (Raised c) after k fit q = absurd (cc (q))
  acted_reached st p (Ended n is s) after k fit q = absurd (cc (q))
  acted_reached st p (Outside c n) after k fit q = absurd (cc (q))
  acted_reached st p Unplaced after k fit q = absurd (let r = through_within _ No_row after q in cc (r))

  step_reached : (st : State) (p : Pick) (after : State) → Reached st → Suits st.top.scene st.top.begun p → step world st p ≡ Running after → Reached after
  step_reached st p after k fit q = acted_reached st p _ after k fit (through_within _ _ after q)

  started_reached : (vs : List Value) (act : Act Value) (st : State) → started_run world act vs ≡ Running st → Reached st
  started_reached vs (Done v is s) st q =
      let first : State = record { top = main_frame world vs; held = []; store = s; trace = [] } in
      let reached : Reached first = (tt, tt) in
      subst Reached (same_state first st (through_limited world.limits _ st q)) reached
  started_reached vs (Raised c) st q = absurd (cc (q))
  started_reached vs (Ended n is s) st q = absurd (cc (q))
  started_reached vs (Outside c n) st q = absurd (cc (q))
  started_reached vs Unplaced st q = absurd (cc (q))

  -- 4. Orders.

  by_order : DecidesPermitted → (st : State) (ps : List Pick) (o : Outcome) → After world st ps o → Reached st → (after : State) → o ≡ Running after
      → Reached after
  by_order decides _ _ _ (here st) k after q = subst Reached (same_state st after q) k
  by_order decides _ _ _ (refused st p ps m) k after q = absurd (cc (q))
  by_order decides _ _ _ (last st p m) k after q = step_reached st p after k (suits decides st.top st.top.begun p m) q
  by_order decides _ _ _ (more st middle p r ps o m e later) k after q =
      by_order decides middle (r ∷ ps) o later (step_reached st p middle k (suits decides st.top st.top.begun p m) e) after q
  by_order decides _ _ _ (too_late st p r ps m e) k after q = absurd (cc (q))

  by_canonical : (n : ℕ) (st : State) → Reached st → (after : State) → canonical_after world n st ≡ Running after → Reached after
  by_canonical zero st k after q = subst Reached (same_state st after q) k
  by_canonical (suc n) st k after q =
      stepped (step world st (canonical_pick world st.top st.top.begun))
      (λ middle e. step_reached st _ middle k (canonical_suits st.top st.top.begun) e) (by_canonical n) q
    where
      stepped : (o : Outcome) → ((middle : State) → o ≡ Running middle → Reached middle)
          → ((middle : State) → Reached middle → (z : State) → canonical_after world n middle ≡ Running z → Reached z)
          → on_running o (canonical_after world n) ≡ Running after → Reached after
      stepped (Running middle) f g q = g middle (f middle refl) after q
      stepped Refused f g q = absurd (cc (q))
      stepped (Raises c trace) f g q = absurd (cc (q))
      stepped (Over c m) f g q = absurd (cc (q))
      stepped No_row f g q = absurd (cc (q))
      stepped (Ends status out trace) f g q = absurd (cc (q))

pub starts_reached : StartsReached
starts_reached world input vs st q = started_reached world vs _ st (through_within _ _ st q)

pub steps_reached : DecidesPermitted → StepsReached
steps_reached decides world st after p m k q = step_reached world st p after k (suits world decides st.top st.top.begun p m) q

pub orders_reached : DecidesPermitted → OrdersReached
orders_reached decides world st after ps k order = by_order world decides st ps (Running after) order k after refl

pub canonical_reached : CanonicalReached
canonical_reached world n st after k q = by_canonical world n st k after q
