-- What a pick does to the frames of a state, and how a run starts.
use Rattle.std.proofs.Common.{◌≡◌, ℕ, suc, Bool, true, false, ◌&&◌, ◌==◌, ◌+◌, ◌⊎◌, inl, inr, List, [], ◌∷◌, Option, Some, None, if◌then◌else◌}
use Rattle.std.proofs.Common.{is_some, is_none}
use Rattle.std.proofs.Common.{refl, sym, ap, ◌∙◌, subst, slice_get, arith}
use Rattle.ub_base.specs.declared.clause.Cause.{Cause}
use Rattle.c_types.specs.Types.{CType}
use Rattle.c_typed.specs.declared.tree.Place.{Place}
use Rattle.c_typed.specs.Order.{is_body}
use Rattle.mem_spec.specs.Store.{Store}
use Rattle.mem_spec.specs.Script.{Act, Done, Raised, Ended, Outside, Unplaced}
use Rattle.c_model.specs.Program.{Head, Number, Null, Obj, Func, Str, Load, Conv, Un, Bin, PtrAdd, PtrDiff, Rel, Eq, Member, Part, Assign, Update}
use Rattle.c_model.specs.Program.{And, Or}
use Rattle.c_model.specs.Program.{Cond, Comma, Call, Listed, Isolated, Expr, expr, Exprs, Stmt, Function}
use Rattle.c_model.specs.Control.{ready_work}
use Rattle.c_model.specs.Moves.{Move, Stay, Start, End}
use Rattle.c_model.specs.Values.{Value, later_values, function_address}
use Rattle.c_model.specs.World.{World, Limits}
use Rattle.c_model.specs.Steps.{Begun, Local, Pick, Control, Ev, at_node, with_given, control_move, move, settled, root_value, body_of, control_next}
use Rattle.c_model.specs.Steps.{next, function_of, own_body, body_frame, start_call, called_by, started, move_of, values_of, ends_with}
use Rattle.c_model.specs.Runs.{State, Entry, Outcome, Refused, Raises, Over, No_row, Ends, Running, within, limited, back, moved, acted}
use Rattle.c_model.specs.Runs.{started_run, main_frame, work_of}
use Rattle.frame_laws.specs.Frames.{IsScoped, HasMain, IsOfFunction, IsolatesAt, IsOfInitializer, AreOrdered}
use Rattle.frame_laws.specs.Laws.{StartsOrdered, StepsOrdered}
use Rattle.frame_laws.proofs.FrameKeeps.{next_function, next_path, function_steps, function_settles, function_given, initializer_steps}
use Rattle.frame_laws.proofs.FrameKeeps.{initializer_given, tree_ends}

-- 1. Outcomes that run.

abbrev pub state_in : Outcome → State → State
state_in (Running st) other = st
state_in o other = other

pub same_state : (a b : State) → Running a ≡ Running b → a ≡ b
same_state a b q = ap (λ o. state_in o a) q

pub through_within : (x : Option (Cause × ℕ)) (o : Outcome) (st : State) → within x o ≡ Running st → o ≡ Running st
through_within None o st q = q
through_within (Some c) o st q = absurd (cc (q))

pub through_limited : (limits : Limits) (o : Outcome) (st : State) → limited limits o ≡ Running st → o ≡ Running st
through_limited limits Refused st q = q
through_limited limits (Raises c trace) st q = q
through_limited limits (Over c n) st q = q
through_limited limits No_row st q = q
through_limited limits (Ends n out trace) st q = q
through_limited limits (Running s) st q = through_within _ (Running s) st q

abbrev pair_or : ℕ × Function → Option (ℕ × Function) → ℕ × Function
pair_or x None = x
pair_or x (Some y) = y

abbrev frame_or : Local → Move Local → Local
frame_or f (Start g) = g
frame_or f m = f

-- a function that a call leads to is that of its number
found_at : (fs : List Function) (n a : ℕ) (c : ℕ × Function) → function_of fs n a ≡ Some c → (k : ℕ) × (c.0 ≡ n + k) × (slice_get fs k ≡ Some c.1)
found_at [] n a c e = absurd (cc (e))
found_at (f ∷ fs) n a c e = go (function_address n == a) e (found_at fs (suc n) a c)
  where
    go : (b : Bool) → (if b then Some (n, f) else function_of fs (suc n) a) ≡ Some c
        → (function_of fs (suc n) a ≡ Some c → (k : ℕ) × (c.0 ≡ suc n + k) × (slice_get fs k ≡ Some c.1))
        → (k : ℕ) × (c.0 ≡ n + k) × (slice_get (f ∷ fs) k ≡ Some c.1)
    go true q later =
        let same : (n, f) ≡ c = ap (pair_or (n, f)) q in
        (0, (let h = ap (λ (x : ℕ × Function). x.0) same in omega (arith, h)), ap (λ (x : ℕ × Function). Some x.1) same)
    go false q later = let r = later q in (suc r.0, (let h = r.1 in omega (arith, h)), r.2)

own_is : (c : Function) (s : Stmt) → own_body c ≡ Some s → c.body ≡ Some s
own_is c s e = go (is_some c.library) e
  where
    go : (b : Bool) → (if b then None else c.body) ≡ Some s → c.body ≡ Some s
    go true q = absurd (cc (q))
    go false q = q

module _ (world : World) where
  -- 2. One frame in place of the top one.

  replaced : (f g : Local) (hs : List (Local × Place)) → (IsOfFunction world f → IsOfFunction world g)
      → ((below : Local) (at : Place) → IsOfInitializer f below at → IsOfInitializer g below at) → g.function ≡ f.function
      → g.scene.path ≡ f.scene.path → AreOrdered world f hs → AreOrdered world g hs
  replaced f g [] function initializer same path a = (function a.0, same ∙ a.1, path ∙ a.2)
  replaced f g (h ∷ hs) function initializer same path a =
      (kept a.0, record { begun = a.1.begun; body = a.1.body; path = path ∙ a.1.path }, a.2)
    where
      kept : (IsOfFunction world f ⊎ IsOfInitializer f h.0 h.1) → (IsOfFunction world g ⊎ IsOfInitializer g h.0 h.1)
      kept (inl i) = inl (function i)
      kept (inr i) = inr (initializer h.0 h.1 i)

  -- 3. Each pick.

  event_keeps : (f : Local) (hs : List (Local × Place)) (o : Option Begun) (u : Place) (v : Value) → f.begun ≡ o → AreOrdered world f hs
      → AreOrdered world (next world f o (Ev u) v) hs
  event_keeps f hs None u v e a = a
  event_keeps f hs (Some b) u v e a =
      replaced f (record f { begun = Some (with_given b u v) }) hs (function_given world f b u v e) (λ below at i. initializer_given world f below at b u v e i)
      refl refl a

  control_keeps : IsScoped world → (f : Local) (hs : List (Local × Place)) (v : Value) → f.begun ≡ None → control_move world (ready_work f.todo) ≡ Stay
      → AreOrdered world f hs → AreOrdered world (control_next world f (ready_work f.todo)) hs
  control_keeps scoped f hs v e m a =
      replaced f (control_next world f (ready_work f.todo)) hs (λ i. function_steps world scoped f i e m)
      (λ below at i. initializer_steps world f below at i e) (next_function world f (ready_work f.todo)) (next_path world f (ready_work f.todo)) a

  settle_keeps : (f : Local) (hs : List (Local × Place)) (b : Begun) (v : Value) → f.begun ≡ Some b
      → move world f (Some b) Control ≡ Stay
      → AreOrdered world f hs → AreOrdered world (settled world f v b.what) hs
  settle_keeps f hs b v e m a =
      replaced f (settled world f v b.what) hs (function_settles world f b v e) (λ below at i. absurd (ends below at i)) refl refl a
    where
      ends : (below : Local) (at : Place) → IsOfInitializer f below at → ⊥
      ends below at i =
          let t = tree_ends world f i.tree b e i.stage in
          let is : move world f (Some b) Control ≡ End =
          ap (λ n. if◌then◌else◌ {A = Move Local} (is_none n && ends_with world (ready_work f.todo)) End Stay) i.function
          ∙ ap (λ w. if◌then◌else◌ {A = Move Local} (true && ends_with world (ready_work w)) End Stay) t in
          cc (m, is)

  stays : IsScoped world → (f : Local) (hs : List (Local × Place)) (o : Option Begun) (p : Pick) (v : Value) → f.begun ≡ o → move world f o p ≡ Stay
      → AreOrdered world f hs → AreOrdered world (next world f o p v) hs
  stays scoped f hs None Control v e m a = control_keeps scoped f hs v e m a
  stays scoped f hs (Some b) Control v e m a = settle_keeps f hs b (root_value world f b) e m a
  stays scoped f hs o (Ev u) v e m a = event_keeps f hs o u v e a

  -- 4. A frame that starts.

  -- what it is asked
  record StartsAs (f : Local) (u : Place) (g : Local) : Type 0 where
    frame : IsOfFunction world g ⊎ IsOfInitializer g f u
    path : g.scene.path ≡ (f.scene.turn, u.node) ∷ f.scene.path

  function_body : (n : ℕ) (c : Function) → slice_get world.program.functions n ≡ Some c → body_of world (Some n) ≡ c.body
  function_body n c e = rw e

  called_frame : (f : Local) (u : Place) (vs : List Value) (o : Option Stmt) (n : ℕ) (g : Local) → ((s : Stmt) → o ≡ Some s → body_of world (Some n) ≡ Some s)
      → body_frame world f.scene u.node n vs o ≡ Start g → StartsAs f u g
  called_frame f u vs None n g d e = absurd (cc (e))
  called_frame f u vs (Some s) n g d e =
      subst (StartsAs f u) (ap (frame_or g) e) (record {
        frame = inl (record {
          number = n;
          function = refl;
          body = s;
          defined = d s refl;
          home = refl;
          stage = inl (record { todo = refl; begun = refl; blocks = refl });
        });
        path = refl;
      })

  called_by_is : (f : Local) (u : Place) (vs ws : List Value) (g : Local) (o : Option (ℕ × Function)) → called_by world ws ≡ o
      → start_call world f.scene u.node vs o ≡ Start g → StartsAs f u g
  called_by_is f u vs ws g None is e = absurd (cc (e))
  called_by_is f u vs ws g (Some c) is e =
      let r = found_at world.program.functions 0 _ c is in
      let at : slice_get world.program.functions c.0 ≡ Some c.1 =
      ap (slice_get world.program.functions) (let h = r.1 in omega (arith, h)) ∙ r.2 in
      called_frame f u vs (own_body c.1) c.0 g (λ s q. function_body c.0 c.1 at ∙ own_is c.1 s q) e

  -- at a node of the full expression that is open
  starts_at : (f : Local) (b : Begun) (u : Place) (g : Local) (h : Head) (ty : CType) (line : ℕ) (es : Exprs) → f.begun ≡ Some b
      → at_node 0 b.root u.node ≡ Some (expr h ty line es) → (vs : List Value) → started world f.scene u.node h vs ≡ Start g → StartsAs f u g
  starts_at f b u g (Call discarded) ty line es is at vs e = called_by_is f u (later_values vs) vs g (called_by world vs) refl e
  starts_at f b u g (Isolated tree) ty line es is at vs e =
      let I : Option Begun → Type 0 = λ o. IsolatesAt o u.node tree in
      let node : IsolatesAt f.begun u.node tree = subst I (sym is) (ty, line, es, at) in
      subst (StartsAs f u) (ap (frame_or g) e) (record {
        frame = inr (record {
          function = refl;
          home = refl;
          blocks = refl;
          arguments = refl;
          tree = tree;
          node = node;
          stage = inl (record { todo = refl; begun = refl });
        });
        path = refl;
      })
  starts_at f b u g (Number z) ty line es is at vs e = absurd (cc (e))
  starts_at f b u g Null ty line es is at vs e = absurd (cc (e))
  starts_at f b u g (Obj s) ty line es is at vs e = absurd (cc (e))
  starts_at f b u g (Func k) ty line es is at vs e = absurd (cc (e))
  starts_at f b u g (Str k) ty line es is at vs e = absurd (cc (e))
  starts_at f b u g (Load x) ty line es is at vs e = absurd (cc (e))
  starts_at f b u g (Conv c) ty line es is at vs e = absurd (cc (e))
  starts_at f b u g (Un op) ty line es is at vs e = absurd (cc (e))
  starts_at f b u g (Bin op k) ty line es is at vs e = absurd (cc (e))
  starts_at f b u g (PtrAdd n s) ty line es is at vs e = absurd (cc (e))
  starts_at f b u g (PtrDiff n) ty line es is at vs e = absurd (cc (e))
  starts_at f b u g (Rel op p) ty line es is at vs e = absurd (cc (e))
  starts_at f b u g (Eq op) ty line es is at vs e = absurd (cc (e))
  starts_at f b u g (Member n) ty line es is at vs e = absurd (cc (e))
  starts_at f b u g (Part n x) ty line es is at vs e = absurd (cc (e))
  starts_at f b u g (Assign i x) ty line es is at vs e = absurd (cc (e))
  starts_at f b u g (Update c o) ty line es is at vs e = absurd (cc (e))
  starts_at f b u g And ty line es is at vs e = absurd (cc (e))
  starts_at f b u g Or ty line es is at vs e = absurd (cc (e))
  starts_at f b u g Cond ty line es is at vs e = absurd (cc (e))
  starts_at f b u g Comma ty line es is at vs e = absurd (cc (e))
  starts_at f b u g (Listed s c) ty line es is at vs e = absurd (cc (e))

  move_starts : (f : Local) (b : Begun) (u : Place) (g : Local) (o : Option Expr) → f.begun ≡ Some b → at_node 0 b.root u.node ≡ o
      → move_of world f.scene b u o ≡ Start g → StartsAs f u g × (is_body u.kind ≡ true)
  move_starts f b u g None is at e = absurd (cc (e))
  move_starts f b u g (Some (expr h ty line es)) is at e = go (is_body u.kind) refl e
    where
      go : (k : Bool) → is_body u.kind ≡ k → (if k then started world f.scene u.node h (values_of world f.scene b.given (suc u.node) es) else Stay) ≡ Start g
          → StartsAs f u g × (is_body u.kind ≡ true)
      go true q m = (starts_at f b u g h ty line es is at _ m, q)
      go false q m = absurd (cc (m))

  frame_starts : (f : Local) (hs : List (Local × Place)) (o : Option Begun) (u : Place) (g : Local) → f.begun ≡ o → move world f o (Ev u) ≡ Start g
      → AreOrdered world f hs → AreOrdered world g ((f, u) ∷ hs)
  frame_starts f hs None u g is e a = absurd (cc (e))
  frame_starts f hs (Some b) u g is e a =
      let r = move_starts f b u g (at_node 0 b.root u.node) is refl e in
      (r.0.frame, record { begun = ap is_some is; body = r.1; path = r.0.path }, a)

  -- 5. The state behind a pick.

  back_ordered : (h : Local) (hs : List (Local × Place)) (v : Value) (s : Store) (trace : List Entry) (f : Local) (st : State) → AreOrdered world f hs
      → back world hs v s trace ≡ Running st → AreOrdered world st.top st.held
  back_ordered h [] v s trace f st a q = absurd (cc (q))
  back_ordered h (k ∷ ks) v s trace f st a q =
      let S : State → Type 0 = λ z. AreOrdered world z.top z.held in
      subst S (same_state _ st q) (event_keeps k.0 ks k.0.begun k.1 v refl a.2)

  moved_ordered : IsScoped world → (st : State) (p : Pick) (mv : Move Local) (v : Value) (s : Store) (trace : List Entry) (after : State)
      → move world st.top st.top.begun p ≡ mv → AreOrdered world st.top st.held → moved world st p mv v s trace ≡ Running after
      → AreOrdered world after.top after.held
  moved_ordered scoped st p Stay v s trace after is a q =
      let S : State → Type 0 = λ z. AreOrdered world z.top z.held in
      subst S (same_state _ after q) (stays scoped st.top st.held st.top.begun p v refl is a)
  moved_ordered scoped st Control (Start g) v s trace after is a q = absurd (cc (q))
  moved_ordered scoped st (Ev u) (Start g) v s trace after is a q =
      let S : State → Type 0 = λ z. AreOrdered world z.top z.held in
      subst S (same_state _ after q) (frame_starts st.top st.held st.top.begun u g refl is a)
  moved_ordered scoped st p End v s trace after is a q = back_ordered st.top st.held v s trace st.top after a q

  acted_ordered : IsScoped world → (st : State) (p : Pick) (act : Act Value) (after : State) → AreOrdered world st.top st.held
      → acted world st p act ≡ Running after → AreOrdered world after.top after.held
  acted_ordered scoped st p (Done v is s) after a q =
      moved_ordered scoped st p (move world st.top st.top.begun p) v s _ after refl a (through_limited world.limits _ after q)
  acted_ordered scoped st p (Raised c) after a q = absurd (cc (q))
  acted_ordered scoped st p (Ended n is s) after a q = absurd (cc (q))
  acted_ordered scoped st p (Outside c n) after a q = absurd (cc (q))
  acted_ordered scoped st p Unplaced after a q = absurd (let r = through_within _ No_row after q in cc (r))

  -- 6. The start.

  main_ordered : (vs : List Value) (o : Option Stmt) → body_of world (Some world.program.main) ≡ o → is_some o ≡ true → IsOfFunction world (main_frame world vs)
  main_ordered vs None is e = absurd (cc (e))
  main_ordered vs (Some s) is e = record {
    number = world.program.main;
    function = refl;
    body = s;
    defined = is;
    home = refl;
    stage = inl (record { todo = ap (work_of world) is; begun = refl; blocks = refl });
  }

  started_ordered : HasMain world → (vs : List Value) (act : Act Value) (st : State) → started_run world act vs ≡ Running st
      → AreOrdered world st.top st.held
  started_ordered main vs (Done v is s) st q =
      let S : State → Type 0 = λ z. AreOrdered world z.top z.held in
      let first : State = record { top = main_frame world vs; held = []; store = s; trace = [] } in
      let ordered : AreOrdered world (main_frame world vs) [] = (main_ordered vs (body_of world (Some world.program.main)) refl main, refl, refl) in
      subst S (same_state first st (through_limited world.limits _ st q)) ordered
  started_ordered main vs (Raised c) st q = absurd (cc (q))
  started_ordered main vs (Ended n is s) st q = absurd (cc (q))
  started_ordered main vs (Outside c n) st q = absurd (cc (q))
  started_ordered main vs Unplaced st q = absurd (cc (q))

pub starts_ordered : StartsOrdered
starts_ordered world input vs st scoped main q = started_ordered world main vs _ st (through_within _ _ st q)

pub steps_ordered : StepsOrdered
steps_ordered world st after p scoped a q = acted_ordered world scoped st p _ after a (through_within _ _ after q)
