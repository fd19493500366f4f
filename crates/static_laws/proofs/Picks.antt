-- Each pick keeps what its state keeps, and an event's items lie in its reach.
use Rattle.std.proofs.Common.{◌≡◌, ℕ, suc, Bool, true, false, ◌&&◌, if◌then◌else◌, true≢false, List, [], ◌∷◌}
use Rattle.std.proofs.Common.{Option, Some, None, is_some, refl, sym, ap, ◌∙◌, subst, arith}
use Rattle.std.specs.Prelude.{is_none}
use Rattle.ub_base.specs.declared.clause.Kind.{Kind}
use Rattle.ub_base.specs.declared.clause.Kind.TheVariants.{Val, Eff, Body}
use Rattle.ub_base.specs.declared.clause.Cause.{Cause}
use Rattle.ub_base.specs.declared.names.Event.{Event}
use Rattle.ub_base.specs.declared.names.Item.{Item}
use Rattle.ub_base.specs.declared.names.Item.TheVariants.{Ending}
use Rattle.ub_base.specs.declared.names.ObjName.{ObjName}
use Rattle.ub_base.specs.Frames.{Path}
use Rattle.c_types.specs.Types.{CType}
use Rattle.c_typed.specs.declared.tree.Place.{Place}
use Rattle.c_typed.specs.declared.tree.Access.{Access}
use Rattle.c_typed.specs.declared.tree.Access.TheVariants as access
use Rattle.c_typed.specs.declared.tree.Slot.{Slot}
use Rattle.c_typed.specs.Tree.{is_quiet}
use Rattle.c_typed.specs.Order.{place, is_body, IsPermitted}
use Rattle.mem_spec.specs.Store.{Store}
use Rattle.mem_spec.specs.Script.{Act, Done, Raised, Ended, Outside, Unplaced, run}
use Rattle.c_model.specs.Program.{Head, Assign, Listed, Call, Isolated, Filling, Expr, expr, Exprs, tree_of, Stmt, Function}
use Rattle.c_model.specs.Values.{Value, value_at, later_values, or_nothing}
use Rattle.c_model.specs.World.{World, Limits}
use Rattle.c_model.specs.Nodes.{act_of}
use Rattle.c_model.specs.Moves.{Move, Stay, Start, End}
use Rattle.c_model.specs.Control.{ready_work}
use Rattle.c_model.specs.Steps.{Scene, Local, Begun, Pick, Control, Ev, MayPick, taken_by, at_node, name_of, pointer_to, event_of, event_act}
use Rattle.c_model.specs.Steps.{call_act, operand_values, values_of, own_kind, first_type, target, own_body, body_frame, start_call, started, called_by}
use Rattle.c_model.specs.Steps.{move_of}
use Rattle.c_model.specs.Steps.{does, move, next, control_move, control_next, settled, root_value, ends_with}
use Rattle.c_model.specs.Runs.{Entry, State, Outcome, Refused, Raises, Over, No_row, Ends, Running, entry_of, back, moved, acted, step, within, limited}
use Rattle.c_model.specs.Runs.{limit_passed, depth_of, enter_passes, without_row}
use Rattle.c_model.specs.Findings.{is_under}
use Rattle.c_model.specs.ChoiceLaws.{IsNext}
use Rattle.c_model.proofs.Ranks.{if_false}
use Rattle.c_model.proofs.Decided.{has_due}
use Rattle.c_model.proofs.Closed.{found_before}
use Rattle.value_laws.specs.Sizes.{Sizes, HasSize, size_at, StoreFits, NodeFits, ProgramFits}
use Rattle.value_laws.proofs.Nodes.{node_fits}
use Rattle.value_laws.proofs.Frames.{operands}
use Rattle.value_laws.proofs.Orders.{StateFits}
use Rattle.static_laws.proofs.Scripts.{Post, Anything, ActOk, run_ok}
use Rattle.static_laws.proofs.Reach.{Site, reach_by, InReach}
use Rattle.static_laws.proofs.Acts.{AreLow, StoredFits, StoresFit, act_within, quiet_in}
use Rattle.static_laws.proofs.Sites.{first_site, site_of, FixedIn, points, gives_site, at}
use Rattle.static_laws.proofs.Paths.{under_refl}
use Rattle.static_laws.proofs.Frames.{Scoped, of_function, of_initializer, scoped_falls, list_name, reach_at, Knows, Told, Kept, HeldOk}
use Rattle.static_laws.proofs.Frames.{Moved, control_moves, scoped_next, scoped_settled, kept_control, with_value, kept_event, kept_waits, IsNew, kept_new}
use Rattle.static_laws.proofs.Frames.{kept_back, held_next, sound_at, IsAtSite}

module _ (world : World) (lo : AreLow world.rows) where
  list_reach : (sized : Bool) (slot : Slot) (cs : List Filling) (s : Option Site) (x : ObjName) (k : Kind)
      → reach_by sized (Listed slot cs) None x k ≡ reach_by sized (Listed slot cs) s x k
  list_reach sized slot cs s x Val = refl
  list_reach sized slot cs s x Eff = refl
  list_reach sized slot cs s x Body = refl

  -- the values that are stored have as many bytes as their types
  abbrev pub StoresIn : Scene → Begun → Type 0
  StoresIn f b = (n : ℕ) (h : Head) (ty : CType) (line : ℕ) (es : Exprs) → at_node 0 b.root n ≡ Some (expr h ty line es)
      → StoresFit world.rows h (operand_values world f b.given (suc n) h es)

  -- the act of an event lies in its reach
  act_in : (sized : Bool) (f : Scene) (b : Begun) → FixedIn world f b.root b.given → (sized ≡ true → StoresIn f b) → (who : Event) (n : ℕ) (h : Head)
      (ty object : CType) (line : ℕ) (es : Exprs) (k : Kind)
      (own : Value) → at_node 0 b.root n ≡ Some (expr h ty line es)
      → Post (InReach world.rows (reach_by sized h (first_site world f es) (list_name world f h) k)) Anything
      (act_of world.rows who h object k (operand_values world f b.given (suc n) h es) own)
  act_in sized f b fixed stores who n (Listed slot cs) ty object line es k own q =
      subst (λ z. Post (InReach world.rows z) Anything (act_of world.rows who (Listed slot cs) object k (pointer_to world (name_of world f slot) ∷ []) own))
      (list_reach sized slot cs (first_site world f es) (name_of world f slot) k)
      (act_within world.rows lo None sized (name_of world f slot) who (Listed slot cs) object k (pointer_to world (name_of world f slot) ∷ []) own tt refl
      (λ e. tt))
  act_in sized f b fixed stores who n h ty object line es k own q =
      act_within world.rows lo (first_site world f es) sized (list_name world f h) who h object k (operand_values world f b.given (suc n) h es) own
      (points world lo f b.root b.given fixed n h ty line es q) tt (λ e. stores e n h ty line es q)

  -- so do the items of its run
  pub event_in : (sized : Bool) (f : Scene) (b : Begun) → FixedIn world f b.root b.given → (sized ≡ true → StoresIn f b) → (u : Place) (s : Store)
      → is_body u.kind ≡ false
      → ActOk (InReach world.rows (reach_at world sized f u.kind (at_node 0 b.root u.node))) Anything
      (run world.rows (event_act world f b u (at_node 0 b.root u.node)) s)
  event_in sized f b fixed stores u s nb = go (at_node 0 b.root u.node) refl
    where
      go : (o : Option Expr) → at_node 0 b.root u.node ≡ o
          → ActOk (InReach world.rows (reach_at world sized f u.kind o)) Anything (run world.rows (event_act world f b u o) s)
      go None q = (tt, tt)
      go (Some (expr h ty line es)) q =
          let r = reach_by sized h (first_site world f es) (list_name world f h) u.kind in
          let act = act_of world.rows (event_of world f u) h (target (first_type es)) u.kind (operand_values world f b.given (suc u.node) h es)
          (or_nothing (b.given (place u.node (own_kind u.kind)))) in
          subst (λ z. ActOk (InReach world.rows r) Anything (run world.rows z s))
          (sym (if_false (is_body u.kind) (call_act world (event_of world f u) h es (values_of world f b.given (suc u.node) es)) act nb))
          (run_ok world.rows (InReach world.rows r) Anything (quiet_in world.rows r Ending tt) act s
          (act_in sized f b fixed stores (event_of world f u) u.node h ty (target (first_type es)) line es u.kind
          (or_nothing (b.given (place u.node (own_kind u.kind)))) q))

  -- and the value of a fixed place is a pointer to there
  pub event_gives : (f : Scene) (b : Begun) → FixedIn world f b.root b.given → (u : Place) (s : Store) (e : Expr) (t : Site) → u.kind ≡ Val
      → at_node 0 b.root u.node ≡ Some e → is_quiet (tree_of e) ≡ false → site_of world f e ≡ Some t
      → ActOk (λ i. Unit {0}) (λ w. w ≡ at world t) (run world.rows (event_act world f b u (at_node 0 b.root u.node)) s)
  event_gives f b fixed u s (expr h ty line es) t kind q loud site =
      let own = or_nothing (b.given (place u.node (own_kind u.kind))) in
      let vs = operand_values world f b.given (suc u.node) h es in
      let act = act_of world.rows (event_of world f u) h (target (first_type es)) u.kind vs own in
      subst (λ o. ActOk (λ i. Unit {0}) (λ w. w ≡ at world t) (run world.rows (event_act world f b u o) s)) (sym q)
      (subst (λ z. ActOk (λ i. Unit {0}) (λ w. w ≡ at world t) (run world.rows z s))
      (sym (if_false (is_body u.kind) (call_act world (event_of world f u) h es (values_of world f b.given (suc u.node) es)) act (ap is_body kind)))
      (run_ok world.rows (λ i. Unit {0}) (λ w. w ≡ at world t) tt act s
      (subst (λ k. Post (λ i. Unit {0}) (λ w. w ≡ at world t) (act_of world.rows (event_of world f u) h (target (first_type es)) k vs own)) (sym kind)
      (gives_site world lo f b.root b.given fixed (event_of world f u) u.node h ty line es (target (first_type es)) own t q loud site))))

  -- what an event does to the frames
  pub data EventMove (f : Local) (u : Place) : Move Local → Type 0 where
    stays : EventMove f u Stay
    starts : (g : Local) → u ≡ place u.node Body → IsNew world f g u.node → EventMove f u (Start g)

  body_is : (u : Place) → is_body u.kind ≡ true → u ≡ place u.node Body
  body_is u h = go u.kind refl h
    where
      go : (k : Kind) → u.kind ≡ k → is_body k ≡ true → u ≡ place u.node Body
      go Body e h = λ i. record { node = u.node; kind = e i }
      go Val e h = absurd (cc)
      go Eff e h = absurd (cc)

  module _ (f : Local) (u : Place) (body : u ≡ place u.node Body) (scoped : Scoped f) where
    frame_moves : (n : ℕ) (vs : List Value) (o : Option Stmt) → EventMove f u (body_frame world f.scene u.node n vs o)
    frame_moves n vs None = stays
    frame_moves n vs (Some s) = starts _ body (record { path = refl; turn = refl; none = refl; scoped = of_function tt })

    call_moves : (vs : List Value) (o : Option (ℕ × Function)) → EventMove f u (start_call world f.scene u.node vs o)
    call_moves vs None = stays
    call_moves vs (Some c) = frame_moves c.0 vs (own_body c.1)

    head_moves : (h : Head) (vs : List Value) → EventMove f u (started world f.scene u.node h vs)
    head_moves (Call discarded) vs = call_moves (later_values vs) (called_by world vs)
    head_moves (Isolated e) vs =
        let s = scoped_falls f scoped in
        starts _ body (record { path = refl; turn = refl; none = refl; scoped = of_initializer s.0 s.1 e refl refl })
    head_moves h vs = stays

  event_moves : (f : Local) (b : Begun) (u : Place) → Scoped f → (o : Option Expr) → EventMove f u (move_of world f.scene b u o)
  event_moves f b u scoped None = stays
  event_moves f b u scoped (Some (expr h ty line es)) = go (is_body u.kind) refl
    where
      go : (c : Bool) → is_body u.kind ≡ c → EventMove f u
          (if c then started world f.scene u.node h (values_of world f.scene b.given (suc u.node) es) else Stay)
      go true e = head_moves f u (body_is u e) scoped h (values_of world f.scene b.given (suc u.node) es)
      go false e = stays

  -- a permitted event may come next
  pub next_is : (f : Scene) (b : Begun) (u : Place) → IsPermitted (tree_of b.root) (taken_by world f b) (λ v. is_some (b.given v)) u → IsNext world f b u
  next_is f b u p = record {
    due = sym (has_due (taken_by world f b) (tree_of b.root) 0 u) ∙ p.ready.due;
    left = none_of (b.given u) p.ready.left;
    earlier = λ v d h. p.ready.earlier v (found_before (tree_of b.root) (taken_by world f b) v u (has_due (taken_by world f b) (tree_of b.root) 0 v ∙ d)
        p.ready.due h);
  }
    where
      none_of : (o : Option Value) → is_some o ≡ false → o ≡ None
      none_of None h = refl
      none_of (Some w) h = absurd (cc)

  -- what a state keeps
  pub record Inv (st : State) : Type 0 where
    pub kept : Kept world st.trace st.top None
    pub held : HeldOk world st.trace st.top.scene.path st.held

  abbrev pub OutcomeOk : Outcome → Type 0
  OutcomeOk (Running st) = Inv st
  OutcomeOk o = Unit {0}

  within_ok : (c : Option (Cause × ℕ)) (o : Outcome) → OutcomeOk o → OutcomeOk (within c o)
  within_ok None o h = h
  within_ok (Some c) o h = tt

  limited_ok : (limits : Limits) (o : Outcome) → OutcomeOk o → OutcomeOk (limited limits o)
  limited_ok limits (Running st) h = within_ok (limit_passed limits (depth_of st.top st.held) st.store) (Running st) h
  limited_ok limits Refused h = tt
  limited_ok limits (Raises c trace) h = tt
  limited_ok limits (Over c n) h = tt
  limited_ok limits No_row h = tt
  limited_ok limits (Ends n out trace) h = tt

  without_ok : (st : State) (p : Pick) → OutcomeOk (without_row world st p)
  without_ok st p = within_ok _ No_row tt

  -- back in the frame below
  back_ok : (trace : List Entry) (path : Path) (hs : List (Local × Place)) (v : Value) (s : Store) → HeldOk world trace path hs
      → OutcomeOk (back world hs v s trace)
  back_ok trace path [] v s ok = tt
  back_ok trace path (h ∷ hs) v s (a, ok) = at_frame h.0.begun a.runs
    where
      at_frame : (o : Option Begun) → o ≡ Some a.begun → OutcomeOk (Running (record { top = next world h.0 o (Ev h.1) v; held = hs; store = s; trace = trace }))
      at_frame None e = absurd (cc)
      at_frame (Some c) e =
          let k : c ≡ a.begun = cc in
          subst (λ z. OutcomeOk (Running (record { top = with_value world h.0 z h.1 v; held = hs; store = s; trace = trace }))) (sym k)
          (record { kept = kept_back world trace h.0 a.begun h.1 v a.runs a.body a.next a.kept; held = ok })

  -- the entry of a pick
  entry_under : (f : Local) (p : Pick) (is : List Item) → is_under (entry_of world f p is).path f.scene.path ≡ true
  entry_under f p is = under_refl f.scene.path

  module _ (st : State) (inv : Inv st) where
    -- a control step
    control_moved : (o : Option Begun) → st.top.begun ≡ o → (x : Entry) → x.place ≡ None → is_under x.path st.top.scene.path ≡ true → (v : Value) (s : Store)
        → OutcomeOk (moved world st Control (move world st.top o Control) v s (x ∷ st.trace))
    control_moved None e x bare un v s = go (control_move world (ready_work st.top.todo))
      where
        moves : Moved world st.top (control_next world st.top (ready_work st.top.todo))
        moves = control_moves world st.top (ready_work st.top.todo) e

        go : (m : Move Local) → OutcomeOk (moved world st Control m v s (x ∷ st.trace))
        go Stay =
            subst (λ z. OutcomeOk (Running (record { top = next world st.top z Control v; held = st.held; store = s; trace = x ∷ st.trace }))) (sym e)
            (record {
              kept = kept_control world st.trace x st.top (control_next world st.top (ready_work st.top.todo)) bare moves
                  (scoped_next world st.top inv.kept.scoped e)
                  inv.kept;
              held = subst (λ z. HeldOk world (x ∷ st.trace) z st.held) (sym moves.path) (held_next world st.trace x st.top.scene.path st.held un inv.held);
            })
        go (Start l) = tt
        go End = back_ok (x ∷ st.trace) st.top.scene.path st.held v s (held_next world st.trace x st.top.scene.path st.held un inv.held)
    control_moved (Some b) e x bare un v s = go (if is_none st.top.function && ends_with world (ready_work st.top.todo) then End else Stay)
      where
        g : Local
        g = settled world st.top (root_value world st.top b) b.what

        moves : Moved world st.top g
        moves = record { path = refl; turn = omega arith; fresh = λ c r. absurd (cc) }

        go : (m : Move Local) → OutcomeOk (moved world st Control m v s (x ∷ st.trace))
        go Stay =
            subst (λ z. OutcomeOk (Running (record { top = next world st.top z Control v; held = st.held; store = s; trace = x ∷ st.trace }))) (sym e)
            (record {
              kept = kept_control world st.trace x st.top g bare moves (scoped_settled world st.top b (root_value world st.top b) e inv.kept.scoped) inv.kept;
              held = held_next world st.trace x st.top.scene.path st.held un inv.held;
            })
        go (Start l) = tt
        go End = back_ok (x ∷ st.trace) st.top.scene.path st.held v s (held_next world st.trace x st.top.scene.path st.held un inv.held)

    control_acted : (a : Act Value) → OutcomeOk (acted world st Control a)
    control_acted (Done v is s) =
        limited_ok world.limits _ (control_moved st.top.begun refl (entry_of world st.top Control is) refl (entry_under st.top Control is) v s)
    control_acted (Raised c) = tt
    control_acted (Ended n is s) = tt
    control_acted (Outside c n) = tt
    control_acted Unplaced = without_ok st Control

    -- an event
    module _ (b : Begun) (e : st.top.begun ≡ Some b) (u : Place) (n : IsNext world st.top.scene b u) where
      event_moved : (m : Move Local) → EventMove st.top u m → (x : Entry) → x.place ≡ Some u → st.top.scene.path ≡ x.path → st.top.scene.turn ≡ x.turn
          → Told world st.top.scene b.root u x.items → (v : Value) → IsAtSite world st.top.scene b.root u v → (s : Store)
          → OutcomeOk (moved world st (Ev u) m v s (x ∷ st.trace))
      event_moved _ stays x at path turn told v site s =
          subst (λ z. OutcomeOk (Running (record { top = next world st.top z (Ev u) v; held = st.held; store = s; trace = x ∷ st.trace }))) (sym e)
          (record {
            kept = kept_event world st.trace x st.top b u v at path turn e told n site inv.kept;
            held = held_next world st.trace x st.top.scene.path st.held (subst (λ z. is_under z st.top.scene.path ≡ true) path (under_refl st.top.scene.path))
                inv.held;
          })
      event_moved _ (starts g body new) x at path turn told v site s = record {
        kept = kept_new world st.trace x st.top g b u at path e body n.left new inv.kept;
        held = (
          record {
            kept = kept_waits world st.trace x st.top b u at path turn e (ap (λ z. is_body z.kind) body) inv.kept;
            body = body;
            way = new.path;
            begun = b;
            runs = e;
            next = n;
          },
          held_next world st.trace x st.top.scene.path st.held (subst (λ z. is_under z st.top.scene.path ≡ true) path (under_refl st.top.scene.path)) inv.held,
        );
      }

      event_acted : (a : Act Value)
          → ((sized : Bool) → Knows world sized → is_body u.kind ≡ false
          → ActOk (InReach world.rows (reach_at world sized st.top.scene u.kind (at_node 0 b.root u.node))) Anything a)
          → ((x : Expr) (t : Site) → u.kind ≡ Val → at_node 0 b.root u.node ≡ Some x → is_quiet (tree_of x) ≡ false → site_of world st.top.scene x ≡ Some t
          → ActOk (λ i. Unit {0}) (λ w. w ≡ at world t) a)
          → OutcomeOk (acted world st (Ev u) a)
      event_acted (Done v is s) h k =
          limited_ok world.limits _
          (subst (λ z. OutcomeOk (moved world st (Ev u) (move world st.top z (Ev u)) v s (entry_of world st.top (Ev u) is ∷ st.trace))) (sym e)
          (event_moved _ (event_moves st.top b u inv.kept.scoped (at_node 0 b.root u.node)) (entry_of world st.top (Ev u) is) refl refl refl
          (λ sized knows nb. (h sized knows nb).0) v
          (λ x t kind q loud site. (k x t kind q loud site).1) s))
      event_acted (Raised c) h k = tt
      event_acted (Ended n is s) h k = tt
      event_acted (Outside c n) h k = tt
      event_acted Unplaced h k = without_ok st (Ev u)

  -- what is known of a state where the program keeps the sizes of its types
  abbrev pub Sized : State → Type 0
  Sized st = (size : Sizes) → ProgramFits size world → StateFits size world st

  list_fits : (f : Scene) (b : Begun) (n : ℕ) (h : Head) (es : Exprs) → StoresFit world.rows h (values_of world f b.given (suc n) es)
      → StoresFit world.rows h (operand_values world f b.given (suc n) h es)
  list_fits f b n (Listed slot cs) es k = tt
  list_fits f b n h es k = k

  store_fits : (how : Access) (v : Value) (o : Option ℕ) → StoreFits how o → HasSize o v → StoredFits world.rows how v
  store_fits (access.Whole size align) v o e k = subst (λ z. HasSize z v) e k
  store_fits (access.Integer kind) v o e k = tt
  store_fits access.Pointer v o e k = tt
  store_fits access.Function v o e k = tt

  head_fits : (size : Sizes) (h : Head) (ty : CType) (es : Exprs) (vs : List Value) → NodeFits size h ty es → HasSize (size_at size es 1) (value_at vs 1)
      → StoresFit world.rows h vs
  head_fits size (Assign first how) ty es vs f k = store_fits how (value_at vs 1) (size_at size es 1) f.0 k
  head_fits size h ty es vs f k = tt

  pub stores_in : (st : State) → Sized st → (b : Begun) → st.top.begun ≡ Some b → (sized : Bool) → Knows world sized → sized ≡ true → StoresIn st.top.scene b
  stores_in st known b e false knows k = absurd (true≢false (sym k))
  stores_in st known b e true knows k = λ n h ty line es q.
      let size = knows.0 in
      let fits = (known size knows.1).top.begun b e in
      list_fits st.top.scene b n h es
      (head_fits size h ty es (values_of world st.top.scene b.given (suc n) es) (node_fits size b.root 0 n (expr h ty line es) fits.root q).0
      (operands size world st.top.scene b fits.values n h ty line es q 1))

  pub step_ok : (st : State) (p : Pick) → Inv st → Sized st → MayPick world st.top st.top.begun p → OutcomeOk (step world st p)
  step_ok st Control inv known may = within_ok (enter_passes world.limits st Control) _
      (control_acted st inv (run world.rows (does world st.top st.top.begun Control) st.store))
  step_ok st (Ev u) inv known may = within_ok (enter_passes world.limits st (Ev u)) _ (go st.top.begun refl may)
    where
      go : (o : Option Begun) → st.top.begun ≡ o → MayPick world st.top o (Ev u)
          → OutcomeOk (acted world st (Ev u) (run world.rows (does world st.top o (Ev u)) st.store))
      go None e may = absurd may
      go (Some b) e may =
          let fixed = (sound_at world st.top.scene st.top.begun b e inv.kept.sound).fixed in
          event_acted st inv b e u (next_is st.top.scene b u may) (run world.rows (event_act world st.top.scene b u (at_node 0 b.root u.node)) st.store)
          (λ sized knows. event_in sized st.top.scene b fixed (stores_in st known b e sized knows) u st.store) (event_gives st.top.scene b fixed u st.store)
