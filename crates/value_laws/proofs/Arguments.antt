-- A frame holds arguments until its body's block is entered, of the sizes of its parameters.
use Rattle.std.proofs.Common.{◌≡◌, ℕ, suc, ◌+◌, Bool, true, false, ◌&&◌, if◌then◌else◌, List, [], ◌∷◌, map, Option, Some, None}
use Rattle.std.proofs.Common.{is_some, refl, sym, ap, ◌∙◌, subst}
use Rattle.std.specs.Prelude.{slice_get, is_none}
use Rattle.ub_base.specs.declared.clause.Cause.{Cause}
use Rattle.ub_base.specs.declared.clause.Kind.TheVariants.{Val}
use Rattle.c_types.specs.Types.{CType, void, int, enumeration, pointer, array, struct, union, function, Params}
use Rattle.c_types.specs.Types as types
use Rattle.c_typed.specs.declared.tree.Place.{Place}
use Rattle.c_typed.specs.Tree.{size as count}
use Rattle.c_typed.specs.Order.{place, is_body}
use Rattle.mem_spec.specs.Store.{Store}
use Rattle.mem_spec.specs.Script.{Act, Done, Raised, Ended, Outside, Unplaced, run}
use Rattle.c_model.specs.Program.{Head, Call, Isolated, Expr, expr, Exprs, none, more, tree_of, Decl, Stmt, Stmts, Block, Function}
use Rattle.c_model.specs.Values.{Value, Nothing, later_values}
use Rattle.c_model.specs.World.{World, Limits}
use Rattle.c_model.specs.Moves.{Move, Stay, Start, End}
use Rattle.c_model.specs.Control.{Todo, Begin, Enter, Leave, Unwrite, Nothing_to_do, Go_to, Go_out, Go_on, Go_back, To_do, Rest, Round, Again, Test}
use Rattle.c_model.specs.Control.{Break_here, ready_work}
use Rattle.c_model.specs.Steps.{Scene, Local, Begun, Pick, Control, Ev, at_node, event_act, values_of, first_type, target, own_body, body_frame}
use Rattle.c_model.specs.Steps.{start_call, started, called_by, move_of, body_of, control_move, control_next}
use Rattle.c_model.specs.Steps.{does, move, next, ends_with}
use Rattle.c_model.specs.Runs.{Entry, State, Outcome, Refused, Raises, Over, No_row, Ends, Running, entry_of, back, moved, acted, step, within, limited}
use Rattle.c_model.specs.Runs.{limit_passed, depth_of, enter_passes, without_row, After, here, refused, last, more as goes_on, too_late}
use Rattle.c_model.specs.Runs.{start, started_run, stand, nothing_stands, main_frame, too_many, created_after, work_of}
use Rattle.c_model.specs.Claims.{ComesTo, starts as from_start, stops as from_stop, refuses as from_refused}
use Rattle.value_laws.specs.Sizes.{Sizes, type_of, ArePassed, ArgumentsFit, behind_first, ProgramFits}
use Rattle.value_laws.specs.Parameters.{FunctionTakes, parameters, AreTaken, AreKept, Passes, ObjectsFit, BodyTakes, ProgramTakes}
use Rattle.value_laws.proofs.Scripts.{Gave, run_gave}
use Rattle.value_laws.proofs.Acts.{keeps_size}
use Rattle.value_laws.proofs.Nodes.{node_fits, inside, OperandsFit, value_size, here_fits, later_fit}
use Rattle.value_laws.proofs.Frames.{IsFunction, function_there, body_there, BegunFits, Linked}
use Rattle.value_laws.proofs.Picks.{EventIs, event_gives}
use Rattle.value_laws.proofs.Orders.{StateFits, OutcomeFits, step_fits, start_fits}

module _ (size : Sizes) where
  pub none_taken : (params : Params) → AreTaken size params []
  none_taken types.none = tt
  none_taken (types.more constant ty params) = tt

  kept_taken : (params others : Params) (vs : List Value) → AreKept size params others → AreTaken size params vs → AreTaken size others vs
  kept_taken params others [] k t = none_taken others
  kept_taken types.none others (v ∷ vs) k t = absurd t
  kept_taken (types.more constant ty params) types.none (v ∷ vs) k t = absurd k
  kept_taken (types.more constant ty params) (types.more constant2 ty2 others) (v ∷ vs) k t =
      (keeps_size (size ty) (size ty2) v k.0 t.0, kept_taken params others vs k.1 t.1)

  module _ (world : World) where
    -- the arguments of a call
    passed_taken : (f : Scene) (given : Place → Option Value) (params : Params) (es : Exprs) (k : ℕ) → OperandsFit world f size given k es
        → ArePassed size params es → AreTaken size params (values_of world f given k es)
    passed_taken f given params none k h p = none_taken params
    passed_taken f given types.none (more e es) k h p = absurd p
    passed_taken f given (types.more constant ty params) (more e es) k h p = (
      keeps_size (size (type_of e)) (size ty) _ p.0 (value_size world f size given e k (here_fits world f size given e es k h)),
      passed_taken f given params es (k + count (tree_of e)) (later_fit world f size given e es k h) p.1,
    )

    -- what a frame does with its arguments
    pub data Waits (f : Local) : Type 0 where
      passed : f.arguments ≡ [] → Waits f
      waiting : (params : Params) (number : ℕ) (ds : List Decl) (ss : Stmts) → f.todo ≡ To_do (Block number ds ss) ∷ [] → f.begun ≡ None
          → AreTaken size params f.arguments → ObjectsFit size params ds → Waits f
      idle : f.todo ≡ [] → f.begun ≡ None → Waits f

    begun_passed : (f : Local) (b : Begun) → f.begun ≡ Some b → Waits f → f.arguments ≡ []
    begun_passed f b e (passed h) = h
    begun_passed f b e (waiting params number ds ss t n a o) = absurd (cc)
    begun_passed f b e (idle t n) = absurd (cc)

    module _ (f : Local) where
      control_passed : (todo : Todo) → f.arguments ≡ [] → (control_next world f todo).arguments ≡ []
      control_passed [] e = e
      control_passed (Enter b ds ∷ rest) e = refl
      control_passed (Leave b ds ∷ rest) e = e
      control_passed (Begin x what ∷ rest) e = e
      control_passed (Go_to k ∷ rest) e = e
      control_passed (Go_out ∷ rest) e = e
      control_passed (Go_on ∷ rest) e = e
      control_passed (Go_back ∷ rest) e = e
      control_passed (Unwrite d ∷ rest) e = e
      control_passed (Nothing_to_do ∷ rest) e = e
      control_passed (To_do s ∷ rest) e = e
      control_passed (Rest ss ∷ rest) e = e
      control_passed (Round test step s ∷ rest) e = e
      control_passed (Again x s ∷ rest) e = e
      control_passed (Test test step s ∷ rest) e = e
      control_passed (Break_here ∷ rest) e = e

      control_waits : Waits f → Waits (control_next world f (ready_work f.todo))
      control_waits (passed e) = passed (control_passed (ready_work f.todo) e)
      control_waits (waiting params number ds ss t n a o) = subst (λ z. Waits (control_next world f (ready_work z))) (sym t) (passed refl)
      control_waits (idle t n) = subst (λ z. Waits (control_next world f (ready_work z))) (sym t) (idle t n)

    abbrev pub ArePast : List (Local × Place) → Type 0
    ArePast [] = Unit {0}
    ArePast (h ∷ hs) = (h.0.arguments ≡ []) × ArePast hs

    pub record StateWaits (st : State) : Type 0 where
      pub top : Waits st.top
      pub held : ArePast st.held

    abbrev pub OutcomeWaits : Outcome → Type 0
    OutcomeWaits (Running st) = StateWaits st
    OutcomeWaits o = Unit {0}

    within_waits : (c : Option (Cause × ℕ)) (o : Outcome) → OutcomeWaits o → OutcomeWaits (within c o)
    within_waits None o h = h
    within_waits (Some c) o h = tt

    limited_waits : (limits : Limits) (o : Outcome) → OutcomeWaits o → OutcomeWaits (limited limits o)
    limited_waits limits (Running st) h = within_waits (limit_passed limits (depth_of st.top st.held) st.store) (Running st) h
    limited_waits limits Refused h = tt
    limited_waits limits (Raises c trace) h = tt
    limited_waits limits (Over c n) h = tt
    limited_waits limits No_row h = tt
    limited_waits limits (Ends n out trace) h = tt

    without_waits : (st : State) (p : Pick) → OutcomeWaits (without_row world st p)
    without_waits st p = within_waits _ No_row tt

    next_passed : (f : Local) (o : Option Begun) (u : Place) (v : Value) → f.arguments ≡ [] → (next world f o (Ev u) v).arguments ≡ []
    next_passed f None u v e = e
    next_passed f (Some b) u v e = e

    back_waits : (hs : List (Local × Place)) → ArePast hs → (v : Value) (s : Store) (trace : List Entry) → OutcomeWaits (back world hs v s trace)
    back_waits [] h v s trace = tt
    back_waits (g ∷ hs) h v s trace = record { top = passed (next_passed g.0 g.0.begun g.1 v h.0); held = h.1 }

    abbrev StartWaits : Move Local → Type 0
    StartWaits (Start g) = Waits g
    StartWaits m = Unit {0}

    module _ (ok : ProgramFits size world) (main_values : List Value) (takes : ProgramTakes size world main_values) where
      block_waits : (params : Params) (s : Stmt) (g : Local) → BodyTakes size params s → g.todo ≡ To_do s ∷ [] → g.begun ≡ None
          → AreTaken size params g.arguments
          → Waits g
      block_waits params (Block number ds ss) g o t n a = waiting params number ds ss t n a o
      block_waits params s g o t n a = absurd o

      -- a frame that an event starts
      module _ (f : Scene) (k : ℕ) where
        defined : (fun : Function) (s : Stmt) → own_body fun ≡ Some s → fun.body ≡ Some s
        defined fun s e = go (is_some fun.library) e
          where
            go : (c : Bool) → (if c then None else fun.body) ≡ Some s → fun.body ≡ Some s
            go true e = absurd (cc)
            go false e = e

        frame_waits : (c : ℕ × Function) (params : Params) (vs : List Value) → AreTaken size params vs
            → ((s : Stmt) → c.1.body ≡ Some s → BodyTakes size params s) → (o : Option Stmt) → own_body c.1 ≡ o
            → StartWaits (body_frame world f k c.0 vs o)
        frame_waits c params vs t g None e = tt
        frame_waits c params vs t g (Some s) e = block_waits params s _ (g s (defined c.1 s e)) refl refl t

        call_taken : (ty by : CType) (given : Place → Option Value) (es : Exprs) (n : ℕ) → OperandsFit world f size given n es → ArgumentsFit size by es
            → Passes size by ty → AreTaken size (parameters ty) (values_of world f given n es)
        call_taken ty (function result params false) given es n h p q =
            kept_taken params (parameters ty) (values_of world f given n es) q (passed_taken f given params es n h p)
        call_taken ty (function result params true) given es n h p q = absurd q
        call_taken ty void given es n h p q = absurd q
        call_taken ty (int kind) given es n h p q = absurd q
        call_taken ty (enumeration tag) given es n h p q = absurd q
        call_taken ty (pointer c t) given es n h p q = absurd q
        call_taken ty (array c t m) given es n h p q = absurd q
        call_taken ty (struct tag) given es n h p q = absurd q
        call_taken ty (union tag) given es n h p q = absurd q

        passes_by : (fun : Function) (s : Stmt) → FunctionTakes size world fun s → (by : CType) → IsFunction size world by → world.agree fun.ty by ≡ true
            → Passes size by fun.ty
        passes_by fun s t (function result params variadic) i h = t.agrees result params variadic h
        passes_by fun s t void i h = absurd i
        passes_by fun s t (int kind) i h = absurd i
        passes_by fun s t (enumeration tag) i h = absurd i
        passes_by fun s t (pointer c u) i h = absurd i
        passes_by fun s t (array c u m) i h = absurd i
        passes_by fun s t (struct tag) i h = absurd i
        passes_by fun s t (union tag) i h = absurd i

        behind_taken : (ty by : CType) (given : Place → Option Value) (es : Exprs) (n : ℕ) → OperandsFit world f size given n es
            → ArgumentsFit size by (behind_first es) → Passes size by ty → AreTaken size (parameters ty) (later_values (values_of world f given n es))
        behind_taken ty by given none n h p q = none_taken (parameters ty)
        behind_taken ty by given (more e es) n h p q = call_taken ty by given es (n + count (tree_of e)) (later_fit world f size given e es n h) p q

        -- the call of a function
        call_waits : (given : Place → Option Value) (es : Exprs) (n : ℕ) → OperandsFit world f size given n es
            → ArgumentsFit size (target (first_type es)) (behind_first es) → (d : Bool) → Linked size world (Call d) es (values_of world f given n es)
            → (o : Option (ℕ × Function)) → called_by world (values_of world f given n es) ≡ o
            → StartWaits (start_call world f k (later_values (values_of world f given n es)) o)
        call_waits given es n h p d link None e = tt
        call_waits given es n h p d link (Some c) e = go (own_body c.1) refl
          where
            there : slice_get world.program.functions c.0 ≡ Some c.1
            there = function_there world.program.functions _ c e

            vs : List Value
            vs = later_values (values_of world f given n es)

            go : (o : Option Stmt) → own_body c.1 ≡ o → StartWaits (body_frame world f k c.0 vs o)
            go None q = tt
            go (Some s) q =
                let t = takes.functions c.0 c.1 s there (defined c.1 s q) in
                frame_waits c (parameters c.1.ty) vs
                (behind_taken c.1.ty (target (first_type es)) given es n h p (passes_by c.1 s t (target (first_type es)) (link c e).0 (link c e).1))
                (λ r w. (takes.functions c.0 c.1 r there w).objects) (Some s) q

      module _ (f : Scene) (b : Begun) (result : Option ℕ) (fits : BegunFits size world result b) (u : Place) where
        operands_fit : (h : Head) (ty : CType) (line : ℕ) (es : Exprs) → at_node 0 b.root u.node ≡ Some (expr h ty line es)
            → OperandsFit world f size b.given (suc u.node) es
        operands_fit h ty line es q = λ m e v there g. fits.values (place m Val) e v (inside h ty line es u.node m e there b.root 0 q) g

        started_waits : (h : Head) (ty : CType) (line : ℕ) (es : Exprs) → at_node 0 b.root u.node ≡ Some (expr h ty line es)
            → Linked size world h es (values_of world f b.given (suc u.node) es) → StartWaits
            (started world f u.node h (values_of world f b.given (suc u.node) es))
        started_waits (Call d) ty line es q link =
            call_waits f u.node b.given es (suc u.node) (operands_fit (Call d) ty line es q)
            (node_fits size b.root 0 u.node (expr (Call d) ty line es) fits.root q).0.1 d link _ refl
        started_waits (Isolated e) ty line es q link = passed refl
        started_waits h ty line es q link = tt

        event_waits : (o : Option Expr) → at_node 0 b.root u.node ≡ o → (v : Value) → EventIs size world f b u o v → StartWaits (move_of world f b u o)
        event_waits None q v k = tt
        event_waits (Some (expr h ty line es)) q v k = go (is_body u.kind) refl
          where
            go : (c : Bool) → is_body u.kind ≡ c → StartWaits (if c then started world f u.node h (values_of world f b.given (suc u.node) es) else Stay)
            go true e = started_waits h ty line es q (k.1 e)
            go false e = tt

      module _ (st : State) (fits : StateFits size world st) (waits : StateWaits st) where
        control_moved : (o : Option Begun) → st.top.begun ≡ o → (v : Value) (s : Store) (trace : List Entry)
            → OutcomeWaits (moved world st Control (move world st.top o Control) v s trace)
        control_moved None e v s trace = go (control_move world (ready_work st.top.todo))
          where
            go : (m : Move Local) → OutcomeWaits (moved world st Control m v s trace)
            go Stay =
                subst (λ z. OutcomeWaits (Running (record { top = next world st.top z Control v; held = st.held; store = s; trace = trace }))) (sym e)
                (record { top = control_waits st.top waits.top; held = waits.held })
            go (Start l) = tt
            go End = back_waits st.held waits.held v s trace
        control_moved (Some b) e v s trace = go (if is_none st.top.function && ends_with world (ready_work st.top.todo) then End else Stay)
          where
            go : (m : Move Local) → OutcomeWaits (moved world st Control m v s trace)
            go Stay =
                subst (λ z. OutcomeWaits (Running (record { top = next world st.top z Control v; held = st.held; store = s; trace = trace }))) (sym e)
                (record { top = passed (begun_passed st.top b e waits.top); held = waits.held })
            go (Start l) = tt
            go End = back_waits st.held waits.held v s trace

        control_acted : (a : Act Value) → OutcomeWaits (acted world st Control a)
        control_acted (Done v is s) = limited_waits world.limits _ (control_moved st.top.begun refl v s (entry_of world st.top Control is ∷ st.trace))
        control_acted (Raised c) = tt
        control_acted (Ended n is s) = tt
        control_acted (Outside c n) = tt
        control_acted Unplaced = without_waits st Control

        module _ (b : Begun) (e : st.top.begun ≡ Some b) (u : Place) where
          event_moved : (m : Move Local) → StartWaits m → (v : Value) (s : Store) (trace : List Entry) → OutcomeWaits (moved world st (Ev u) m v s trace)
          event_moved Stay w v s trace =
              subst (λ z. OutcomeWaits (Running (record { top = next world st.top z (Ev u) v; held = st.held; store = s; trace = trace }))) (sym e)
              (record { top = passed (begun_passed st.top b e waits.top); held = waits.held })
          event_moved (Start g) w v s trace = record { top = w; held = (begun_passed st.top b e waits.top, waits.held) }
          event_moved End w v s trace = back_waits st.held waits.held v s trace

          event_acted : (a : Act Value) → Gave world.rows (EventIs size world st.top.scene b u (at_node 0 b.root u.node)) a
              → OutcomeWaits (acted world st (Ev u) a)
          event_acted (Done v is s) g =
              limited_waits world.limits _
              (subst (λ z. OutcomeWaits (moved world st (Ev u) (move world st.top z (Ev u)) v s (entry_of world st.top (Ev u) is ∷ st.trace))) (sym e)
              (event_moved _ (event_waits st.top.scene b fits.result (fits.top.begun b e) u (at_node 0 b.root u.node) refl v g) v s _))
          event_acted (Raised c) g = tt
          event_acted (Ended n is s) g = tt
          event_acted (Outside c n) g = tt
          event_acted Unplaced g = without_waits st (Ev u)

        nothing_acted : (u : Place) → st.top.begun ≡ None → OutcomeWaits (acted world st (Ev u) (Done Nothing [] st.store))
        nothing_acted u e =
            limited_waits world.limits (moved world st (Ev u) (move world st.top st.top.begun (Ev u)) Nothing st.store trace)
            (subst (λ z. OutcomeWaits (moved world st (Ev u) (move world st.top z (Ev u)) Nothing st.store trace)) (sym e)
            (subst (λ z. OutcomeWaits (Running (record { top = next world st.top z (Ev u) Nothing; held = st.held; store = st.store; trace = trace }))) (sym e)
            (record { top = waits.top; held = waits.held })))
          where
            trace : List Entry
            trace = entry_of world st.top (Ev u) [] ∷ st.trace

        step_waits : (p : Pick) → OutcomeWaits (step world st p)
        step_waits Control = within_waits (enter_passes world.limits st Control) _ (control_acted _)
        step_waits (Ev u) = within_waits (enter_passes world.limits st (Ev u)) _ (go st.top.begun refl)
          where
            go : (o : Option Begun) → st.top.begun ≡ o → OutcomeWaits (acted world st (Ev u) (run world.rows (does world st.top o (Ev u)) st.store))
            go None e = nothing_acted u e
            go (Some b) e =
                event_acted b e u _
                (run_gave world.rows (EventIs size world st.top.scene b u (at_node 0 b.root u.node))
                (event_act world st.top.scene b u (at_node 0 b.root u.node)) st.store
                (event_gives size world ok fits.result st.top.scene b (fits.top.begun b e) u (at_node 0 b.root u.node) refl))

      -- an order
      order_waits : (st : State) (ps : List Pick) (o : Outcome) → StateFits size world st → StateWaits st → After world st ps o → OutcomeWaits o
      order_waits _ _ _ h w (here st) = w
      order_waits _ _ _ h w (refused st p ps r) = tt
      order_waits _ _ _ h w (last st p may) = step_waits st h w p
      order_waits _ _ _ h w (goes_on st next' p q ps o may e rest) =
          order_waits next' (q ∷ ps) o (subst (OutcomeFits size world) e (step_fits size world ok st h p)) (subst OutcomeWaits e (step_waits st h w p)) rest
      order_waits _ _ _ h w (too_late st p q ps may r) = tt

      main_waits : Waits (main_frame world main_values)
      main_waits = go (body_of world (Some world.program.main)) refl (slice_get world.program.functions world.program.main) refl
        where
          go : (o : Option Stmt) → body_of world (Some world.program.main) ≡ o → (q : Option Function)
              → slice_get world.program.functions world.program.main ≡ q
              → Waits (main_frame world main_values)
          go None e q there = idle (ap (work_of world) e) refl
          go (Some s) e None there = absurd (let r : body_of world (Some world.program.main) ≡ None = rw there in cc)
          go (Some s) e (Some fun) there =
              let b = sym (body_there world world.program.main fun there) ∙ e in
              block_waits (parameters fun.ty) s _ (takes.functions world.program.main fun s there b).objects (ap (work_of world) e) refl (takes.main fun there)

      started_waits_run : (a : Act Value) → OutcomeWaits (started_run world a main_values)
      started_waits_run (Done v is s) = limited_waits world.limits (Running (record { top = main_frame world main_values; held = []; store = s; trace = [] }))
          (record { top = main_waits; held = tt })
      started_waits_run (Outside c n) = tt
      started_waits_run (Raised c) = tt
      started_waits_run (Ended n is s) = tt
      started_waits_run Unplaced = tt

      start_waits : (input : List ℕ) → OutcomeWaits (start world input main_values)
      start_waits input = within_waits (too_many world.limits (created_after 0 (map (λ o. o.decl) world.program.standing))) _
          (started_waits_run (run world.rows (stand world world.program.standing) (nothing_stands world input)))

      pub comes_waits : (input : List ℕ) (ps : List Pick) (o : Outcome) → ComesTo world input main_values ps o → OutcomeWaits o
      comes_waits input _ _ (from_start st ps o e after) =
          order_waits st ps o (subst (OutcomeFits size world) e (start_fits size world ok input main_values)) (subst OutcomeWaits e (start_waits input)) after
      comes_waits input _ _ (from_stop o e h) = subst OutcomeWaits e (start_waits input)
      comes_waits input _ _ (from_refused p ps h) = tt
