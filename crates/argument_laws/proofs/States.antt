-- In each state of a run of a lawful program each frame has its arguments.
use Rattle.std.proofs.Common.{◌≡◌, ◌+◌, ℕ, suc, Bool, true, false, if◌then◌else◌, List, [], Option, Some, None, is_some, refl, sym, ap, ◌∙◌, subst}
use Rattle.std.specs.Prelude.{slice_get}
use Rattle.ub_base.specs.declared.clause.Kind.TheVariants.{Val}
use Rattle.ub_base.specs.declared.names.Event.{Event}
use Rattle.ub_base.specs.declared.names.Item.{Item}
use Rattle.c_types.specs.Types.{CType, void, int, enumeration, pointer, array, struct, union, function, Compatible, Signature}
use Rattle.c_typed.specs.declared.program.Program.{Program}
use Rattle.c_typed.specs.declared.tree.Place.{Place}
use Rattle.c_typed.specs.Order.{is_body, place}
use Rattle.c_typed.specs.Tree.{size as count}
use Rattle.mem_spec.specs.Script.{Done, Script, run}
use Rattle.mem_spec.specs.Store.{Store}
use Rattle.c_model.specs.Moves.{Move, Stay, Start}
use Rattle.c_model.specs.Program.{Call, Expr, expr, Exprs, none, more, Function, Head, Isolated, Stmt, tree_of}
use Rattle.c_model.specs.Runs.{Running, State, step}
use Rattle.c_model.specs.Nodes.{act_of}
use Rattle.c_model.specs.Steps.{Begun, Control, Ev, Local, Pick, Scene, at_node, body_frame, body_of, call_act, called_by, does, event_act, event_of}
use Rattle.c_model.specs.Steps.{first_type, move, move_of, next, operand_values, own_body, own_kind, start_call, started, target, values_of}
use Rattle.c_model.specs.Values.{Value, later_values, or_nothing}
use Rattle.c_model.specs.World.{World}
use Rattle.program_view.specs.View.{type_by}
use Rattle.static_laws.specs.LawfulSizes.{IsFunctionOf, IsProgramOf}
use Rattle.frame_laws.specs.Frames.{AreOrdered, IsScoped}
use Rattle.frame_laws.proofs.StateKeeps.{steps_ordered}
use Rattle.value_facts.specs.Constants.{EachOf}
use Rattle.value_facts.proofs.Steps.{has_gone, moved_keeps}
use Rattle.value_laws.specs.Layouts.{laid_out}
use Rattle.value_laws.specs.Parameters.{Passes, ProgramTakes, parameters}
use Rattle.value_laws.specs.Sizes.{ArgumentsFit, ProgramFits, Sizes, behind_first}
use Rattle.value_laws.proofs.Frames.{BegunFits, IsFunction, Linked, body_there, function_there}
use Rattle.value_laws.proofs.Nodes.{OperandsFit, inside, later_fit, node_fits}
use Rattle.value_laws.proofs.Orders.{OutcomeFits, StateFits, step_fits}
use Rattle.argument_laws.proofs.Counts.{CallCounts, CountsIf, ExprCounts}
use Rattle.argument_laws.proofs.Frames.{HasItsOwn, HaveTheirOwn, control_own, given_own, settled_own}
use Rattle.argument_laws.proofs.Given.{AreGiven, call_given}
use Rattle.argument_laws.proofs.Lawful.{made_counts}
use Rattle.argument_laws.proofs.Linked.{call_linked}
use Rattle.argument_laws.proofs.Nodes.{node_counts}

own_is : (c : Function) (s : Stmt) → own_body c ≡ Some s → c.body ≡ Some s
own_is c s e = go (is_some c.library) e
  where
    go : (b : Bool) → (if b then None else c.body) ≡ Some s → c.body ≡ Some s
    go true q = absurd (cc (q))
    go false q = q

same_function : (a b : Function) → Some a ≡ Some b → a ≡ b
same_function a b e = cc (e)

same_number : (a b : ℕ) → Some a ≡ Some b → a ≡ b
same_number a b e = cc (e)

-- what a program gives: its full expressions are lawful ones, it keeps the sizes of its types, and its names are in scope
pub record IsUsable (p : Program) (world : World) : Type 0 where
  pub made : IsProgramOf p world
  pub fits : ProgramFits (laid_out p.tags) world
  pub takes : ProgramTakes (laid_out p.tags) world []
  pub scoped : IsScoped world

module _ (p : Program) (world : World) (usable : IsUsable p world) where
  abbrev size : Sizes
  size = laid_out p.tags

  -- ---- bodies of functions
  body_nowhere : (n : ℕ) → slice_get world.program.functions n ≡ None → body_of world (Some n) ≡ None
  body_nowhere n e = rw e

  function_counts : (n : ℕ) (fun : Function) (s : Stmt) → slice_get world.program.functions n ≡ Some fun → fun.body ≡ Some s → EachOf ExprCounts s
  function_counts n fun s e q =
      let g = usable.made.functions n fun e in
      made_counts p g.signature s (g.body s q).made

  pub body_counts : (n : Option ℕ) (s : Stmt) → body_of world n ≡ Some s → EachOf ExprCounts s
  body_counts None s q = absurd (cc (q))
  body_counts (Some n) s q = go (slice_get world.program.functions n) refl
    where
      go : (o : Option Function) → slice_get world.program.functions n ≡ o → EachOf ExprCounts s
      go None e = absurd (let r = body_nowhere n e in cc (q, r))
      go (Some fun) e = function_counts n fun s e (sym (body_there world n fun e) ∙ q)

  -- ---- a frame that is started
  abbrev StartsOwn : Move Local → Type 0
  StartsOwn (Start g) = HasItsOwn size world g
  StartsOwn m = Unit {0}

  fresh_frame : (f : Scene) (k : ℕ) (c : ℕ × Function) (vs : List Value) → slice_get world.program.functions c.0 ≡ Some c.1 → (o : Option Stmt)
      → own_body c.1 ≡ o → ((s : Stmt) → c.1.body ≡ Some s → AreGiven size (parameters c.1.ty) vs) → StartsOwn (body_frame world f k c.0 vs o)
  fresh_frame f k c vs there None e given = tt
  fresh_frame f k c vs there (Some s) e given = record {
    todo = (function_counts c.0 c.1 s there (own_is c.1 s e), tt);
    begun = λ b q. absurd (cc (q));
    given = λ n fun shut is at.
        let here = sym there ∙ (ap (slice_get world.program.functions) (same_number c.0 n is) ∙ at) in
        subst (λ (g : Function). AreGiven size (parameters g.ty) vs) (same_function c.1 fun here) (given s (own_is c.1 s e));
  }

  agreed_types : (fun : Function) → IsFunctionOf p fun → (by : CType) → IsFunction size world by → world.agree fun.ty by ≡ true → Compatible fun.ty by
  agreed_types fun g (function r ps v) i h =
      let by : Signature = record { result = r; params = ps; variadic = v } in
      subst (λ (t : CType). Compatible t (type_by by)) (sym g.ty)
      (usable.made.agree g.signature by (subst (λ (t : CType). world.agree t (type_by by) ≡ true) g.ty h))
  agreed_types fun g void i h = absurd i
  agreed_types fun g (int k) i h = absurd i
  agreed_types fun g (enumeration tag) i h = absurd i
  agreed_types fun g (pointer c t) i h = absurd i
  agreed_types fun g (array c t n) i h = absurd i
  agreed_types fun g (struct tag) i h = absurd i
  agreed_types fun g (union tag) i h = absurd i

  passes_by : (n : ℕ) (fun : Function) (s : Stmt) → slice_get world.program.functions n ≡ Some fun → fun.body ≡ Some s → (by : CType)
      → IsFunction size world by → world.agree fun.ty by ≡ true → Passes size by fun.ty
  passes_by n fun s there b (function r ps v) i h = (usable.takes.functions n fun s there b).agrees r ps v h
  passes_by n fun s there b void i h = absurd i
  passes_by n fun s there b (int k) i h = absurd i
  passes_by n fun s there b (enumeration tag) i h = absurd i
  passes_by n fun s there b (pointer c t) i h = absurd i
  passes_by n fun s there b (array c t m) i h = absurd i
  passes_by n fun s there b (struct tag) i h = absurd i
  passes_by n fun s there b (union tag) i h = absurd i

  -- the arguments that a call passes
  behind_given : (f : Scene) (given : Place → Option Value) (fun : Function) (es : Exprs) (k : ℕ) → OperandsFit world f size given k es
      → ArgumentsFit size (target (first_type es)) (behind_first es) → CallCounts (target (first_type es)) (behind_first es)
      → IsFunction size world (target (first_type es)) → Passes size (target (first_type es)) fun.ty → Compatible fun.ty (target (first_type es))
      → AreGiven size (parameters fun.ty) (later_values (values_of world f given k es))
  behind_given f given fun none k fit a m i q c = absurd i
  behind_given f given fun (more e es) k fit a m i q c =
      call_given size world f given fun.ty (target (first_type (more e es))) es (k + count (tree_of e)) (later_fit world f size given e es k fit) a m q c

  module _ (f : Scene) (b : Begun) (result : Option ℕ) (fits : BegunFits size world result b) (counts : ExprCounts b.root) (u : Place) where
    call_starts : (d : Bool) (ty : CType) (line : ℕ) (es : Exprs) → at_node 0 b.root u.node ≡ Some (expr (Call d) ty line es)
        → Linked size world (Call d) es (values_of world f b.given (suc u.node) es) → (o : Option (ℕ × Function))
        → called_by world (values_of world f b.given (suc u.node) es) ≡ o
        → StartsOwn (start_call world f u.node (later_values (values_of world f b.given (suc u.node) es)) o)
    call_starts d ty line es q link None e = tt
    call_starts d ty line es q link (Some c) e =
        let there = function_there world.program.functions _ c e in
        let l = link c e in
        let fit : OperandsFit world f size b.given (suc u.node) es =
        λ m x v at g. fits.values (place m Val) x v (inside (Call d) ty line es u.node m x at b.root 0 q) g in
        let counted : CountsIf (Some (expr (Call d) ty line es)) = subst CountsIf q (node_counts 0 b.root u.node counts) in
        fresh_frame f u.node c _ there (own_body c.1) refl (λ s body.
        behind_given f b.given c.1 es (suc u.node) fit (node_fits size b.root 0 u.node (expr (Call d) ty line es) fits.root q).0.1 counted.0 l.0
        (passes_by c.0 c.1 s there body (target (first_type es)) l.0 l.1)
        (agreed_types c.1 (usable.made.functions c.0 c.1 there) (target (first_type es)) l.0 l.1))

    -- a body that ran starts such a frame
    module _ (who : Event) (s t : Store) (v : Value) (is : List Item) where
      head_starts : (h : Head) (ty : CType) (line : ℕ) (es : Exprs) → at_node 0 b.root u.node ≡ Some (expr h ty line es)
          → run world.rows (call_act world who h es (values_of world f b.given (suc u.node) es)) s ≡ Done v is t
          → StartsOwn (started world f u.node h (values_of world f b.given (suc u.node) es))
      head_starts (Call d) ty line es q ran =
          call_starts d ty line es q (call_linked size world who d es (values_of world f b.given (suc u.node) es) s t v is ran)
          (called_by world (values_of world f b.given (suc u.node) es)) refl
      head_starts (Isolated x) ty line es q ran =
          let counted : CountsIf (Some (expr (Isolated x) ty line es)) = subst CountsIf q (node_counts 0 b.root u.node counts) in
          record { todo = ((counted.1.0, tt), tt); begun = λ c r. absurd (cc (r)); given = λ n fun e r at. absurd (cc (r)) }
      head_starts h ty line es q ran = tt

    move_starts : (o : Option Expr) → at_node 0 b.root u.node ≡ o → (s t : Store) (v : Value) (is : List Item)
        → run world.rows (event_act world f b u o) s ≡ Done v is t → StartsOwn (move_of world f b u o)
    move_starts None q s t v is ran = tt
    move_starts (Some (expr h ty line es)) q s t v is ran = go (is_body u.kind) ran
      where
        vs : List Value
        vs = values_of world f b.given (suc u.node) es

        act : Script Value
        act = act_of world.rows (event_of world f u) h (target (first_type es)) u.kind (operand_values world f b.given (suc u.node) h es)
            (or_nothing (b.given (place u.node (own_kind u.kind))))

        go : (c : Bool) → run world.rows (if c then call_act world (event_of world f u) h es vs else act) s ≡ Done v is t
            → StartsOwn (if c then started world f u.node h vs else Stay)
        go true r = head_starts (event_of world f u) s t v is h ty line es q r
        go false r = tt

  event_starts : (st : State) → StateFits size world st → HasItsOwn size world st.top → (o : Option Begun) → st.top.begun ≡ o → (u : Place) (v : Value)
      (is : List Item) (s : Store) → run world.rows (does world st.top o (Ev u)) st.store ≡ Done v is s → (g : Local)
      → move world st.top o (Ev u) ≡ Start g → HasItsOwn size world g
  event_starts st fits own None e u v is s ran g q = absurd (cc (q))
  event_starts st fits own (Some b) e u v is s ran g q =
      subst StartsOwn q
      (move_starts st.top.scene b fits.result (fits.top.begun b e) (own.begun b e).0 u (at_node 0 b.root u.node) refl st.store s v is ran)

  -- ---- the frame behind a pick
  frame_on : (f : Local) (hs : List (Local × Place)) → AreOrdered world f hs → HasItsOwn size world f → (o : Option Begun) → f.begun ≡ o → (q : Pick)
      (v : Value) → move world f o q ≡ Stay → HasItsOwn size world (next world f o q v)
  frame_on f hs ordered h None e Control v stays = control_own size world f h (body_counts f.function) hs usable.scoped ordered e stays
  frame_on f hs ordered h None e (Ev u) v stays = h
  frame_on f hs ordered h (Some b) e Control v stays = settled_own size world f h b e
  frame_on f hs ordered h (Some b) e (Ev u) v stays = given_own size world f h b e u v

  frame_back : (f : Local) → HasItsOwn size world f → (o : Option Begun) → f.begun ≡ o → (u : Place) (v : Value)
      → HasItsOwn size world (next world f o (Ev u) v)
  frame_back f h None e u v = h
  frame_back f h (Some b) e u v = given_own size world f h b e u v

  -- what a state keeps
  pub record KeepsOwn (st : State) : Type 0 where
    pub fits : StateFits size world st
    pub ordered : AreOrdered world st.top st.held
    pub top : HasItsOwn size world st.top
    pub held : HaveTheirOwn size world st.held

  abbrev FramesOwn : State → Type 0
  FramesOwn st = HasItsOwn size world st.top × HaveTheirOwn size world st.held

  frames_kept : (st after : State) (q : Pick) → KeepsOwn st → step world st q ≡ Running after → FramesOwn after
  frames_kept st after q k e =
      let g = has_gone world st q after e in
      moved_keeps world st g.value g.store _ FramesOwn q (move world st.top st.top.begun q)
      (λ stays. (frame_on st.top st.held k.ordered k.top st.top.begun refl q g.value stays, k.held))
      (λ u f is m. (
        event_starts st k.fits k.top st.top.begun refl u g.value g.items g.store
            (subst (λ (z : Pick). run world.rows (does world st.top st.top.begun z) st.store ≡ Done g.value g.items g.store) is g.ran) f
            (subst (λ (z : Pick). move world st.top st.top.begun z ≡ Start f) is m),
        (k.top, k.held),
      ))
      (λ ends below rest is. (let h = subst (HaveTheirOwn size world) is k.held in (frame_back below.0 h.0 below.0.begun refl below.1 g.value, h.1)))
      after g.moved_to

  pub step_keeps : (st after : State) (q : Pick) → KeepsOwn st → step world st q ≡ Running after → KeepsOwn after
  step_keeps st after q k e =
      let frames = frames_kept st after q k e in
      record {
        fits = subst (OutcomeFits size world) e (step_fits size world usable.fits st k.fits q);
        ordered = steps_ordered world st after q usable.scoped k.ordered e;
        top = frames.0;
        held = frames.1;
      }
