-- What the definitions do at the body of a call of a function that the program defines.
use Rattle.std.proofs.Common.{◌≡◌, ℕ, suc, ◌+◌, ◌<◌, ◌≤◌, Bool, true, false, refl, sym, ap, ◌∙◌, subst, arith, List, [], ◌∷◌, Option, Some, None}
use Rattle.std.specs.Prelude.{◌||◌, is_some, if◌then◌else◌, nat_lt}
use Rattle.std.proofs.lemmas.Bool.Decides.{nat_tests}
use Rattle.ub_base.specs.declared.clause.Cause.TheVariants.{Depth}
use Rattle.ub_base.specs.declared.clause.Clause.TheVariants.{IncompatibleCall, InvalidPointer}
use Rattle.ub_base.specs.declared.clause.Kind.TheVariants.{Body}
use Rattle.ub_base.specs.declared.names.Event.{Event}
use Rattle.c_types.specs.declared.library.LibFunc.{LibFunc}
use Rattle.c_types.specs.Types.{CType}
use Rattle.c_typed.specs.declared.tree.Place.{Place}
use Rattle.c_typed.specs.Order.{place}
use Rattle.c_model.specs.Moves.{Move, Start}
use Rattle.c_model.specs.Program.{Call, expr, Exprs, Function, Stmt}
use Rattle.c_model.specs.Runs.{Over, Running, State, acted, depth_of, entry_of, limit_passed, limited, moved, step, within}
use Rattle.c_model.specs.Steps.{
  Begun,
  Ev,
  Local,
  argument_types,
  at_node,
  body_frame,
  call_by,
  call_through,
  called_by,
  does,
  event_act,
  event_of,
  first_type,
  function_type,
  library_act,
  move,
  move_of,
  own_body,
  start_call,
  target,
  values_of,
}
use Rattle.c_model.specs.Values.{Nothing, Value, later_values}
use Rattle.c_model.specs.World.{World}
use Rattle.mem_spec.specs.Script.{Give, Script, require, run, ◌>>◌}
use Rattle.mem_spec.specs.Store.{Store}
use Rattle.run_answers.specs.Answering.{IsWithin}
use Rattle.run_answers.specs.Starting.{FunctionSteps, IsCallOf, function_frame, started_state}
use Rattle.run_answers.proofs.Started.{place_is}

-- ---- what the body of a call checks, and that it does nothing else
some_defined : (b : Option Stmt) (body : Stmt) (l : Option LibFunc) → b ≡ Some body → (is_some b || is_some l) ≡ true
some_defined b body l is = ap (λ (o : Option Stmt). is_some o || is_some l) is

checked : (world : World) (who : Event) (through : CType) (ts : List CType) (vs : List Value) (number : ℕ) (called : Function) (body : Stmt) →
    called.body ≡ Some body → called.library ≡ None → world.agree called.ty through ≡ true →
    call_by world who through ts vs (Some (number, called)) ≡ Give Nothing
checked world who through ts vs number called body defines none agrees =
    ap (λ (b : Bool). require b InvalidPointer
    >> (require (world.agree called.ty through) IncompatibleCall >> library_act world who ts vs called.library))
    (some_defined called.body body called.library defines)
    ∙ ap (λ (b : Bool). require b IncompatibleCall >> library_act world who ts vs called.library) agrees
    ∙ ap (library_act world who ts vs) none

own_so : (called : Function) (body : Stmt) → called.body ≡ Some body → called.library ≡ None → own_body called ≡ Some body
own_so called body defines none = ap (λ (l : Option LibFunc). if is_some l then None else called.body) none ∙ defines

-- ---- one frame more
pass_by : {A : Type 0} (test : Bool) (x : A) (rest : Option A) → test ≡ false → (if test then Some x else rest) ≡ rest
pass_by true x rest is = absurd (cc)
pass_by false x rest is = refl

pass_rest : {A : Type 0} (test : Bool) (x : A) (rest : Option A) → (if test then Some x else rest) ≡ None → rest ≡ None
pass_rest true x rest is = absurd (cc)
pass_rest false x rest is = is

one_fits : (limit d : ℕ) → d < limit → nat_lt limit (1 + d) ≡ false
one_fits limit d lt = grind (arith, nat_tests, lt)

pass_first : {A : Type 0} (test : Bool) (x : A) (rest : Option A) → test ≡ true → (if test then Some x else rest) ≡ Some x
pass_first true x rest is = refl
pass_first false x rest is = absurd (cc)

one_too_many : (limit d : ℕ) → limit ≤ d → nat_lt limit (1 + d) ≡ true
one_too_many limit d le = grind (arith, nat_tests, le)

one_more_within : (world : World) (d : ℕ) (s : Store) → d < world.limits.depth → limit_passed world.limits d s ≡ None →
    limit_passed world.limits (1 + d) s ≡ None
one_more_within world d s lt is =
    pass_by (nat_lt world.limits.depth (1 + d)) _ _ (one_fits world.limits.depth d lt)
    ∙ pass_rest (nat_lt world.limits.depth d) _ _ is

-- ---- the step
module _ (world : World) (st : State) (e : Begun) (n number : ℕ) (body : Stmt) (begun : st.top.begun ≡ Some e) (discarded : Bool) (ty : CType) (line : ℕ)
    (os : Exprs) (node : at_node 0 e.root n ≡ Some (expr (Call discarded) ty line os)) (through : CType)
    (typed : function_type (target (first_type os)) ≡ Some through) (called : Function)
    (calls : called_by world (values_of world st.top.scene e.given (suc n) os) ≡ Some (number, called)) (agrees : world.agree called.ty through ≡ true)
    (none : called.library ≡ None) (defines : called.body ≡ Some body) where
  abbrev u : Place
  u = place n Body

  abbrev all : List Value
  all = values_of world st.top.scene e.given (suc n) os

  acts : event_act world st.top.scene e u (at_node 0 e.root n) ≡ Give Nothing
  acts =
      ap (event_act world st.top.scene e u) node
      ∙ ap (λ (o : Option CType). call_through world (event_of world st.top.scene u) o (argument_types os) all) typed
      ∙ ap (call_by world (event_of world st.top.scene u) through (argument_types os) (later_values all)) calls
      ∙ checked world (event_of world st.top.scene u) through (argument_types os) (later_values all) number called body defines none agrees

  moves : move_of world st.top.scene e u (at_node 0 e.root n) ≡ Start (function_frame st.top.scene n number body (later_values all))
  moves =
      ap (move_of world st.top.scene e u) node
      ∙ ap (start_call world st.top.scene n (later_values all)) calls
      ∙ ap (body_frame world st.top.scene n number (later_values all)) (own_so called body defines none)

  abbrev then_state : State
  then_state = started_state world st u (function_frame st.top.scene n number body (later_values all))

  call_steps : step world st (Ev u) ≡ limited world.limits (Running then_state)
  call_steps =
      let trace = entry_of world st.top (Ev u) [] ∷ st.trace in
      ap (λ (b : Option Begun). acted world st (Ev u) (run world.rows (does world st.top b (Ev u)) st.store)) begun
      ∙ ap (λ (p : Script Value). acted world st (Ev u) (run world.rows p st.store)) acts
      ∙ ap (λ (b : Option Begun). limited world.limits (moved world st (Ev u) (move world st.top b (Ev u)) Nothing st.store trace)) begun
      ∙ ap (λ (k : Move Local). limited world.limits (moved world st (Ev u) k Nothing st.store trace)) moves

  pub call_runs : IsWithin world st → depth_of st.top st.held < world.limits.depth → step world st (Ev u) ≡ Running then_state
  call_runs is lt =
      call_steps
      ∙ ap (λ (l : Option _). within l (Running then_state)) (one_more_within world (depth_of st.top st.held) st.store lt is)

  pub call_passes : world.limits.depth ≤ depth_of st.top st.held → step world st (Ev u) ≡ Over Depth (1 + depth_of st.top st.held)
  call_passes le =
      call_steps
      ∙ ap (λ (l : Option _). within l (Running then_state))
      (pass_first (nat_lt world.limits.depth (1 + depth_of st.top st.held)) _ _ (one_too_many world.limits.depth (depth_of st.top st.held) le))

by_place : (world : World) (st : State) (e : Begun) (n number : ℕ) (body : Stmt) (vs : List Value) → st.top.begun ≡ Some e →
    IsCallOf world st.top.scene e (place n Body) number body vs → IsWithin world st → depth_of st.top st.held < world.limits.depth →
    step world st (Ev (place n Body)) ≡ Running (started_state world st (place n Body) (function_frame st.top.scene n number body vs))
by_place world st e n number body vs begun c is lt =
    call_runs world st e n number body begun c.discarded c.ty c.line c.operands c.node c.through c.typed c.called c.calls c.agrees c.none c.defines is lt
    ∙ ap (λ (ws : List Value). Running (started_state world st (place n Body) (function_frame st.top.scene n number body ws))) c.passes

pub function_steps : FunctionSteps
function_steps world st e u number body vs begun c is lt =
    subst (λ (v : Place). step world st (Ev v) ≡ Running (started_state world st v (function_frame st.top.scene u.node number body vs)))
    (sym (place_is u Body c.kind))
    (by_place world st e u.node number body vs begun
    (subst (λ (v : Place). IsCallOf world st.top.scene e v number body vs) (place_is u Body c.kind) c) is lt)

passes_by_place : (world : World) (st : State) (e : Begun) (n number : ℕ) (body : Stmt) (vs : List Value) → st.top.begun ≡ Some e →
    IsCallOf world st.top.scene e (place n Body) number body vs → world.limits.depth ≤ depth_of st.top st.held →
    step world st (Ev (place n Body)) ≡ Over Depth (1 + depth_of st.top st.held)
passes_by_place world st e n number body vs begun c le =
    call_passes world st e n number body begun c.discarded c.ty c.line c.operands c.node c.through c.typed c.called c.calls c.agrees c.none c.defines le

-- where as many frames are open as may be, the limit is passed
pub function_passes : (world : World) (st : State) (e : Begun) (u : Place) (number : ℕ) (body : Stmt) (vs : List Value) → st.top.begun ≡ Some e →
    IsCallOf world st.top.scene e u number body vs → world.limits.depth ≤ depth_of st.top st.held →
    step world st (Ev u) ≡ Over Depth (1 + depth_of st.top st.held)
function_passes world st e u number body vs begun c le =
    subst (λ (v : Place). step world st (Ev v) ≡ Over Depth (1 + depth_of st.top st.held)) (sym (place_is u Body c.kind))
    (passes_by_place world st e u.node number body vs begun
    (subst (λ (v : Place). IsCallOf world st.top.scene e v number body vs) (place_is u Body c.kind) c) le)
