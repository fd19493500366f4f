-- A run holds small values from its start on.
use Rattle.std.proofs.Common.{arith, ◌≡◌, ◌≤◌, ℕ, suc, ◌==◌, Bool, true, false, if◌then◌else◌, List, [], ◌∷◌, Option, Some, None, is_some}
use Rattle.std.proofs.Common.{refl, sym, ap, subst, ◌∙◌, slice_get}
use Rattle.std.specs.Prelude.{nat_lt}
use Rattle.std.specs.List.{All}
use Rattle.std.proofs.lemmas.Bool.Decides.{nat_tests}
use Rattle.std.proofs.lemmas.List.Elements.{All-nil, All-head, All-tail}
use Rattle.ub_base.specs.declared.clause.Cause.{Cause}
use Rattle.ub_base.specs.declared.clause.Cause.TheVariants as cause
use Rattle.ub_base.specs.declared.names.Item.{Item}
use Rattle.c_typed.specs.declared.tree.Place.{Place}
use Rattle.c_typed.specs.Order.{is_body}
use Rattle.mem_spec.specs.declared.kind.ObjKind.{ObjKind}
use Rattle.mem_spec.specs.Acts.{create}
use Rattle.mem_spec.specs.Script.{Done, Script, run}
use Rattle.mem_spec.specs.Store.{Store}
use Rattle.mem_spec.specs.Streams.{total}
use Rattle.c_model.specs.Control.{ready_work}
use Rattle.c_model.specs.Moves.{Move, Stay, Start}
use Rattle.c_model.specs.Nodes.{fill}
use Rattle.c_model.specs.Program.{Call, Expr, expr, Function, Head, Isolated, Standing, Stmt}
use Rattle.c_model.specs.Runs.{Running, State, depth_of, fill_each, limit_passed, nothing_stands, stand, stand_each, start, step, work_of}
use Rattle.c_model.specs.Steps.{Begun, Control, Ev, Local, Pick, Scene, at_node, body_frame, body_of, called_by, does, move, move_of, next, own_body}
use Rattle.c_model.specs.Steps.{pointer_to}
use Rattle.c_model.specs.Steps.{function_of, start_call, started, values_of}
use Rattle.c_model.specs.Values.{Value, Nothing, function_address, later_values, pointer_of}
use Rattle.c_model.specs.World.{Limits, World}
use Rattle.value_facts.specs.Constants.{EachLeft, EachOf, IsSmallExpr, IsSmallHead}
use Rattle.value_facts.specs.Held.{AreBytes, AreFramesOf, CanonicalSmall, HasSmallValues, HoldsOnly, IsBegunOf, IsFrameOf, KeepsSmall, OrdersSmall}
use Rattle.value_facts.specs.Held.{StartsSmall}
use Rattle.value_facts.specs.Held.{StepsSmall}
use Rattle.value_facts.specs.Small.{AreSmallFillings, HasSmallBytes, IsSmall}
use Rattle.value_facts.proofs.Acting.{act_so}
use Rattle.value_facts.proofs.Accesses.{fill_so}
use Rattle.value_facts.proofs.Frames.{control_kept, control_so, create_any, event_kept, given_frame, result_kept, settled_kept}
use Rattle.value_facts.proofs.Nodes.{IsKept, SmallIf, later_kept, node_small, nothing_kept, values_kept}
use Rattle.value_facts.proofs.Ran.{given, same_input}
use Rattle.value_facts.proofs.Scripts.{GivesSo, after_so, runs_so, then_so}
use Rattle.value_facts.proofs.Steps.{canonical_keeps, has_gone, has_started, moved_keeps, orders_keep}

-- ---- the output is within its limit
output_within : (limits : Limits) (depth : ℕ) (s : Store) → limit_passed limits depth s ≡ None → total s.output ≤ limits.output
output_within limits depth s h = go (nat_lt limits.depth depth) (nat_lt limits.created s.created) (nat_lt limits.output (total s.output)) refl h
  where
    passed : Cause → ℕ → Option (Cause × ℕ)
    passed c n = Some (c, n)

    go : (a b c : Bool) → nat_lt limits.output (total s.output) ≡ c
        → (if a then passed cause.Depth depth else (if b then passed cause.Created s.created else (if c then passed cause.Output (total s.output) else None)))
        ≡ None
        → total s.output ≤ limits.output
    go true b c e h = absurd (cc (h))
    go false true c e h = absurd (cc (h))
    go false false true e h = absurd (cc (h))
    go false false false e h = grind (arith, nat_tests, e)

-- a function that a call leads to is one of the program's
abbrev pair_or : ℕ × Function → Option (ℕ × Function) → ℕ × Function
pair_or x None = x
pair_or x (Some y) = y

found_at : (fs : List Function) (n a : ℕ) (c : ℕ × Function) → function_of fs n a ≡ Some c → (k : ℕ) × (slice_get fs k ≡ Some c.1)
found_at [] n a c e = absurd (cc (e))
found_at (f ∷ fs) n a c e = go (function_address n == a) e (found_at fs (suc n) a c)
  where
    go : (b : Bool) → (if b then Some (n, f) else function_of fs (suc n) a) ≡ Some c
        → (function_of fs (suc n) a ≡ Some c → (k : ℕ) × (slice_get fs k ≡ Some c.1)) → (k : ℕ) × (slice_get (f ∷ fs) k ≡ Some c.1)
    go true q later = let same : (n, f) ≡ c = ap (pair_or (n, f)) q in (0, ap (λ (x : ℕ × Function). Some x.1) same)
    go false q later = let r = later q in (suc r.0, r.1)

own_is : (c : Function) (s : Stmt) → own_body c ≡ Some s → c.body ≡ Some s
own_is c s e = go (is_some c.library) e
  where
    go : (b : Bool) → (if b then None else c.body) ≡ Some s → c.body ≡ Some s
    go true q = absurd (cc (q))
    go false q = q

-- ---- bodies of functions
module _ (world : World) (keeps : KeepsSmall world) where
  body_there : (n : ℕ) (fun : Function) → slice_get world.program.functions n ≡ Some fun → body_of world (Some n) ≡ fun.body
  body_there n fun e = rw e

  body_nowhere : (n : ℕ) → slice_get world.program.functions n ≡ None → body_of world (Some n) ≡ None
  body_nowhere n e = rw e

  body_small : (n : Option ℕ) (s : Stmt) → body_of world n ≡ Some s → EachOf IsSmallExpr s
  body_small None s q = absurd (cc (q))
  body_small (Some n) s q = go (slice_get world.program.functions n) refl
    where
      go : (o : Option Function) → slice_get world.program.functions n ≡ o → EachOf IsSmallExpr s
      go None e = absurd (let r = body_nowhere n e in cc (q, r))
      go (Some fun) e = keeps.constants.functions n fun s e (sym (body_there n fun e) ∙ q)

module _ (world : World) (keeps : KeepsSmall world) (V : Value → Type 0) (kept : IsKept world V) where
  -- ---- a frame that is started
  abbrev StartsKept : Move Local → Type 0
  StartsKept (Start g) = IsFrameOf V g
  StartsKept m = Unit {0}

  fresh_frame : (f : Scene) (k n : ℕ) (vs : List Value) → All V vs → (o : Option Stmt) → ((s : Stmt) → o ≡ Some s → EachOf IsSmallExpr s)
      → StartsKept (body_frame world f k n vs o)
  fresh_frame f k n vs a None g = tt
  fresh_frame f k n vs a (Some s) g =
      record { todo = (g s refl, tt); begun = λ e q. absurd (cc (q)); arguments = a; result = λ v q. absurd (cc (q)) }

  call_starts : (f : Scene) (k : ℕ) (vs : List Value) → All V vs → (a : ℕ) (o : Option (ℕ × Function)) → function_of world.program.functions 0 a ≡ o
      → StartsKept (start_call world f k vs o)
  call_starts f k vs h a None e = tt
  call_starts f k vs h a (Some c) e =
      let at = found_at world.program.functions 0 a c e in
      fresh_frame f k c.0 vs h (own_body c.1) (λ s q. keeps.constants.functions at.0 c.1 s at.1 (own_is c.1 s q))

  head_starts : (f : Scene) (k : ℕ) (h : Head) (vs : List Value) → IsSmallHead h → All V vs → StartsKept (started world f k h vs)
  head_starts f k (Call d) vs i a = call_starts f k (later_values vs) (later_kept V vs a) _ (called_by world vs) refl
  head_starts f k (Isolated e) vs i a = record {
    todo = ((i, tt), tt);
    begun = λ b q. absurd (cc (q));
    arguments = All-nil V;
    result = λ v q. subst V (let same : Nothing ≡ v = cc (q) in same) (nothing_kept world keeps.rows V kept);
  }
  head_starts f k h vs i a = tt

  move_starts : (f : Scene) (b : Begun) → IsBegunOf V b → (u : Place) (o : Option Expr) → SmallIf o → StartsKept (move_of world f b u o)
  move_starts f b its u None i = tt
  move_starts f b its u (Some (expr h ty line es)) i = go (is_body u.kind)
    where
      go : (c : Bool) → StartsKept (if c then started world f u.node h (values_of world f b.given (suc u.node) es) else Stay)
      go true = head_starts f u.node h (values_of world f b.given (suc u.node) es) i.0
          (values_kept world keeps.rows V kept f b.given its.given (suc u.node) es i.1)
      go false = tt

  event_starts : (f : Local) → IsFrameOf V f → (o : Option Begun) → f.begun ≡ o → (u : Place) (g : Local) → move world f o (Ev u) ≡ Start g → IsFrameOf V g
  event_starts f h None e u g q = absurd (cc (q))
  event_starts f h (Some b) e u g q =
      let its = h.begun b e in
      subst StartsKept q (move_starts f.scene b its u (at_node 0 b.root u.node) (node_small 0 b.root u.node its.root))

  -- ---- the frame behind a pick
  frame_on : (f : Local) → IsFrameOf V f → (o : Option Begun) → f.begun ≡ o → (p : Pick) (v : Value) → V v → IsFrameOf V (next world f o p v)
  frame_on f h None e Control v s = control_kept world keeps V kept f h (body_small world keeps f.function)
  frame_on f h None e (Ev u) v s = h
  frame_on f h (Some b) e Control v s = settled_kept world keeps V kept f h b e
  frame_on f h (Some b) e (Ev u) v s = given_frame world keeps V kept f h b e u v s

  -- what a pick gives
  module _ (st : State) (h : HoldsOnly V st) (v : Value) (is : List Item) (s : Store) (within : total s.output ≤ world.limits.output) where
    pick_gives : (o : Option Begun) → st.top.begun ≡ o → (p : Pick) → run world.rows (does world st.top o p) st.store ≡ Done v is s
        → V v × HasSmallBytes s
    pick_gives None e Control r =
        runs_so V world.rows (does world st.top None Control) st.store s v is (control_so world keeps V kept st.top h.top (ready_work st.top.todo)) h.bytes r
    pick_gives None e (Ev u) r =
        let g = given world.rows Nothing v st.store s is r in
        (subst V g.0 (nothing_kept world keeps.rows V kept), subst HasSmallBytes g.1 h.bytes)
    pick_gives (Some b) e Control r =
        runs_so V world.rows (does world st.top (Some b) Control) st.store s v is (result_kept world keeps V kept st.top h.top) h.bytes r
    pick_gives (Some b) e (Ev u) r =
        let its = h.top.begun b e in
        event_kept world keeps V kept st.store s v is h.bytes h.input within st.top.scene b its u (at_node 0 b.root u.node)
        (node_small 0 b.root u.node its.root) r

  -- ---- a pick
  pub step_kept : (st after : State) (p : Pick) → HoldsOnly V st → step world st p ≡ Running after → HoldsOnly V after
  step_kept st after p h q =
      let g = has_gone world st p after q in
      let m = move world st.top st.top.begun p in
      let same : after.store ≡ g.store = moved_keeps world st g.value g.store _ (λ (z : State). z.store ≡ g.store) p m (λ e. refl) (λ u f is e. refl)
      (λ e below rest is. refl) after g.moved_to in
      let within = output_within world.limits (depth_of after.top after.held) g.store
      (subst (λ (z : Store). limit_passed world.limits (depth_of after.top after.held) z ≡ None) same g.limits) in
      let r = pick_gives st h g.value g.items g.store within st.top.begun refl p g.ran in
      let input : AreBytes g.store.input =
      subst AreBytes (sym (same_input world.rows (does world st.top st.top.begun p) st.store g.store g.value g.items g.ran)) h.input in
      moved_keeps world st g.value g.store _ (HoldsOnly V) p m
      (λ e. record { top = frame_on st.top h.top st.top.begun refl p g.value r.0; held = h.held; bytes = r.1; input = input })
      (λ u f is e. record {
        top = event_starts st.top h.top st.top.begun refl u f (subst (λ z. move world st.top st.top.begun z ≡ Start f) is e);
        held = (h.top, h.held);
        bytes = r.1;
        input = input;
      })
      (λ e below rest is. (let k = subst (AreFramesOf V) is h.held in record {
        top = frame_on below.0 k.0 below.0.begun refl (Ev below.1) g.value r.0;
        held = k.1;
        bytes = r.1;
        input = input;
      }))
      after g.moved_to

-- ---- the start
module _ (world : World) where
  fill_all : (os : List Standing) → All (λ o. AreSmallFillings o.fillings) os → GivesSo IsSmall (fill_each world os)
  fill_all [] h = tt
  fill_all (o ∷ os) h =
      then_so IsSmall IsSmall (fill world.rows (pointer_of (pointer_to world o.name)) o.fillings) (λ u. fill_each world os)
      (fill_so world.rows (pointer_of (pointer_to world o.name)) o.fillings (All-head (λ o. AreSmallFillings o.fillings) o os h))
      (λ u any. fill_all os (All-tail (λ o. AreSmallFillings o.fillings) o os h))

  stand_all : (os : List Standing) (rest : Script Value) → GivesSo IsSmall rest → GivesSo IsSmall (stand_each world os rest)
  stand_all [] rest h = h
  stand_all (o ∷ os) rest h =
      let kind : ObjKind = record { heap = false; literal = o.literal; constant = o.decl.constant } in
      after_so IsSmall (create world.rows o.name o.decl.size o.decl.align kind o.decl.form) (stand_each world os rest)
      (create_any world o.name o.decl.size o.decl.align kind o.decl.form) (stand_all os rest h)

  work_small : (o : Option Stmt) → ((s : Stmt) → o ≡ Some s → EachOf IsSmallExpr s) → EachLeft IsSmallExpr (work_of world o)
  work_small None g = tt
  work_small (Some s) g = (g s refl, tt)

pub start_kept : (world : World) → KeepsSmall world → (V : Value → Type 0) → (input : List ℕ) (vs : List Value) (st : State) → AreBytes input → All V vs
    → start world input vs ≡ Running st → HoldsOnly V st
start_kept world keeps V input vs st bytes arguments q =
    let g = has_started world input vs st q in
    let os = world.program.standing in
    let none = nothing_stands world input in
    let r = runs_so IsSmall world.rows (stand world os) none g.store g.value g.items
    (stand_all world os (fill_each world os) (fill_all world os keeps.constants.standing)) (λ x i. omega arith) g.ran in
    let taken : AreBytes g.store.input = subst AreBytes (sym (same_input world.rows (stand world os) none g.store g.value g.items g.ran)) bytes in
    subst (HoldsOnly V) g.state (record {
      top = record {
        todo = work_small world (body_of world (Some world.program.main)) (body_small world keeps (Some world.program.main));
        begun = λ e r. absurd (cc (r));
        arguments = arguments;
        result = λ v r. absurd (cc (r));
      };
      held = tt;
      bytes = r.1;
      input = taken;
    })

-- ---- small values
small_kept : (world : World) → KeepsSmall world → IsKept world IsSmall
small_kept world keeps = record {
  small = λ v h. h;
  plain = λ v h p. h;
  acts = λ who h ty kind vs own plain fills small own_small. act_so world.rows keeps.rows who ty vs own small own_small h kind plain fills;
}

pub starts_small : StartsSmall
starts_small world input vs st keeps bytes arguments q = start_kept world keeps IsSmall input vs st bytes arguments q

pub steps_small : StepsSmall
steps_small world st after p keeps h q = step_kept world keeps IsSmall (small_kept world keeps) st after p h q

pub orders_small : OrdersSmall
orders_small world st after ps keeps = orders_keep world HasSmallValues (λ a b p h q. steps_small world a b p keeps h q) st after ps

pub canonical_small : CanonicalSmall
canonical_small world n st after keeps = canonical_keeps world HasSmallValues (λ a b p h q. steps_small world a b p keeps h q) n st after
