-- The body of a call may start the function's frame, that comes next in a machine that stands so.
use Rattle.std.proofs.Common.{arith, ◌≡◌, ◌+◌, ◌-◌, ◌<◌, ◌≤◌, ◌^◌, ℕ, zero, suc, true, Bool, List, [], ◌∷◌, length, map, min, Option, Some, None, slice_get}
use Rattle.std.proofs.Common.{refl, sym, ap, ap₂, subst, ◌∙◌}
use Rattle.std.specs.Borrow.{Bor}
use Rattle.std.proofs.lemmas.List.{length-map}
use Rattle.std.proofs.lemmas.Option.{same_Some, slice_get_within}
use Rattle.ub_base.specs.declared.clause.Kind.{Kind}
use Rattle.ub_base.specs.declared.names.Item.{Item}
use Rattle.c_types.specs.declared.ty.FuncTy.{FuncTy}
use Rattle.c_types.specs.Types.{CType, Signature, function, pointer, signature_of, type_of}
use Rattle.c_typed.specs.declared.tree.Conversion.{Conversion}
use Rattle.c_typed.specs.declared.tree.Conversion.TheVariants as conversion
use Rattle.c_typed.specs.declared.tree.Node.{Node, fold-Node, fold-roll-Node, map-Node, out-Node, roll-out-Node}
use Rattle.c_typed.specs.declared.tree.Node.TheOpen as shape
use Rattle.c_typed.specs.declared.tree.Node.TheOpen.{Node-F}
use Rattle.c_typed.specs.declared.tree.Place.{Place}
use Rattle.c_typed.specs.declared.tree.Slot.{Slot}
use Rattle.c_typed.specs.declared.tree.Slot.TheVariants as slot
use Rattle.c_typed.specs.declared.tree.Typed.{Typed, out-Typed, fold_out-Typed}
use Rattle.c_typed.specs.Lawful.{CountIs}
use Rattle.c_typed.specs.Sites as sites
use Rattle.c_typed.specs.Tree as order
use Rattle.c_typed.specs.Tree.{size}
use Rattle.c_model.specs.Program as model
use Rattle.c_model.specs.Program.{Expr, expr, more}
use Rattle.c_model.specs.Runs.{State}
use Rattle.c_model.specs.Steps as steps
use Rattle.c_model.specs.Steps.{Begun, Ev, MayPick, Scene, argument_types, at_node, function_type, target, types_of, values_of}
use Rattle.c_model.specs.Values as values
use Rattle.c_model.specs.Values.{Value, later_values}
use Rattle.c_model.specs.World.{World}
use Rattle.program_view.specs.Trees.{expr_of, exprs_of}
use Rattle.program_view.proofs.Seen.{node_in, operands_in, own_type, head_in, expr_at, same_tree}
use Rattle.run_acts.specs.Calls.{type_by}
use Rattle.run_control.specs.View.{Meaning}
use Rattle.run_layout.specs.declared.nodes.NodeInfo.{NodeInfo}
use Rattle.run_layout.specs.declared.steps.Due.{Due}
use Rattle.run_layout.specs.declared.steps.Expression.{Expression as Laid}
use Rattle.run_layout.specs.declared.steps.Operand.{Operand}
use Rattle.run_layout.specs.declared.steps.Operand.TheVariants as operand
use Rattle.run_layout.specs.EventActs as code
use Rattle.run_layout.specs.EventActs.{GoesBy, IsAct, head_at, later_types, pointed, rest_of, sight_of}
use Rattle.run_layout.specs.Numbered.{AreBelow}
use Rattle.run_layout.specs.Resolved as resolved
use Rattle.run_layout.specs.Resolved.{NodeResolved, by_conversion, constant_of, member_of, node_resolved, null_of, object_of, operands_from, tree_resolved}
use Rattle.run_listing.specs.Along.{IsListed}
use Rattle.run_state.specs.declared.machine.Machine.{Machine}
use Rattle.run_state.specs.declared.machine.Stage.{Stage}
use Rattle.run_state.specs.Operands.{Gives}
use Rattle.run_answers.specs.Calling.{type_of_call}
use Rattle.run_answers.specs.Nodes.{head_of}
use Rattle.run_answers.specs.Opens.{IsBefore}
use Rattle.run_answers.specs.Takes.{CallTakesGiven, NodeStands}
use Rattle.run_answers.proofs.Nodes.{head_is, node_is}
use Rattle.run_answers.specs.Picks.{whole_part, NextIsPermitted}
use Rattle.run_answers.specs.Starting.{ArePassed}
use Rattle.run_answers.specs.Taking.{past_event, passed_stage}
use Rattle.run_answers.specs.Starting as starting
use Rattle.code_view.specs.Named.{OpenIsNamed}
use Rattle.run_laws.specs.Asked.{CodeHasRooms}
use Rattle.run_laws.specs.Calls.{CallsOwn, HasPlaces, IsCallBody, IsCallCode, OpenIsCall, OpenIsCallCode, OpenMayCall, OpenMayCallNext}
use Rattle.run_laws.specs.Open.{aside, IsOpen}
use Rattle.run_laws.proofs.Given.{due_is, end_small, gone_on, has_rooms, next_listed, node_stands, objects, root_is, rooms_is, values_are, values_aside}

-- ---- the types by which a call goes
typed_by : (ty : CType) (o : Option (Bor FuncTy)) → GoesBy ty o → type_of_call o ≡ function_type ty
typed_by (function result params variadic) None g = absurd g
typed_by (function result params variadic) (Some f) g = ap (λ (s : Signature). Some (type_by s)) g
typed_by _ None g = refl
typed_by _ (Some f) g = absurd g

same_target : (ty : CType) → pointed ty ≡ target ty
same_target (pointer constant ty) = refl
same_target _ = refl

designated : (ty : CType) (ts : List Typed) → 1 ≤ length ts → pointed (code.first_type ty ts) ≡ target (steps.first_type (exprs_of ts))
designated ty [] few = absurd (omega (arith, few))
designated ty (t ∷ ts) few =
    same_target (own_type t) ∙ ap (λ (z : Expr). target (steps.first_type (more z (exprs_of ts)))) (sym (expr_at t))

all_types : (ts : List Typed) → map (λ t. type_of (out-Typed t).ty) ts ≡ types_of (exprs_of ts)
all_types [] = refl
all_types (t ∷ ts) =
    ap (λ z. own_type t ∷ z) (all_types ts) ∙ ap (λ (z : Expr). types_of (more z (exprs_of ts))) (sym (expr_at t))

passed_types : (ts : List Typed) → later_types ts ≡ argument_types (exprs_of ts)
passed_types [] = refl
passed_types (t ∷ ts) = all_types ts

-- ---- an operand that isn't known beforehand is that of its own node
module _ (base room : ℕ) where
  null_before : (ty : CType) → IsBefore base room (null_of ty)
  null_before (function result params variadic) = tt
  null_before _ = tt

  constant_before : (ty : CType) (z : _) → IsBefore base room (constant_of ty z)
  constant_before (pointer constant ty) z = null_before ty
  constant_before _ z = tt

  object_before : (firsts : List ℕ) (s : Slot) → IsBefore base room (object_of firsts s)
  object_before firsts (slot.Auto block decl) = tt
  object_before firsts (slot.Static number) = tt

  converted_before : (c : Conversion) (n : ℕ) (o : Operand) → base + n < room → IsBefore base room (by_conversion c n o)
  converted_before (conversion.Integer k) n (operand.Integer z) l = tt
  converted_before (conversion.Integer k) n _ l = l
  converted_before _ n o l = l

  member_before : (by n : ℕ) (o : Operand) → base + n < room → IsBefore base room (member_of by n o)
  member_before by n (operand.Local object at) l = tt
  member_before by n (operand.Static object at) l = tt
  member_before by n _ l = l

  node_before : (firsts : List ℕ) (d : Node-F NodeResolved (ℕ → Operand)) (ty : CType) (os : List (ℕ → Operand)) (n : ℕ) → base + n < room
      → IsBefore base room (node_resolved firsts d ty os n)
  node_before firsts (shape.Const z) ty os n l = constant_before ty z
  node_before firsts (shape.Obj s) ty os n l = object_before firsts s
  node_before firsts (shape.Func k) ty os n l = tt
  node_before firsts (shape.Str k) ty os n l = tt
  node_before firsts (shape.Conv c) ty os n l = converted_before c n (resolved.first_resolved os n) l
  node_before firsts (shape.Member offset) ty os n l = member_before offset n (resolved.first_resolved os n) l
  node_before firsts _ ty os n l = l

  abbrev node_fold : List ℕ → Node → NodeResolved
  node_fold firsts = fold-Node NodeResolved (ℕ → Operand) (node_resolved firsts) tree_resolved

  tree_before : (firsts : List ℕ) (t : Typed) (n : ℕ) → base + n < room → IsBefore base room (resolved.resolved firsts t n)
  tree_before firsts t n l =
      let u = (out-Typed t).node in
      let os = map (resolved.resolved firsts) (operands_in t) in
      let opened = map-Node Node Typed NodeResolved (ℕ → Operand) (node_fold firsts) (resolved.resolved firsts) (out-Node u) in
      let is : resolved.resolved firsts t n ≡ node_resolved firsts opened (own_type t) os n =
      ap (λ (f : ℕ → Operand). f n) (fold_out-Typed NodeResolved (ℕ → Operand) (node_resolved firsts) tree_resolved t)
      ∙ (ap (λ z. node_fold firsts z (own_type t) os n) (sym (roll-out-Node u))
      ∙ ap (λ (g : NodeResolved). g (own_type t) os n) (fold-roll-Node NodeResolved (ℕ → Operand) (node_resolved firsts) tree_resolved (out-Node u))) in
      subst (IsBefore base room) (sym is) (node_before firsts opened (own_type t) os n l)

-- ---- the operands of a node have numbers of nodes
size_some : (t : Typed) → 1 ≤ size (order.tree_of t)
size_some t = (let s = ap size (same_tree t) in let p = size_of_expr (expr_of t) in omega (arith, s, p))
  where
    size_of_expr : (e : Expr) → 1 ≤ size (model.tree_of e)
    size_of_expr (expr h ty line es) = omega arith

below_few : (nodes : List NodeInfo) (parent m : ℕ) (t : Typed) (ts : List Typed) → AreBelow nodes parent m (t ∷ ts) → m + length (t ∷ ts) ≤ length nodes
below_few nodes parent m t [] b = (let l = slice_get_within nodes m b.0.0 b.0.1 in omega (arith, l))
below_few nodes parent m t (u ∷ us) b =
    (let l = below_few nodes parent (m + size (order.tree_of t)) u us b.1 in let s = size_some t in omega (arith, l, s))

-- ---- the operands are passed
module _ (world : World) (m : Machine) (f : Scene) (given : Place → Option Value) (firsts : List ℕ) (nodes : List NodeInfo) where
  abbrev Room : ℕ
  Room = m.top.base + m.top.rooms

  pass_all : (parent : ℕ) (ts : List Typed) (j k : ℕ) → j ≡ k → length nodes ≤ m.top.rooms → AreBelow nodes parent j ts
      → ((i : ℕ) → i < length ts
      → Gives m (resolved.value_at (operands_from firsts j ts) i) (values.value_at (values_of world f given k (exprs_of ts)) i))
      → ArePassed m (operands_from firsts j ts) (values_of world f given k (exprs_of ts))
  pass_all parent [] j k e few below gives = tt
  pass_all parent (t ∷ ts) j k e few below gives =
      let here : j < length nodes = slice_get_within nodes j below.0.0 below.0.1 in
      let next : j + size (order.tree_of t) ≡ k + size (model.tree_of (expr_of t)) = (let s = ap size (same_tree t) in omega (arith, e, s)) in (
        (tree_before m.top.base Room firsts t j (omega (arith, here, few)), gives 0 (omega arith)),
        pass_all parent ts (j + size (order.tree_of t)) (k + size (model.tree_of (expr_of t))) next few below.1
            (λ i lt. gives (suc i) (omega (arith, lt))),
      )

  pass_later : (parent : ℕ) (ts : List Typed) (j k : ℕ) → j ≡ k → length nodes ≤ m.top.rooms → AreBelow nodes parent j ts
      → ((i : ℕ) → i < length ts
      → Gives m (resolved.value_at (operands_from firsts j ts) i) (values.value_at (values_of world f given k (exprs_of ts)) i))
      → ArePassed m (rest_of (operands_from firsts j ts)) (later_values (values_of world f given k (exprs_of ts)))
  pass_later parent [] j k e few below gives = tt
  pass_later parent (t ∷ ts) j k e few below gives = (pass_all parent (t ∷ ts) j k e few below gives).1

later_length : (firsts : List ℕ) (m : ℕ) (ts : List Typed) → length (rest_of (operands_from firsts m ts)) ≤ length ts
later_length firsts m [] = omega arith
later_length firsts m (t ∷ ts) =
    let l : length (rest_of (operands_from firsts m (t ∷ ts))) ≡ length ts = all_length firsts (m + size (order.tree_of t)) ts in
    omega (arith, l)
  where
    all_length : (firsts : List ℕ) (m : ℕ) (ts : List Typed) → length (operands_from firsts m ts) ≡ length ts
    all_length firsts m [] = refl
    all_length firsts m (t ∷ ts) = ap suc (all_length firsts (m + size (order.tree_of t)) ts)

-- ---- the event
module _ (calls : CallTakesGiven) (named : OpenIsNamed) (world : World) (meaning : Option ℕ → Meaning) (m : Machine) (st : State) (e : Begun) (s : Stage)
    (laid : Laid) (firsts : List ℕ) (nodes : List NodeInfo) (o : IsOpen world meaning m st e s laid firsts nodes) (stage : Option Stage) (items : List Item)
    (d : Due) (is : IsListed (whole_part m s) d) (may : MayPick world st.top (Some e) (Ev d.place)) (b : IsCallBody nodes d) where
  abbrev n : Machine
  n = aside m stage items

  abbrev t : Typed
  t = b.node.tree.now

  abbrev ts : List Typed
  ts = operands_in t

  abbrev k : ℕ
  k = suc d.place.node

  abbrev Vals : List Value
  Vals = values_of world st.top.scene e.given k (exprs_of ts)

  abbrev Ops : List Operand
  Ops = operands_from firsts k ts

  abbrev Seen : Node-F Node Typed → Expr
  Seen z = expr (head_in z (own_type t)) (own_type t) (out-Typed t).line (exprs_of ts)

  root_so : e.root ≡ expr_of laid.root.now
  root_so = root_is world meaning m st e s laid firsts nodes o

  stands_so : NodeStands n firsts st.top.scene.blocks t
  stands_so = node_stands world meaning m st e s laid firsts nodes o stage items named d.place.node b.node b.there

  some : 1 ≤ length ts
  some = subst (λ (h : sites.Head). CountIs h (length ts)) (head_is t ∙ ap (λ (z : Node-F Node Typed). sites.head_of z) b.call) stands_so.counts

  gives : (i : ℕ) → i < length ts → Gives n (resolved.value_at Ops i) (values.value_at Vals i)
  gives i lt =
      calls world n st.top.scene e firsts laid.root.now nodes d.place b.node b.discarded laid.first laid.end
      (objects world meaning m st e s laid firsts nodes o stage items)
      (values_aside world m stage items laid.first laid.end st.top.scene e (values_are world meaning m st e s laid firsts nodes o)) root_so
      o.lays.numbered b.there may (ap head_of (expr_at t) ∙ ap (λ (z : Node-F Node Typed). head_in z (own_type t)) b.call) stands_so i lt

  below : AreBelow nodes d.place.node k ts
  below = (o.lays.numbered.each d.place.node b.node b.there).below

  rooms_so : length nodes ≤ m.top.rooms
  rooms_so = (let own = o.lays.rooms.own in let r = rooms_is world meaning m st e s laid firsts nodes o in omega (arith, own, r))

  rooms_few : m.top.rooms < 2 ^ 32
  rooms_few = (let few = o.lays.rooms.few in let r = rooms_is world meaning m st e s laid firsts nodes o in omega (arith, few, r))

  operands_few : (us : List Typed) → 1 ≤ length us → AreBelow nodes d.place.node k us → length us ≤ length nodes
  operands_few [] l h = absurd (omega (arith, l))
  operands_few (u ∷ us) l h = (let few = below_few nodes d.place.node k u us h in omega (arith, few))

  pub code_is : HasPlaces m → IsCallCode world n st.top.scene e d
  code_is places =
      let due = due_is world meaning m st e s laid firsts nodes o d b.node is b.there in
      let seen = sight_of firsts (length nodes) d.place.node b.node in
      let does = subst (λ (q : Kind). IsAct firsts m.image.code.now.tables b.node.initializer (shape.Call b.discarded) seen q d.act) b.body
      (subst (λ (h : sites.Head). IsAct firsts m.image.code.now.tables b.node.initializer h seen d.place.kind d.act)
      (head_is t ∙ ap (λ (z : Node-F Node Typed). sites.head_of z) b.call) due.does) in
      let call = does.1 in
      let by = does.3 in
      record {
        number = does.0;
        act = does.4;
        body = b.body;
        code = call;
        there = does.2;
        discarded = b.discarded;
        ty = own_type t;
        line = (out-Typed t).line;
        operands = exprs_of ts;
        node = ap (λ (z : Expr). at_node 0 z d.place.node) root_so
            ∙ (node_is firsts laid.root.now nodes d.place.node b.node o.lays.numbered b.there
            ∙ (ap Some (expr_at t) ∙ ap (λ (z : Node-F Node Typed). Some (Seen z)) b.call));
        typed = typed_by seen.object call.ty by.goes ∙ ap function_type (designated (own_type t) ts some);
        types = by.types ∙ passed_types ts;
        designator = subst (λ (q : Operand). Gives n q (values.value_at Vals 0)) (sym by.designator) (gives 0 (omega (arith, some)));
        arguments = subst (λ (os : List Operand). ArePassed n os (later_values Vals)) (sym by.arguments)
            (pass_later world n st.top.scene e.given firsts nodes d.place.node ts k k refl rooms_so below gives);
        few =
            let l : length (rest_of Ops) ≤ length ts = later_length firsts k ts in
            let q : length call.arguments.items ≡ length (rest_of Ops) = ap length by.arguments in
            let c : length ts ≤ length nodes = operands_few ts some below in
            let p : m.top.base + 2 ^ 33 < 2 ^ 64 = places in
            let all : m.top.base + m.top.rooms + length call.arguments.items < 2 ^ 64 = omega (arith, l, q, c, p, rooms_few, rooms_so) in
            all;
      }

-- a call of no function of the library
own_call : (world : World) (n : Machine) (f : Scene) (e : Begun) (d : Due) → IsCallCode world n f e d → CallsOwn world f e d → starting.IsCall world n f e d
own_call world n f e d c own = record {
  number = c.number;
  act = c.act;
  body = c.body;
  code = c.code;
  there = c.there;
  discarded = c.discarded;
  ty = c.ty;
  line = c.line;
  operands = c.operands;
  node = c.node;
  typed = c.typed;
  designator = c.designator;
  arguments = c.arguments;
  few = c.few;
  own = own c.discarded c.ty c.line c.operands c.node;
}

module _ (calls : CallTakesGiven) (named : OpenIsNamed) where
  pub is_call_code : OpenIsCallCode
  is_call_code world meaning m st e s laid firsts nodes stage items d o places is may b =
      code_is calls named world meaning m st e s laid firsts nodes o stage items d is may b places

  pub is_call : OpenIsCall
  is_call world meaning m st e s laid firsts nodes stage items d o places is may b own =
      own_call world (aside m stage items) st.top.scene e d
      (is_call_code world meaning m st e s laid firsts nodes stage items d o places is may b) own

  pub may_call : CodeHasRooms → OpenMayCall
  may_call rooms world meaning m now st e s laid firsts nodes d o ready none places callable is may b own goes =
      let gone = gone_on m now s d s.straight goes in
      record {
        stood = o.stood;
        within = ready.within;
        items = none;
        stage = o.stage;
        end = end_small world meaning m st e s laid firsts nodes o;
        rooms = has_rooms rooms world meaning m st e s laid firsts nodes o;
        functions = callable;
        event = subst (λ (q : Machine). starting.IsCall world (past_event q) st.top.scene e d) (sym gone.1)
            (is_call world meaning m st e s laid firsts nodes (passed_stage gone.0) m.items d o places is may b own);
        goes = goes;
      }

  pub may_call_next : CodeHasRooms → NextIsPermitted → OpenMayCallNext
  may_call_next rooms permitted world meaning m st e s laid firsts nodes o ready straight places callable bodies = record {
    stood = o.stood;
    within = ready.within;
    stage = o.stage;
    straight = straight;
    end = end_small world meaning m st e s laid firsts nodes o;
    rooms = has_rooms rooms world meaning m st e s laid firsts nodes o;
    functions = callable;
    each = λ next comes.
        let may : MayPick world st.top (Some e) (Ev next.1.now.place) =
        subst (λ (z : Option Begun). MayPick world st.top z (Ev next.1.now.place)) o.stood.begun
        ((permitted m s next o.stage straight comes world meaning st o.stood.stands).0 refl) in
        is_call world meaning m st e s laid firsts nodes
        (passed_stage (Some (record s { cursor = min (s.cursor + next.0) (2 ^ 64 - 1) }))) [] next.1.now o places
        (next_listed world meaning m st e s laid firsts nodes o straight next comes) may (bodies next comes).0 (bodies next comes).1;
  }
