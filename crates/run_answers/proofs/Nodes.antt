-- The act of an event in the code is that of its node.
use Rattle.std.proofs.Common.{◌≡◌, ℕ, zero, suc, ◌+◌, ◌-◌, ◌<◌, ◌≤◌, Bool, true, false, ◌&&◌, ◌||◌, ◌==◌, nat_lt, List, [], ◌∷◌, map, length, slice_get}
use Rattle.std.proofs.Common.{Option, Some, None, refl, sym, ap, ap₂, subst, ◌∙◌, arith, ℤ, pos, if◌then◌else◌}
use Rattle.std.specs.Prelude.{option_map, unsigned_abs}
use Rattle.std.specs.Borrow.{Bor}
use Rattle.std.proofs.lemmas.Bool.Decides.{nat_tests}
use Rattle.ub_base.specs.declared.clause.Kind.{Kind}
use Rattle.ub_base.specs.declared.clause.Kind.TheVariants.{Val, Eff, Body}
use Rattle.c_types.specs.Types.{CType, pointer, type_of}
use Rattle.c_typed.specs.declared.program.Constant.{Constant}
use Rattle.c_typed.specs.declared.program.Content.{Content}
use Rattle.c_typed.specs.declared.program.Content.TheVariants as content
use Rattle.c_typed.specs.declared.tree.Target.{Target}
use Rattle.c_typed.specs.declared.tree.Target.TheVariants as target
use Rattle.c_typed.specs.declared.tree.Access.{Access}
use Rattle.c_typed.specs.declared.tree.Change.{Change}
use Rattle.c_typed.specs.declared.tree.Change.TheVariants as change
use Rattle.c_typed.specs.declared.tree.Node.{Node, fold-Node, fold-roll-Node, map-Node, out-Node, roll-out-Node}
use Rattle.c_typed.specs.declared.tree.Node.TheOpen as shape
use Rattle.c_typed.specs.declared.tree.Node.TheOpen.{Node-F}
use Rattle.c_typed.specs.declared.tree.Place.{Place}
use Rattle.c_typed.specs.declared.tree.Typed.{Typed, out-Typed}
use Rattle.c_typed.specs.Lawful.{CountIs}
use Rattle.c_typed.specs.Order.{place, is_body}
use Rattle.c_typed.specs.Sites.{Seen, SeenNode, seen_node, seen_tree}
use Rattle.c_typed.specs.Sites as sites
use Rattle.c_typed.specs.Tree.{is_quiet, is_quiet_class, size, sizes, trees_of}
use Rattle.c_typed.specs.Tree as order
use Rattle.mem_spec.specs.Script.{Script, Give}
use Rattle.mem_objects.specs.declared.value.Value.TheVariants as kept
use Rattle.c_model.specs.Nodes as nodes
use Rattle.c_model.specs.Nodes.{act_of, bool_value, last_value}
use Rattle.c_model.specs.Program as model
use Rattle.c_model.specs.Program.{Expr, expr, Exprs, Head, head_class, tree_of}
use Rattle.c_model.specs.Steps as steps
use Rattle.c_model.specs.Steps.{Scene, Begun, at_node, at_node_among, call_act, event_act, event_of, name_of, operand_values, own_kind, values_of}
use Rattle.c_model.specs.Steps.{target as pointed_by}
use Rattle.c_model.specs.Values as values
use Rattle.c_model.specs.Values.{Value, Nothing, integer_of, pointer_of, or_nothing, truth}
use Rattle.c_model.specs.World.{World}
use Rattle.c_model.proofs.Ranks.{if_true, if_false, lt_lt, ge_lt}
use Rattle.program_view.specs.Trees as trees
use Rattle.program_view.specs.Trees.{constant_head, expr_of, exprs_of, filling_of, is_pointer}
use Rattle.program_view.proofs.Seen.{node_in, operands_in, own_type, head_in, expr_at, size_at, by_size, same_tree}
use Rattle.run_values.specs.Contents as contents
use Rattle.run_values.specs.Contents.{filled_by}
use Rattle.run_acts.specs.Updates.{IsNear, IsNearChange}
use Rattle.run_values.specs.Views.{value_in}
use Rattle.run_layout.specs.declared.nodes.NodeInfo.{NodeInfo}
use Rattle.run_layout.specs.declared.steps.Act.{Act}
use Rattle.run_layout.specs.declared.steps.Act.TheVariants as act
use Rattle.run_layout.specs.declared.steps.Operand.{Operand}
use Rattle.run_layout.specs.declared.steps.Operand.TheVariants as operand
use Rattle.run_layout.specs.declared.steps.StoreCode.{StoreCode}
use Rattle.run_layout.specs.EventActs.{head_at, pointed, sight_of, IsAct, IsDue, IsStore, Sight}
use Rattle.run_layout.specs.EventActs as code
use Rattle.run_layout.specs.Numbered.{AreBelow, AreNodes, AreNoted, IsAt}
use Rattle.run_layout.specs.Resolved as resolved
use Rattle.run_layout.specs.Resolved.{object_of, operands_from}
use Rattle.run_state.specs.declared.machine.Machine.{Machine}
use Rattle.run_state.specs.Operands.{Gives}
use Rattle.run_answers.specs.Acts.{filled_from, given_by, is_body_act, script_in, stored_by, AreGiven, IsGiven}
use Rattle.run_answers.specs.Nodes.{head_of, Evaluates, IsNearBy, OwnIsGiven, ActsAreOfNodes}

-- ---- the head of a node
abbrev head_seen : SeenNode → sites.Head
head_seen s = s.head

open_head : (d : Node-F Node Typed) →
    sites.head_of (map-Node Node Typed SeenNode Seen (fold-Node SeenNode Seen seen_node seen_tree) sites.seen d) ≡ sites.head_of d
open_head (shape.Const z) = refl
open_head (shape.Obj slot) = refl
open_head (shape.Func k) = refl
open_head (shape.Str k) = refl
open_head (shape.Load how) = refl
open_head (shape.Conv c) = refl
open_head (shape.Un op) = refl
open_head (shape.Bin op kind) = refl
open_head (shape.PtrAdd size subtract) = refl
open_head (shape.PtrDiff size) = refl
open_head (shape.Rel op pointers) = refl
open_head (shape.Eq op) = refl
open_head (shape.Member offset) = refl
open_head (shape.Part offset how) = refl
open_head (shape.Assign first how) = refl
open_head (shape.Update c old) = refl
open_head shape.And = refl
open_head shape.Or = refl
open_head shape.Cond = refl
open_head shape.Comma = refl
open_head (shape.Call discarded) = refl
open_head (shape.List slot bytes) = refl
open_head (shape.Isolated tree) = refl

pub head_is : (t : Typed) → head_at (out-Typed t).node ≡ sites.head_of (node_in t)
head_is t =
    let n = (out-Typed t).node in
    ap head_at (sym (roll-out-Node n)) ∙ (ap head_seen (fold-roll-Node SeenNode Seen seen_node seen_tree (out-Node n)) ∙ open_head (out-Node n))

-- ---- the node of a number
module _ (firsts : List ℕ) (noted : List NodeInfo) (each : AreNoted firsts noted) where
  abbrev AtEach : Typed → Type 0
  AtEach t = (k i : ℕ) (parent : Option ℕ) (x : NodeInfo) → IsAt noted k parent t → i < size (order.tree_of t) → slice_get noted (k + i) ≡ Some x
      → at_node k (expr_of t) (k + i) ≡ Some (expr_of x.tree.now)

  among : (n : ℕ) → ((u : Typed) → size (order.tree_of u) ≤ n → AtEach u) → (ts : List Typed) → sizes (trees_of ts) ≤ n
      → (parent m j : ℕ) (x : NodeInfo) → AreBelow noted parent m ts → j < sizes (trees_of ts) → slice_get noted (m + j) ≡ Some x
      → at_node_among m (exprs_of ts) (m + j) ≡ Some (expr_of x.tree.now)
  among n f [] l parent m j x below lt get = absurd (omega (arith, lt))
  among n f (t ∷ ts) l parent m j x below lt get =
      go (nat_lt j (size (order.tree_of t))) refl (λ i less got. among n f ts (omega (arith, l)) parent (m + size (order.tree_of t)) i x below.1 less got)
    where
      s : ℕ
      s = size (order.tree_of t)

      e : size (tree_of (expr_of t)) ≡ s
      e = ap size (same_tree t)

      go : (b : Bool) → nat_lt j s ≡ b → ((i : ℕ) → i < sizes (trees_of ts) → slice_get noted (m + s + i) ≡ Some x
          → at_node_among (m + s) (exprs_of ts) (m + s + i) ≡ Some (expr_of x.tree.now))
          → at_node_among m (exprs_of (t ∷ ts)) (m + j) ≡ Some (expr_of x.tree.now)
      go true q more =
          let k : j < s = grind (arith, nat_tests, q) in
          if_true (nat_lt (m + j) (m + size (tree_of (expr_of t)))) _ _ (lt_lt (m + j) (m + size (tree_of (expr_of t))) (omega (arith, k, e)))
          ∙ f t (omega (arith, l)) m j (Some parent) x below.0 k get
      go false q more =
          let k : s ≤ j = grind (arith, nat_tests, q) in
          let p : m + s + (j - s) ≡ m + j = omega (arith, k) in
          if_false (nat_lt (m + j) (m + size (tree_of (expr_of t)))) _ _ (ge_lt (m + j) (m + size (tree_of (expr_of t))) (omega (arith, k, e)))
          ∙ (ap (λ z. at_node_among (m + z) (exprs_of ts) (m + j)) e
          ∙ (ap (at_node_among (m + s) (exprs_of ts)) (sym p) ∙ more (j - s) (omega (arith, lt, k)) (ap (slice_get noted) p ∙ get)))

  at_each : (t : Typed) → AtEach t
  at_each = by_size AtEach step
    where
      there : (t : Typed) (k : ℕ) (parent : Option ℕ) (x : NodeInfo) → IsAt noted k parent t → slice_get noted k ≡ Some x → x.tree.now ≡ t
      there t k parent x at get =
          let same : Some at.0 ≡ Some x = sym at.1 ∙ get in
          let is : at.0 ≡ x = cc in
          subst (λ (y : NodeInfo). y.tree.now ≡ t) is at.2

      step : (t : Typed) → ((u : Typed) → size (order.tree_of u) ≤ sizes (trees_of (operands_in t)) → AtEach u) → AtEach t
      step t f k zero parent x at lt get =
          let is = there t k parent x at (ap (slice_get noted) (omega arith) ∙ get) in
          ap (λ (z : Expr). at_node k z (k + 0)) (expr_at t) ∙ if_true (k == (k + 0)) _ _ (grind (arith, nat_tests)) ∙ ap Some (sym (expr_at t))
          ∙ ap (λ (u : Typed). Some (expr_of u)) (sym is)
      step t f k (suc i) parent x at lt get =
          let e : k + suc i ≡ suc k + i = omega arith in
          let own = each k at.0 at.1 in
          let below : AreBelow noted k (suc k) (operands_in t) = subst (λ (u : Typed). AreBelow noted k (suc k) (operands_in u)) at.2 own.below in
          ap (λ (z : Expr). at_node k z (k + suc i)) (expr_at t)
          ∙ (if_false (k == (k + suc i)) _ _ (grind (arith, nat_tests))
          ∙ (ap (at_node_among (suc k) (exprs_of (operands_in t))) e
          ∙ among (sizes (trees_of (operands_in t))) f (operands_in t) (omega arith) k (suc k) i x below
          (let s = size_at t in omega (arith, lt, s)) (ap (slice_get noted) (sym e) ∙ get)))

within : {A : Type 0} (xs : List A) (n : ℕ) (x : A) → slice_get xs n ≡ Some x → n < length xs
within [] n x e = absurd (cc)
within (y ∷ ys) zero x e = omega arith
within (y ∷ ys) (suc n) x e = (let k = within ys n x e in omega (arith, k))

pub node_is : (firsts : List ℕ) (root : Typed) (noted : List NodeInfo) (n : ℕ) (x : NodeInfo) → AreNodes firsts root noted → slice_get noted n ≡ Some x
    → at_node 0 (expr_of root) n ≡ Some (expr_of x.tree.now)
node_is firsts root noted n x are get =
    let e : 0 + n ≡ n = omega arith in
    let lt = within noted n x get in
    let c = are.count in
    ap (at_node 0 (expr_of root)) (sym e)
    ∙ at_each firsts noted are.each root 0 n None x are.top (omega (arith, lt, c)) (ap (slice_get noted) e ∙ get)

-- ---- the type that an access goes by
same_target : (ty : CType) → pointed_by ty ≡ pointed ty
same_target (pointer constant ty) = refl
same_target _ = refl

types : (ty : CType) (ts : List Typed) → 0 < length ts → pointed_by (steps.first_type (exprs_of ts)) ≡ pointed (code.first_type ty ts)
types ty [] h = absurd (omega (arith, h))
types ty (t ∷ ts) h = ap (λ (z : Expr). pointed_by (steps.first_type (model.more z (exprs_of ts)))) (expr_at t) ∙ same_target (own_type t)

-- ---- fillings
same_address : (t : Target) (offset : ℕ) → contents.address_of t offset ≡ trees.address_of t offset
same_address (target.Static n) offset = refl
same_address (target.Literal n) offset = refl
same_address (target.Function n) offset = refl

same_content : (c : Content) → contents.content_of c ≡ trees.content_of c
same_content (content.Zeros n) = refl
same_content (content.Bytes bs) = refl
same_content (content.Address t offset) = same_address t offset

same_fillings : (cs : List Constant) → map filled_by cs ≡ map filling_of cs
same_fillings [] = refl
same_fillings (c ∷ cs) =
    ap₂ (λ (x : model.Content) (xs : List model.Filling). record { offset = c.at; content = x } ∷ xs) (same_content c.content) (same_fillings cs)

-- ---- operators on truths
and_same : (p q r : Bool) → (p ≡ true → q ≡ r) → p && q ≡ p && r
and_same true q r h = h refl
and_same false q r h = refl

or_same : (p q r : Bool) → (p ≡ false → q ≡ r) → p || q ≡ p || r
or_same true q r h = refl
or_same false q r h = h refl

if_same : (p : Bool) (v w x y : Value) → (p ≡ true → v ≡ x) → (p ≡ false → w ≡ y) → (if p then v else w) ≡ (if p then x else y)
if_same true v w x y g h = g refl
if_same false v w x y g h = h refl

-- ---- operands
module _ (m : Machine) where
  given_is : (o : Operand) (v : Value) → Gives m o v → given_by m o ≡ v
  given_is o v g = ap (λ z. or_nothing (option_map (value_in m.memory) z)) g.1 ∙ g.3

  is_given : (o : Operand) (v : Value) → Gives m o v → IsGiven m o
  is_given o v g = (g.0, g.1, g.2)

  number_given : (z : ℤ) → IsGiven m (operand.Integer z)
  number_given z = (kept.Int z, refl, record { made = tt; known = tt; tagged = tt })

  branch_given : (p : Bool) (a b : Operand) → (p ≡ true → IsGiven m a) → (p ≡ false → IsGiven m b) → IsGiven m (if p then a else b)
  branch_given true a b g h = g refl
  branch_given false a b g h = h refl

  last_given : (world : World) (f : Scene) (given : Place → Option Value) (firsts : List ℕ) (t : Typed) (ts : List Typed) (j k : ℕ)
      → ((i : ℕ) → i < length (t ∷ ts) → Gives m (resolved.value_at (operands_from firsts j (t ∷ ts)) i)
      (values.value_at (values_of world f given k (exprs_of (t ∷ ts))) i))
      → Gives m (code.last_of (operands_from firsts j (t ∷ ts))) (last_value (values_of world f given k (exprs_of (t ∷ ts))))
  last_given world f given firsts t [] j k g = g 0 (omega arith)
  last_given world f given firsts t (t2 ∷ ts) j k g =
      last_given world f given firsts t2 ts (j + size (order.tree_of t)) (k + size (tree_of (expr_of t))) (λ i lt. g (suc i) (omega (arith, lt)))

-- ---- the act of each node
not_quiet_number : (z : ℤ) (ty : CType) (ts : order.Trees) → is_quiet_class (head_class (constant_head z ty) ts) ≡ false → ⊥
not_quiet_number z ty ts = go (is_pointer ty && (unsigned_abs z == 0))
  where
    go : (b : Bool) → is_quiet_class (head_class (if b then model.Null else model.Number z) ts) ≡ false → ⊥
    go true q = cc
    go false q = cc

module _ (world : World) (m : Machine) (f : Scene) (e : Begun) (firsts : List ℕ) (u : Place) where
  abbrev Right : Act → Script Value → Type 0
  Right a r = (script_in world.rows m (event_of world f u) a ≡ r) × AreGiven m (event_of world f u) a × (is_body_act a ≡ false)

  right : (a b : Act) (r : Script Value) → a ≡ b → Right b r → Right a r
  right a b r is holds = subst (λ (c : Act). Right c r) (sym is) holds

  abbrev Ops : List Typed → List Operand
  Ops ts = operands_from firsts (suc u.node) ts

  abbrev Vals : List Typed → List Value
  Vals ts = values_of world f e.given (suc u.node) (exprs_of ts)

  abbrev own_value : Kind → Value
  own_value k = or_nothing (e.given (place u.node (own_kind k)))

  -- what the event does by the definitions
  abbrev done_by : Head → List Typed → Kind → Script Value
  done_by h ts k =
      if is_body k then call_act world (event_of world f u) h (exprs_of ts) (Vals ts)
      else act_of world.rows (event_of world f u) h (pointed_by (steps.first_type (exprs_of ts))) k
      (operand_values world f e.given (suc u.node) h (exprs_of ts)) (own_value k)

  abbrev sight : CType → List Typed → Operand → ℕ → Sight
  sight ty ts own room =
      record { operands = Ops ts; object = pointed (code.first_type ty ts); later = code.later_types ts; own = own; room = room }

  -- the operands of a node are given
  abbrev Operands : Head → List Typed → Type 0
  Operands h ts = (i : ℕ) → i < length ts → Evaluates h (Vals ts) i → Gives m (resolved.value_at (Ops ts) i) (values.value_at (Vals ts) i)

  abbrev At : List Typed → ℕ → Type 0
  At ts i = Gives m (resolved.value_at (Ops ts) i) (values.value_at (Vals ts) i)

  is_at : (ts : List Typed) (i : ℕ) → At ts i → given_by m (resolved.value_at (Ops ts) i) ≡ values.value_at (Vals ts) i
  is_at ts i p = given_is m (resolved.value_at (Ops ts) i) (values.value_at (Vals ts) i) p

  has_at : (ts : List Typed) (i : ℕ) → At ts i → IsGiven m (resolved.value_at (Ops ts) i)
  has_at ts i p = is_given m (resolved.value_at (Ops ts) i) (values.value_at (Vals ts) i) p

  nothing : (a : Act) (r : Script Value) → a ≡ act.Nothing → r ≡ Give Nothing → Right a r
  nothing a r is e = right a act.Nothing r is (sym e, tt, refl)

  stored : (n : ℕ) (s : StoreCode) (how : Access) (first : Bool) (object : CType) (ty : CType) (p v : Operand) (q w : Value)
      → slice_get m.image.code.now.tables.stores.items n ≡ Some s → IsStore how first object s → ty ≡ object → Gives m p q → Gives m v w
      → Right (act.Store n p v) (nodes.put world.rows first how ty (pointer_of q) w)
  stored n s how first object ty p v q w there is same g h = (
    ap (λ (o : Option StoreCode). stored_by world.rows o (pointer_of (given_by m p)) (given_by m v)) there
        ∙ (ap (λ (b : Bool). nodes.put world.rows b s.access (type_of s.ty.now) (pointer_of (given_by m p)) (given_by m v)) is.initializing
        ∙ (ap (λ (a : Access). nodes.put world.rows first a (type_of s.ty.now) (pointer_of (given_by m p)) (given_by m v)) is.access
        ∙ (ap (λ (t : CType). nodes.put world.rows first how t (pointer_of (given_by m p)) (given_by m v)) (is.ty ∙ sym same)
        ∙ ap₂ (λ (x y : Value). nodes.put world.rows first how ty (pointer_of x) y) (given_is m p q g) (given_is m v w h)))),
    (is_given m p q g, is_given m v w h),
    refl,
  )

  change_same : (c : Change) → code.change_access c ≡ nodes.change_access c
  change_same (change.Integer op kind work) = refl
  change_same (change.Pointer size subtract) = refl

  one : (h : Head) (ts : List Typed) → length ts ≡ 1 → Evaluates h (Vals ts) 0 → Operands h ts
      → Gives m (resolved.value_at (Ops ts) 0) (values.value_at (Vals ts) 0)
  one h ts c ev g = g 0 (omega (arith, c)) ev

  -- the value of a node
  value : (d : Node-F Node Typed) (ty : CType) (ts : List Typed) (own : Operand) (room : ℕ) (a : Act)
      → is_quiet_class (head_class (head_in d ty) (model.trees_of (exprs_of ts))) ≡ false → CountIs (sites.head_of d) (length ts)
      → code.IsValue (sites.head_of d) (sight ty ts own room) a → Operands (head_in d ty) ts → IsNearBy (head_in d ty) (Vals ts)
      → OwnIsGiven world m f firsts u.node room (head_in d ty) Val (Vals ts) (own_value Val) → Right a (done_by (head_in d ty) ts Val)
  value (shape.Const z) ty ts own room a q c is g near mine = absurd (not_quiet_number z ty (model.trees_of (exprs_of ts)) q)
  value (shape.Obj slot) ty ts own room a q c is g near mine = absurd (cc)
  value (shape.Func k) ty ts own room a q c is g near mine = absurd (cc)
  value (shape.Str k) ty ts own room a q c is g near mine = absurd (cc)
  value (shape.Load how) ty ts own room a q c is g near mine =
      let p = g 0 (omega (arith, c)) tt in
      right a (act.Load how is.0 (resolved.value_at (Ops ts) 0)) (done_by (model.Load how) ts Val) is.2 (
        ap₂ (λ (t : CType) (v : Value). nodes.load world.rows (event_of world f u) how t (pointer_of v)) (is.1 ∙ sym (types ty ts (omega (arith, c))))
            (is_at ts 0 p),
        has_at ts 0 p,
        refl,
      )
  value (shape.Conv k) ty ts own room a q c is g near mine =
      let p = g 0 (omega (arith, c)) tt in
      right a (act.Convert k (resolved.value_at (Ops ts) 0)) (done_by (model.Conv k) ts Val) is
      (ap (nodes.convert (event_of world f u) k) (is_at ts 0 p), has_at ts 0 p, refl)
  value (shape.Un op) ty ts own room a q c is g near mine =
      let p = g 0 (omega (arith, c)) tt in
      right a (act.Unary op (resolved.value_at (Ops ts) 0)) (done_by (model.Un op) ts Val) is
      (ap (nodes.unary_value op) (is_at ts 0 p), has_at ts 0 p, refl)
  value (shape.Bin op kind) ty ts own room a q c is g near mine =
      let p = g 0 (omega (arith, c)) tt in
      let r = g 1 (omega (arith, c)) tt in
      right a (act.Binary op kind (resolved.value_at (Ops ts) 0) (resolved.value_at (Ops ts) 1)) (done_by (model.Bin op kind) ts Val) is (
        ap₂ (λ (x y : Value). nodes.int_outcome (nodes.operated op kind (integer_of x) (integer_of y))) (is_at ts 0 p) (is_at ts 1 r),
        (has_at ts 0 p, has_at ts 1 r),
        refl,
      )
  value (shape.PtrAdd size subtract) ty ts own room a q c is g near mine =
      let p = g 0 (omega (arith, c)) tt in
      let r = g 1 (omega (arith, c)) tt in
      right a (act.Move size subtract (resolved.value_at (Ops ts) 0) (resolved.value_at (Ops ts) 1)) (done_by (model.PtrAdd size subtract) ts Val) is (
        ap₂ (λ (x y : Value). nodes.shifted world.rows (pointer_of x) (nodes.distance size subtract (integer_of y))) (is_at ts 0 p) (is_at ts 1 r),
        (has_at ts 0 p, has_at ts 1 r, subst (λ (v : Value). IsNear size (integer_of v)) (sym (is_at ts 1 r)) near),
        refl,
      )
  value (shape.PtrDiff size) ty ts own room a q c is g near mine =
      let p = g 0 (omega (arith, c)) tt in
      let r = g 1 (omega (arith, c)) tt in
      right a (act.Distance size (resolved.value_at (Ops ts) 0) (resolved.value_at (Ops ts) 1)) (done_by (model.PtrDiff size) ts Val) is (
        ap₂ (λ (x y : Value). nodes.difference size (pointer_of x) (pointer_of y)) (is_at ts 0 p) (is_at ts 1 r),
        (has_at ts 0 p, has_at ts 1 r),
        refl,
      )
  value (shape.Rel op pointers) ty ts own room a q c is g near mine =
      let p = g 0 (omega (arith, c)) tt in
      let r = g 1 (omega (arith, c)) tt in
      right a (act.Related op pointers (resolved.value_at (Ops ts) 0) (resolved.value_at (Ops ts) 1)) (done_by (model.Rel op pointers) ts Val) is (
        ap₂ (nodes.relational op pointers) (is_at ts 0 p) (is_at ts 1 r),
        (has_at ts 0 p, has_at ts 1 r),
        refl,
      )
  value (shape.Eq op) ty ts own room a q c is g near mine =
      let p = g 0 (omega (arith, c)) tt in
      let r = g 1 (omega (arith, c)) tt in
      right a (act.Equal op (resolved.value_at (Ops ts) 0) (resolved.value_at (Ops ts) 1)) (done_by (model.Eq op) ts Val) is (
        ap₂ (λ (x y : Value). Give (nodes.equal op x y)) (is_at ts 0 p) (is_at ts 1 r),
        (has_at ts 0 p, has_at ts 1 r),
        refl,
      )
  value (shape.Member offset) ty ts own room a q c is g near mine =
      let p = g 0 (omega (arith, c)) tt in
      right a (act.Member offset (resolved.value_at (Ops ts) 0)) (done_by (model.Member offset) ts Val) is
      (ap (λ (x : Value). nodes.member world.rows offset (pointer_of x)) (is_at ts 0 p), has_at ts 0 p, refl)
  value (shape.Part offset how) ty ts own room a q c is g near mine =
      let p = g 0 (omega (arith, c)) tt in
      right a (act.Part offset how (resolved.value_at (Ops ts) 0)) (done_by (model.Part offset how) ts Val) is
      (ap (nodes.part_of (event_of world f u) offset how) (is_at ts 0 p), has_at ts 0 p, refl)
  value (shape.Assign first how) ty ts own room a q c is g near mine =
      let p = g 1 (omega (arith, c)) tt in
      right a (act.Same (resolved.value_at (Ops ts) 1)) (done_by (model.Assign first how) ts Val) is
      (ap Give (is_at ts 1 p), has_at ts 1 p, refl)
  value (shape.Update k true) ty ts own room a q c is g near mine =
      let p = g 0 (omega (arith, c)) tt in
      right a (act.Change k true is.0 (resolved.value_at (Ops ts) 0) (operand.Integer (pos 1)) room) (done_by (model.Update k true) ts Val) is.2 (
        ap₂ (λ (t : CType) (x : Value). nodes.update_value world.rows (event_of world f u) k true t (pointer_of x) (pos 1))
            (is.1 ∙ sym (types ty ts (omega (arith, c)))) (is_at ts 0 p),
        (has_at ts 0 p, number_given m (pos 1), near),
        refl,
      )
  value (shape.Update k false) ty ts own room a q c is g near mine =
      let p = g 0 (omega (arith, c)) tt in
      let r = g 1 (omega (arith, c)) tt in
      right a (act.Change k false is.0 (resolved.value_at (Ops ts) 0) (resolved.value_at (Ops ts) 1) room) (done_by (model.Update k false) ts Val) is.2 (
        ap (λ (t : CType). nodes.update_value world.rows (event_of world f u) k false t (pointer_of (given_by m (resolved.value_at (Ops ts) 0)))
            (integer_of (given_by m (resolved.value_at (Ops ts) 1)))) (is.1 ∙ sym (types ty ts (omega (arith, c))))
            ∙ ap₂ (λ (x y : Value). nodes.update_value world.rows (event_of world f u) k false (pointed_by (steps.first_type (exprs_of ts))) (pointer_of x)
            (integer_of y)) (is_at ts 0 p) (is_at ts 1 r),
        (has_at ts 0 p, has_at ts 1 r, subst (λ (v : Value). IsNearChange k (integer_of v)) (sym (is_at ts 1 r)) near),
        refl,
      )
  value shape.And ty ts own room a q c is g near mine =
      let p = g 0 (omega (arith, c)) tt in
      let first = is_at ts 0 p in
      let second : truth (values.value_at (Vals ts) 0) ≡ true → At ts 1 =
      λ t. g 1 (omega (arith, c)) t in
      right a (act.Logical false (resolved.value_at (Ops ts) 0) (resolved.value_at (Ops ts) 1)) (done_by model.And ts Val) is (
        ap (λ (b : Bool). Give (bool_value b))
            (ap (λ (x : Value). truth x && truth (given_by m (resolved.value_at (Ops ts) 1))) first
            ∙ and_same (truth (values.value_at (Vals ts) 0)) (truth (given_by m (resolved.value_at (Ops ts) 1))) (truth (values.value_at (Vals ts) 1))
            (λ t. ap truth (is_at ts 1 (second t)))),
        (has_at ts 0 p, λ t. has_at ts 1 (second (sym (ap truth first) ∙ t))),
        refl,
      )
  value shape.Or ty ts own room a q c is g near mine =
      let p = g 0 (omega (arith, c)) tt in
      let first = is_at ts 0 p in
      let second : truth (values.value_at (Vals ts) 0) ≡ false → At ts 1 =
      λ t. g 1 (omega (arith, c)) t in
      right a (act.Logical true (resolved.value_at (Ops ts) 0) (resolved.value_at (Ops ts) 1)) (done_by model.Or ts Val) is (
        ap (λ (b : Bool). Give (bool_value b))
            (ap (λ (x : Value). truth x || truth (given_by m (resolved.value_at (Ops ts) 1))) first
            ∙ or_same (truth (values.value_at (Vals ts) 0)) (truth (given_by m (resolved.value_at (Ops ts) 1))) (truth (values.value_at (Vals ts) 1))
            (λ t. ap truth (is_at ts 1 (second t)))),
        (has_at ts 0 p, λ t. has_at ts 1 (second (sym (ap truth first) ∙ t))),
        refl,
      )
  value shape.Cond ty ts own room a q c is g near mine =
      let p = g 0 (omega (arith, c)) tt in
      let first = is_at ts 0 p in
      let one : truth (values.value_at (Vals ts) 0) ≡ true → At ts 1 =
      λ t. g 1 (omega (arith, c)) t in
      let other : truth (values.value_at (Vals ts) 0) ≡ false → At ts 2 =
      λ t. g 2 (omega (arith, c)) t in
      let v = given_by m (resolved.value_at (Ops ts) 1) in
      let w = given_by m (resolved.value_at (Ops ts) 2) in
      right a (act.Selected (resolved.value_at (Ops ts) 0) (resolved.value_at (Ops ts) 1) (resolved.value_at (Ops ts) 2)) (done_by model.Cond ts Val) is (
        ap Give (ap (λ (x : Value). if truth x then v else w) first
            ∙ if_same (truth (values.value_at (Vals ts) 0)) v w (values.value_at (Vals ts) 1) (values.value_at (Vals ts) 2)
            (λ t. is_at ts 1 (one t)) (λ t. is_at ts 2 (other t))),
        (
          has_at ts 0 p,
          branch_given m (truth (given_by m (resolved.value_at (Ops ts) 0))) (resolved.value_at (Ops ts) 1) (resolved.value_at (Ops ts) 2)
              (λ t. has_at ts 1 (one (sym (ap truth first) ∙ t))) (λ t. has_at ts 2 (other (sym (ap truth first) ∙ t))),
        ),
        refl,
      )
  value shape.Comma ty [] own room a q c is g near mine = absurd (omega (arith, c))
  value shape.Comma ty (t ∷ ts) own room a q c is g near mine =
      let p = last_given m world f e.given firsts t ts (suc u.node) (suc u.node) (λ i lt. g i lt tt) in
      let o = code.last_of (Ops (t ∷ ts)) in
      let v = last_value (Vals (t ∷ ts)) in
      right a (act.Same o) (done_by model.Comma (t ∷ ts) Val) is (ap Give (given_is m o v p), is_given m o v p, refl)
  value (shape.Call discarded) ty ts own room a q c is g near mine =
      right a (act.Answer discarded) (done_by (model.Call discarded) ts Val) is
      (ap (nodes.call_value discarded) (given_is m (operand.Done u.node) (own_value Val) mine), is_given m (operand.Done u.node) (own_value Val) mine, refl)
  value (shape.List slot bytes) ty ts own room a q c is g near mine = nothing a (done_by (model.Listed slot (map filling_of bytes)) ts Val) is refl
  value (shape.Isolated tree) ty ts own room a q c is g near mine = nothing a (done_by (head_in (shape.Isolated tree) ty) ts Val) is refl

  -- the effect of an update
  update : (k : Change) (old : Bool) (ty : CType) (ts : List Typed) (room : ℕ) (a : Act) → 0 < length ts
      → code.Stores m.image.code.now.tables (code.change_access k) false (pointed (code.first_type ty ts)) (resolved.value_at (Ops ts) 0) (operand.Done room) a
      → Gives m (resolved.value_at (Ops ts) 0) (values.value_at (Vals ts) 0)
      → Gives m (operand.Done room) (nodes.new_value k old (own_value Eff) (nodes.amount old (Vals ts)))
      → Right a (nodes.put world.rows false (nodes.change_access k) (pointed_by (steps.first_type (exprs_of ts))) (pointer_of (values.value_at (Vals ts) 0))
      (nodes.new_value k old (own_value Eff) (nodes.amount old (Vals ts))))
  update k old ty ts room a some is p mine =
      right a (act.Store is.0 (resolved.value_at (Ops ts) 0) (operand.Done room)) _ is.4
      (subst (λ (how : Access). Right (act.Store is.0 (resolved.value_at (Ops ts) 0) (operand.Done room))
      (nodes.put world.rows false how (pointed_by (steps.first_type (exprs_of ts))) (pointer_of (values.value_at (Vals ts) 0))
      (nodes.new_value k old (own_value Eff) (nodes.amount old (Vals ts))))) (change_same k)
      (stored is.0 is.1 (code.change_access k) false (pointed (code.first_type ty ts)) (pointed_by (steps.first_type (exprs_of ts)))
      (resolved.value_at (Ops ts) 0) (operand.Done room) (values.value_at (Vals ts) 0) (nodes.new_value k old (own_value Eff) (nodes.amount old (Vals ts)))
      is.2 is.3
      (types ty ts some) p mine))

  -- its effect
  effect : (d : Node-F Node Typed) (ty : CType) (ts : List Typed) (own : Operand) (room : ℕ) (a : Act)
      → is_quiet_class (head_class (head_in d ty) (model.trees_of (exprs_of ts))) ≡ false → CountIs (sites.head_of d) (length ts)
      → code.IsEffect firsts m.image.code.now.tables (sites.head_of d) (sight ty ts own room) a → Operands (head_in d ty) ts
      → OwnIsGiven world m f firsts u.node room (head_in d ty) Eff (Vals ts) (own_value Eff) → Right a (done_by (head_in d ty) ts Eff)
  effect (shape.Const z) ty ts own room a q c is g mine = absurd (not_quiet_number z ty (model.trees_of (exprs_of ts)) q)
  effect (shape.Assign first how) ty ts own room a q c is g mine =
      let p = g 0 (omega (arith, c)) tt in
      let r = g 1 (omega (arith, c)) tt in
      right a (act.Store is.0 (resolved.value_at (Ops ts) 0) (resolved.value_at (Ops ts) 1)) (done_by (model.Assign first how) ts Eff) is.4
      (stored is.0 is.1 how first (pointed (code.first_type ty ts)) (pointed_by (steps.first_type (exprs_of ts)))
      (resolved.value_at (Ops ts) 0) (resolved.value_at (Ops ts) 1) (values.value_at (Vals ts) 0) (values.value_at (Vals ts) 1) is.2 is.3
      (types ty ts (omega (arith, c))) p r)
  effect (shape.Update k true) ty ts own room a q c is g mine = update k true ty ts room a (omega (arith, c)) is (g 0 (omega (arith, c)) tt) mine
  effect (shape.Update k false) ty ts own room a q c is g mine = update k false ty ts room a (omega (arith, c)) is (g 0 (omega (arith, c)) tt) mine
  effect (shape.List slot bytes) ty ts own room a q c is g mine =
      right a (act.Fill (object_of firsts slot) is.0) (done_by (model.Listed slot (map filling_of bytes)) ts Eff) is.4 (
        ap (λ (o : Option (Bor (List Constant))). filled_from world.rows o (pointer_of (given_by m (object_of firsts slot)))) is.2
            ∙ ap₂ (λ (v : Value) (cs : List model.Filling). nodes.fill world.rows (pointer_of v) cs)
            (given_is m (object_of firsts slot) (steps.pointer_to world (name_of world f slot)) mine)
            (ap (map filled_by) is.3 ∙ same_fillings bytes),
        is_given m (object_of firsts slot) (steps.pointer_to world (name_of world f slot)) mine,
        refl,
      )
  effect (shape.Obj slot) ty ts own room a q c is g mine = nothing a (done_by (model.Obj slot) ts Eff) is refl
  effect (shape.Func k) ty ts own room a q c is g mine = nothing a (done_by (model.Func k) ts Eff) is refl
  effect (shape.Str k) ty ts own room a q c is g mine = nothing a (done_by (model.Str k) ts Eff) is refl
  effect (shape.Load how) ty ts own room a q c is g mine = nothing a (done_by (model.Load how) ts Eff) is refl
  effect (shape.Conv k) ty ts own room a q c is g mine = nothing a (done_by (model.Conv k) ts Eff) is refl
  effect (shape.Un op) ty ts own room a q c is g mine = nothing a (done_by (model.Un op) ts Eff) is refl
  effect (shape.Bin op kind) ty ts own room a q c is g mine = nothing a (done_by (model.Bin op kind) ts Eff) is refl
  effect (shape.PtrAdd size subtract) ty ts own room a q c is g mine = nothing a (done_by (model.PtrAdd size subtract) ts Eff) is refl
  effect (shape.PtrDiff size) ty ts own room a q c is g mine = nothing a (done_by (model.PtrDiff size) ts Eff) is refl
  effect (shape.Rel op pointers) ty ts own room a q c is g mine = nothing a (done_by (model.Rel op pointers) ts Eff) is refl
  effect (shape.Eq op) ty ts own room a q c is g mine = nothing a (done_by (model.Eq op) ts Eff) is refl
  effect (shape.Member offset) ty ts own room a q c is g mine = nothing a (done_by (model.Member offset) ts Eff) is refl
  effect (shape.Part offset how) ty ts own room a q c is g mine = nothing a (done_by (model.Part offset how) ts Eff) is refl
  effect shape.And ty ts own room a q c is g mine = nothing a (done_by model.And ts Eff) is refl
  effect shape.Or ty ts own room a q c is g mine = nothing a (done_by model.Or ts Eff) is refl
  effect shape.Cond ty ts own room a q c is g mine = nothing a (done_by model.Cond ts Eff) is refl
  effect shape.Comma ty ts own room a q c is g mine = nothing a (done_by model.Comma ts Eff) is refl
  effect (shape.Call discarded) ty ts own room a q c is g mine = nothing a (done_by (model.Call discarded) ts Eff) is refl
  effect (shape.Isolated tree) ty ts own room a q c is g mine = nothing a (done_by (head_in (shape.Isolated tree) ty) ts Eff) is refl

  -- by the kind of the event
  event : (d : Node-F Node Typed) (ty : CType) (ts : List Typed) (own : Operand) (room initializer : ℕ) (k : Kind) (a : Act) → is_body k ≡ false
      → is_quiet_class (head_class (head_in d ty) (model.trees_of (exprs_of ts))) ≡ false → CountIs (sites.head_of d) (length ts)
      → IsAct firsts m.image.code.now.tables initializer (sites.head_of d) (sight ty ts own room) k a → Operands (head_in d ty) ts
      → IsNearBy (head_in d ty) (Vals ts) → OwnIsGiven world m f firsts u.node room (head_in d ty) k (Vals ts) (own_value k)
      → Right a (done_by (head_in d ty) ts k)
  event d ty ts own room initializer Val a plain q c is g near mine = value d ty ts own room a q c is g near mine
  event d ty ts own room initializer Eff a plain q c is g near mine = effect d ty ts own room a q c is g mine
  event d ty ts own room initializer Body a plain q c is g near mine = absurd (cc)

pub acts_are_of_nodes : ActsAreOfNodes
acts_are_of_nodes world m f e firsts root noted d x whole are there due plain quiet takes =
    let t = x.tree.now in
    let u = d.place in
    let ty = own_type t in
    let ts = operands_in t in
    let here : at_node 0 e.root u.node ≡ Some (expr (head_in (node_in t) ty) ty (out-Typed t).line (exprs_of ts)) =
    ap (λ (z : Expr). at_node 0 z u.node) whole ∙ node_is firsts root noted u.node x are there ∙ ap Some (expr_at t) in
    let s = sight_of firsts (length noted) u.node x in
    let head : head_of (expr_of t) ≡ head_in (node_in t) ty = ap head_of (expr_at t) in
    let done = event world m f e firsts u (node_in t) ty ts s.own s.room x.initializer u.kind d.act plain
    (ap (λ (z : Expr). is_quiet (tree_of z)) (sym (expr_at t)) ∙ quiet)
    (subst (λ (h : sites.Head). CountIs h (length ts)) (head_is t) takes.counts)
    (subst (λ (h : sites.Head). IsAct firsts m.image.code.now.tables x.initializer h s u.kind d.act) (head_is t) due.does)
    (subst (λ (h : Head). Operands world m f e firsts u h ts) head takes.operands)
    (subst (λ (h : Head). IsNearBy h (values_of world f e.given (suc u.node) (exprs_of ts))) head takes.near)
    (subst (λ (h : Head). OwnIsGiven world m f firsts u.node s.room h u.kind (values_of world f e.given (suc u.node) (exprs_of ts))
    (or_nothing (e.given (place u.node (own_kind u.kind))))) head takes.own) in
    record {
      same = done.0 ∙ ap (event_act world f e u) (sym here);
      given = done.1;
      no_body = done.2;
    }
