-- At a canonical pick that is an event everything is there that picks ask.
use Rattle.std.proofs.Common.{arith, ◌≡◌, ◌+◌, ◌<◌, ◌≤◌, ◌^◌, ℕ, suc, Bool, true, false, List, length, Option, Some, None, slice_get, refl, sym, ap, subst, ◌∙◌}
use Rattle.std.specs.Borrow.{Bor}
use Rattle.ub_base.specs.declared.clause.Kind.{Kind}
use Rattle.ub_base.specs.declared.clause.Kind.TheVariants.{Body, Val, Eff}
use Rattle.c_types.specs.declared.library.LibFunc.{LibFunc}
use Rattle.c_types.specs.Types.{CType}
use Rattle.c_typed.specs.declared.program.Program.{Program}
use Rattle.c_typed.specs.declared.tree.Node.TheOpen as shape
use Rattle.c_typed.specs.declared.tree.Place.{Place}
use Rattle.c_typed.specs.declared.tree.Typed.{Typed, out-Typed}
use Rattle.c_typed.specs.Decide.{due_in}
use Rattle.c_typed.specs.Order.{is_body, place}
use Rattle.c_typed.specs.Tree.{size}
use Rattle.c_model.specs.Program.{Call, Expr, expr, Exprs, Head, tree_of}
use Rattle.c_model.specs.Runs.{State, canonical_pick, library_of}
use Rattle.c_model.specs.Steps.{Begun, Ev, at_node, called_by, taken_by, values_of}
use Rattle.c_model.specs.World.{World}
use Rattle.c_model.proofs.FramesKeep.{due_lt}
use Rattle.program_view.specs.Trees.{expr_of, exprs_of}
use Rattle.program_view.proofs.Seen.{expr_at, head_in, node_in, operands_in, own_type, same_tree}
use Rattle.run_control.specs.View.{Meaning}
use Rattle.run_layout.specs.declared.nodes.NodeInfo.{NodeInfo}
use Rattle.run_layout.specs.declared.steps.Due.{Due}
use Rattle.run_layout.specs.Roots.{AreInBlocks}
use Rattle.run_statements.specs.declared.numbers.Numbers.{Numbers}
use Rattle.run_state.specs.declared.machine.Machine.{Machine}
use Rattle.run_state.specs.declared.machine.Stage.{Stage}
use Rattle.run_answers.proofs.Nodes.{node_is}
use Rattle.run_answers.specs.Library.{HasFunctions}
use Rattle.run_answers.specs.Picks.{ComesNext, FollowsCanonical}
use Rattle.run_answers.specs.Starting.{AreCallable}
use Rattle.code_view.specs.Numbering.{meaning_of}
use Rattle.run_laws.specs.Calls.{HasPlaces, IsCallBody}
use Rattle.run_laws.specs.LibraryCalls.{CallsLibrary, OpenMayCallLibraryNext}
use Rattle.run_laws.specs.Open.{IsOpen}
use Rattle.run_laws.proofs.Given.{root_is}
use Rattle.run_laws.specs.Going.{IsGoing}
use Rattle.control_laws.specs.Control.{IsOpenAs}
use Rattle.control_laws.proofs.Bodies.{body_node}
use Rattle.control_laws.proofs.Laws.{Laws, there_some}
use Rattle.pick_laws.specs.Next.{CallIsNext, CallsOwnAt, EventIsNext, InitializerIsNext}
use Rattle.pick_laws.proofs.Next.{next_is, straight}
use Rattle.canonical_laws.specs.Asked.{EventIsAsked, IsAsked, IsEventNext, MayPickNext, call, initializer, library, plain}
use Rattle.canonical_laws.proofs.Bases.{has_places}
use Rattle.canonical_laws.proofs.Opened.{Opens, open_clear, opened, staged}
use Rattle.canonical_laws.proofs.Shapes.{IsBodyNode, body_node_shape, calls, isolates, pick_due}
use Rattle.canonical_laws.proofs.Sizes.{sizes_small}

-- ---- what calls ask of the program and of the limits
module _ (world : World) (p : Program) (numbers : Numbers) (m : Machine) (st : State) (n : ℕ) (g : IsGoing world p numbers m st n) where
  blocks : AreInBlocks m.program.now.functions
  blocks = subst (λ (q : Program). AreInBlocks q.functions) (sym g.program) g.set_up.whole.blocks

  few : length m.program.now.functions ≤ 2 ^ 32
  few =
      let numbered = g.set_up.whole.lawful.numbered.functions in
      subst (λ (q : Program). length q.functions ≤ 2 ^ 32) (sym g.program) (omega (arith, numbered))

  pub callable : AreCallable world m.program.now
  callable = record { blocks = blocks; few = few; depth = g.set_up.world.limits.depth }

  pub functions : HasFunctions world m.program.now
  functions = record { blocks = blocks; few = few; limits = (g.set_up.world.limits.created, g.set_up.world.limits.output) }

-- ---- kinds
body_kind : (k : Kind) → is_body k ≡ true → k ≡ Body
body_kind Body is = refl
body_kind Val is = absurd (cc (is))
body_kind Eff is = absurd (cc (is))

same_operands : (h g : Head) (t u : CType) (l k : ℕ) (es fs : Exprs) → Some (expr h t l es) ≡ Some (expr g u k fs) → es ≡ fs
same_operands h g t u l k es fs e = cc

pub record Next : Type 0 where
  pub laws : Laws
  pub opens : Opens
  pub event : EventIsNext
  pub initializer : InitializerIsNext
  pub call : CallIsNext
  pub library : OpenMayCallLibraryNext
  pub follows : FollowsCanonical

module _ (by : Next) (world : World) (p : Program) (numbers : Numbers) (m : Machine) (st : State) (n : ℕ) (u : Place) (a : IsAsked world p numbers m st n)
    (is : canonical_pick world st.top st.top.begun ≡ Ev u) (e : Begun) (begun : st.top.begun ≡ Some e) where
  abbrev meaning : Option ℕ → Meaning
  meaning = meaning_of p numbers m.image.code.now

  abbrev s : Stage
  s = (staged by.opens world p numbers m st n a e begun).0

  o : IsOpenAs world p numbers m st e s
  o = opened by.opens world p numbers m st n a e begun

  due : due_in (taken_by world st.top.scene e) 0 (tree_of e.root) u ≡ true
  due = pick_due world st.top e u (subst (λ b. canonical_pick world st.top b ≡ Ev u) begun is)

  root : e.root ≡ expr_of o.laid.root.now
  root = root_is world meaning m st e s o.laid o.firsts o.nodes o.open_so

  there : (x : NodeInfo) × (slice_get o.nodes u.node ≡ Some x)
  there =
      there_some o.nodes u.node
      (let inside = due_lt (taken_by world st.top.scene e) (tree_of e.root) 0 u due in
      let count = o.open_so.lays.numbered.count in
      let tree = ap (λ z. size (tree_of z)) root in
      let same = ap size (same_tree o.laid.root.now) in
      omega (arith, inside, count, tree, same))

  abbrev t : Typed
  t = there.0.tree.now

  at : at_node 0 e.root u.node ≡ Some (expr_of t)
  at = ap (λ (z : Expr). at_node 0 z u.node) root
      ∙ node_is o.firsts o.laid.root.now o.nodes u.node there.0 o.open_so.lays.numbered there.1

  -- ---- it is a body
  module _ (body : u.kind ≡ Body) where
    abbrev May : Type 0
    May = MayPickNext world meaning m st e s o.laid u

    node_so : IsBodyNode (node_in t)
    node_so =
        body_node_shape t
        (body_node (taken_by world st.top.scene e) e.root 0 u.node (expr_of t) at
        (subst (λ (k : Kind). due_in (taken_by world st.top.scene e) 0 (tree_of e.root) (place u.node k) ≡ true) body due))

    -- of a call
    module _ (d : Bool) (is_call : node_in t ≡ shape.Call d) where
      abbrev Called : ℕ → Exprs → Option LibFunc
      Called k es = library_of (called_by world (values_of world st.top.scene e.given (suc k) es))

      call_at : at_node 0 e.root u.node ≡ Some (expr (Call d) (own_type t) (out-Typed t).line (exprs_of (operands_in t)))
      call_at = at ∙ (ap Some (expr_at t)
          ∙ ap (λ z. Some (expr (head_in z (own_type t)) (own_type t) (out-Typed t).line (exprs_of (operands_in t)))) is_call)

      abbrev CallsAt : Option LibFunc → Place → Type 0
      CallsAt g w = (discarded : Bool) (ty : CType) (line : ℕ) (operands : Exprs) → at_node 0 e.root w.node ≡ Some (expr (Call discarded) ty line operands)
          → Called w.node operands ≡ g

      calls_at : (g : Option LibFunc) → Called u.node (exprs_of (operands_in t)) ≡ g → CallsAt g u
      calls_at g q discarded ty line operands here =
          subst (λ es. Called u.node es ≡ g)
          (same_operands (Call d) (Call discarded) (own_type t) ty (out-Typed t).line line (exprs_of (operands_in t)) operands (sym call_at ∙ here)) q

      places : HasPlaces m
      places = has_places by.laws world p numbers m st n a.going a.held a.few

      next_place : (next : ℕ × Bor Due) → ComesNext m s (Some next) → next.1.now.place ≡ u
      next_place next c = next_is by.follows world p numbers m st n e s o.laid o.firsts o.nodes u a.going o.open_so is next c

      calls_library : (g : LibFunc) → CallsAt (Some g) u → (w : Due) → w.place ≡ u → CallsLibrary world st.top.scene e w
      calls_library g own w same = record {
        function = g;
        own = subst (CallsAt (Some g)) (sym same) own;
        sizes = λ discarded ty line operands here.
            sizes_small world st.top.scene e w.place.node (Call discarded) ty line operands g a.small.rows (a.placed.top.begun e begun).root
            o.open_so.small here;
      }

      body_of_call : (w : Due) → w.place ≡ u → IsCallBody o.nodes w
      body_of_call w same = record {
        node = there.0;
        discarded = d;
        there = ap (λ (z : Place). slice_get o.nodes z.node) same ∙ there.1;
        call = is_call;
        body = ap (λ (z : Place). z.kind) same ∙ body;
      }

      by_function : (g : Option LibFunc) → Called u.node (exprs_of (operands_in t)) ≡ g → May
      by_function None q =
          call body
          (by.call world p numbers m st n e s o.laid o.firsts o.nodes u there.0 d a.going o.open_so a.extends is body places
          (callable world p numbers m st n a.going) there.1 is_call (calls_at None q))
      by_function (Some g) q =
          library body
          (by.library world meaning m st e s o.laid o.firsts o.nodes o.open_so a.going.within
          (straight by.follows world p numbers m st n e s o.laid o.firsts o.nodes u a.going o.open_so is) places
          (functions world p numbers m st n a.going)
          (λ next c. (
            body_of_call next.1.now (next_place next c),
            calls_library g (calls_at (Some g) q) next.1.now (next_place next c),
          )))

      may_call : May
      may_call = by_function (Called u.node (exprs_of (operands_in t))) refl

    by_node : IsBodyNode (node_in t) → May
    by_node (calls d z) = may_call d z
    by_node (isolates tree z) =
        initializer body
        (by.initializer world p numbers m st n e s o.laid o.firsts o.nodes u there.0 tree a.going o.open_so a.extends is body o.initializers there.1 z)

  may_pick : (b : Bool) → is_body u.kind ≡ b → MayPickNext world meaning m st e s o.laid u
  may_pick false is_plain = plain is_plain (by.event world p numbers m st n e s o.laid o.firsts o.nodes u a.going o.open_so a.extends is is_plain)
  may_pick true is_so = let body = body_kind u.kind is_so in by_node body (node_so body)

  pub event_next : IsEventNext world meaning m st u
  event_next = record {
    expression = e;
    begun = begun;
    stage = s;
    staged = (staged by.opens world p numbers m st n a e begun).1;
    laid = o.laid;
    firsts = o.firsts;
    nodes = o.nodes;
    open_so = o.open_so;
    clear = open_clear world meaning m st e s o.laid o.firsts o.nodes o.open_so;
    may = may_pick (is_body u.kind) refl;
  }

pub event_asked : Next → EventIsAsked
event_asked by world p numbers m st n u a is = go st.top.begun refl
  where
    go : (b : Option Begun) → st.top.begun ≡ b → IsEventNext world (meaning_of p numbers m.image.code.now) m st u
    go None none = absurd (control (subst (λ z. canonical_pick world st.top z ≡ Ev u) none is))
      where
        control : canonical_pick world st.top None ≡ Ev u → ⊥
        control q = cc (q)
    go (Some e) begun = event_next by world p numbers m st n u a is e begun
