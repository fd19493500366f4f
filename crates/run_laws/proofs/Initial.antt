-- The body of an isolated initializer may start, that comes next in a machine that stands so.
use Rattle.std.proofs.Common.{arith, ◌+◌, ◌<◌, ◌^◌, ℕ, List, Option, Some, ap, subst, ◌∙◌}
use Rattle.ub_base.specs.declared.clause.Kind.{Kind}
use Rattle.c_typed.specs.declared.tree.Node.{Node}
use Rattle.c_typed.specs.declared.tree.Node.TheOpen as shape
use Rattle.c_typed.specs.declared.tree.Node.TheOpen.{Node-F}
use Rattle.c_typed.specs.declared.tree.Typed.{Typed, out-Typed}
use Rattle.c_typed.specs.Sites as sites
use Rattle.c_model.specs.Program.{Expr, expr}
use Rattle.c_model.specs.Runs.{State}
use Rattle.c_model.specs.Steps.{Begun, at_node}
use Rattle.c_model.specs.World.{World}
use Rattle.program_view.specs.Trees.{expr_of, exprs_of}
use Rattle.program_view.proofs.Seen.{operands_in, own_type, head_in, expr_at}
use Rattle.run_control.specs.View.{Meaning}
use Rattle.run_layout.specs.declared.nodes.NodeInfo.{NodeInfo}
use Rattle.run_layout.specs.declared.steps.Due.{Due}
use Rattle.run_layout.specs.declared.steps.Expression.{Expression as Laid}
use Rattle.run_layout.specs.EventActs.{IsAct, sight_of}
use Rattle.run_listing.specs.Along.{IsListed}
use Rattle.run_state.specs.declared.machine.Machine.{Machine}
use Rattle.run_state.specs.declared.machine.Stage.{Stage}
use Rattle.run_answers.proofs.Nodes.{head_is, node_is}
use Rattle.run_answers.specs.Picks.{whole_part}
use Rattle.run_answers.specs.Starting.{IsInitializer}
use Rattle.run_laws.specs.Asked.{CodeHasRooms}
use Rattle.run_layout.specs.Initializers.{NumberInitializers}
use Rattle.run_laws.specs.Initial.{IsIsolatedBody, OpenIsInitializer, OpenMayStart, OpenMayStartNext}
use Rattle.run_laws.specs.Open.{IsOpen}
use Rattle.run_laws.proofs.Given.{due_is, end_small, has_rooms, next_listed, root_is}

module _ (world : World) (meaning : Option ℕ → Meaning) (m : Machine) (st : State) (e : Begun) (s : Stage) (laid : Laid) (firsts : List ℕ)
    (nodes : List NodeInfo) (o : IsOpen world meaning m st e s laid firsts nodes) where
  abbrev Seen : Typed → Node-F Node Typed → Expr
  Seen t d = expr (head_in d (own_type t)) (own_type t) (out-Typed t).line (exprs_of (operands_in t))

  -- rooms are there
  rooms_few : m.top.base + m.top.rooms < 2 ^ 64
  rooms_few = let rooms = o.stood.rooms in omega (arith, rooms, m.values.ok.0)

  pub initializer_is : NumberInitializers m.image.code.now nodes → (d : Due) → IsListed (whole_part m s) d → IsIsolatedBody nodes d
      → IsInitializer m.image.code.now e d
  initializer_is numbered d is b =
      let x = b.node in
      let t = x.tree.now in
      let due = due_is world meaning m st e s laid firsts nodes o d x is b.there in
      let has = numbered d.place.node x b.tree b.there b.isolated in
      let seen = sight_of firsts _ d.place.node x in
      record {
        number = x.initializer;
        act = subst (λ (k : Kind). IsAct firsts m.image.code.now.tables x.initializer (shape.Isolated tt) seen k d.act) b.body
            (subst (λ (h : sites.Head). IsAct firsts m.image.code.now.tables x.initializer h seen d.place.kind d.act)
            (head_is t ∙ ap (λ (z : Node-F Node Typed). sites.head_of z) b.isolated) due.does);
        body = b.body;
        tree = expr_of b.tree;
        ty = own_type t;
        line = (out-Typed t).line;
        operands = exprs_of (operands_in t);
        node = ap (λ (z : Expr). at_node 0 z d.place.node) (root_is world meaning m st e s laid firsts nodes o)
            ∙ (node_is firsts laid.root.now nodes d.place.node x o.lays.numbered b.there
            ∙ (ap Some (expr_at t) ∙ ap (λ (z : Node-F Node Typed). Some (Seen t z)) b.isolated));
        laid = has.0;
        at = has.1;
        root = ap expr_of has.2;
      }

pub is_initializer : OpenIsInitializer
is_initializer world meaning m st e s laid firsts nodes d o numbered is b =
    initializer_is world meaning m st e s laid firsts nodes o numbered d is b

module _ (rooms : CodeHasRooms) where
  pub may_start : OpenMayStart
  may_start world meaning m now st e s laid firsts nodes d o ready none numbered is b goes = record {
    stood = o.stood;
    within = ready.within;
    items = none;
    stage = o.stage;
    end = end_small world meaning m st e s laid firsts nodes o;
    rooms = has_rooms rooms world meaning m st e s laid firsts nodes o;
    few = rooms_few world meaning m st e s laid firsts nodes o;
    event = initializer_is world meaning m st e s laid firsts nodes o numbered d is b;
    goes = goes;
  }

  pub may_start_next : OpenMayStartNext
  may_start_next world meaning m st e s laid firsts nodes o ready straight numbered bodies = record {
    stood = o.stood;
    within = ready.within;
    stage = o.stage;
    straight = straight;
    end = end_small world meaning m st e s laid firsts nodes o;
    rooms = has_rooms rooms world meaning m st e s laid firsts nodes o;
    few = rooms_few world meaning m st e s laid firsts nodes o;
    each = λ next comes.
        initializer_is world meaning m st e s laid firsts nodes o numbered next.1.now
        (next_listed world meaning m st e s laid firsts nodes o straight next comes) (bodies next comes);
  }
