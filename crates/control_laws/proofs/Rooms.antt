-- The rooms of the full expression that is open in a frame.
use Rattle.std.proofs.Common.{arith, ◌≡◌, ◌≢◌, ℕ, ◌+◌, ◌-◌, ◌<◌, ◌≤◌, ◌^◌, Bool, true, false, List, Option, Some, None, slice_get}
use Rattle.std.proofs.Common.{refl, sym, ap, subst, ◌∙◌, true≢false}
use Rattle.std.specs.Prelude.{is_some}
use Rattle.std.proofs.lemmas.Option.{same_Some}
use Rattle.ub_base.specs.declared.clause.Kind.TheVariants.{Val, Body}
use Rattle.c_typed.specs.declared.program.Program.{Program}
use Rattle.c_typed.specs.declared.tree.Change.{Change}
use Rattle.c_typed.specs.declared.tree.Place.{Place}
use Rattle.c_typed.specs.Decide.{has_kind}
use Rattle.c_typed.specs.Order.{place}
use Rattle.c_typed.specs.Tree.{class_of, kinds_of, size}
use Rattle.elaborate.specs.Expressions.{block_trees}
use Rattle.c_model.specs.ChoiceLaws.{IsClosed, IsNext}
use Rattle.c_model.specs.Program.{Expr, expr, Exprs, Head, Update, head_class, tree_of, trees_of}
use Rattle.c_model.specs.Steps.{Begun, Local, Scene, at_node, taken_by}
use Rattle.c_model.specs.World.{World}
use Rattle.c_model.proofs.FramesKeep.{due_lt}
use Rattle.program_view.proofs.Seen.{same_tree}
use Rattle.run_control.specs.View.{Meaning}
use Rattle.run_layout.specs.declared.nodes.NodeInfo.{NodeInfo}
use Rattle.run_layout.specs.declared.steps.Expression.{Expression as Laid}
use Rattle.run_layout.specs.declared.steps.Listed.{Listed}
use Rattle.run_layout.specs.Functions.{HasExpressions, HaveExpressions, laid_in}
use Rattle.run_layout.specs.Initializers.{NumberInitializers}
use Rattle.run_layout.specs.LaidOut.{LaidOutBy}
use Rattle.run_layout.specs.Named.{IsExpressionOf}
use Rattle.run_layout.specs.OfTrees.{ListsTrees, listing_in}
use Rattle.run_listing.specs.Along.{part_of}
use Rattle.run_state.specs.declared.machine.Machine.{Machine}
use Rattle.run_state.specs.declared.machine.Open.{Open}
use Rattle.run_state.specs.declared.machine.Stage.{Stage}
use Rattle.run_state.specs.Stands.{IsUpdate, StandsExpression}
use Rattle.run_answers.specs.Ending.{IsInRooms, IsRoomFree, IsUpdateRoom, stage_part}
use Rattle.run_answers.specs.Taking.{HasRooms}
use Rattle.run_answers.specs.Beginning.{IsAmong}
use Rattle.control_laws.proofs.Bodies.{body_first, body_node}
use Rattle.control_laws.proofs.Laws.{Laws, each_at, part_same, there_some}
use Rattle.control_laws.proofs.Seen.{OfCode, firsts}
use Rattle.control_laws.proofs.Updates.{own_room, room_behind}

-- ---- how it is laid out
pub record LaysOut (m : Machine) (firsts : List ℕ) (laid : Laid) : Type 0 where
  pub nodes : List NodeInfo
  pub lays : LaidOutBy firsts nodes m.image.code.now.tables m.image.code.now.listing.items laid
  pub initializers : NumberInitializers m.image.code.now nodes

pub lays_out : Laws → (world : World) (p : Program) (m : Machine) (o : Open) (f : Local) (hs : List (Local × Place)) (c : OfCode world p m o f hs)
    → HaveExpressions m.image.code.now.tables (laid_in m.image.code.now) p.functions m.image.code.now.functions.items → (n : ℕ) (laid : Laid)
    → IsAmong c.sees.code.expressions n → slice_get m.image.code.now.expressions.items n ≡ Some laid → LaysOut m (firsts world p m o f hs c) laid
lays_out laws world p m o f hs c have n laid within at =
    let range = c.sees.code.expressions in
    let has : HasExpressions c.block m.image.code.now.tables (laid_in m.image.code.now) range =
    have c.number c.function c.block c.sees.code c.there c.is_block c.sees.at in
    let first = within.first in
    let end = within.end in
    let count = has.count in
    let tree = there_some (block_trees c.block) (n - range.first) (omega (arith, first, end, count)) in
    let it = laws.expressions p m.image.code.now have c.number c.function c.block c.sees.code c.there c.is_block c.sees.at (n - range.first) tree.0 tree.1 in
    let same_number : range.first + (n - range.first) ≡ n = omega (arith, first) in
    let same : it.laid ≡ laid =
    same_Some it.laid laid (sym it.at ∙ (ap (slice_get m.image.code.now.expressions.items) same_number ∙ at)) in
    record {
      nodes = it.nodes;
      lays = subst (λ (z : Laid). LaidOutBy (firsts world p m o f hs c) it.nodes m.image.code.now.tables m.image.code.now.listing.items z) same it.lays;
      initializers = it.initializers;
    }

-- a node that has a body is no update
update_kinds : (h : Head) (c : Change) (old : Bool) (es : Exprs) → h ≡ Update c old → has_kind (kinds_of (head_class h (trees_of es))) Body ≡ true → ⊥
update_kinds h c old es is body =
    let none : has_kind (kinds_of (head_class h (trees_of es))) Body ≡ false =
    ap (λ (z : Head). has_kind (kinds_of (head_class z (trees_of es))) Body) is in
    absurd (true≢false (sym body ∙ none))

no_update : (o : Option Expr) (c : Change) (old : Bool) (es : Exprs) → ((x : Expr) → o ≡ Some x → has_kind (kinds_of (class_of (tree_of x))) Body ≡ true)
    → IsUpdate o c old es → ⊥
no_update None c old es body u = u
no_update (Some (expr h ty line os)) c old es body u = update_kinds h c old os u.0 (body (expr h ty line os) refl)

none_of : {A : Type 0} (o : Option A) → (is_some o ≡ true → ⊥) → o ≡ None
none_of None f = refl
none_of (Some x) f = absurd (f refl)

module _ (laws : Laws) (world : World) (meaning : Meaning) (m : Machine) (height : ℕ) (o : Open) (s : Stage) (f : Scene) (e : Begun) (waiting : Option Place)
    (x : StandsExpression world meaning m height o s f e waiting) (listed : ListsTrees m.image.code.now) (firsts : List ℕ) (lays : LaysOut m firsts x.laid)
  where
    pub has_rooms : HasRooms (stage_part m.image.code.now s) o.rooms e
    has_rooms =
        let part = part_same m.image.code.now.listing.items s.first x.laid.first s.end x.laid.end x.first x.end in
        subst (λ es. HasRooms es o.rooms e) (sym part)
        (subst (λ (n : ℕ). HasRooms (listing_in m.image.code.now.listing.items x.laid) n e) (sym x.rooms)
        (laws.rooms m.image.code.now firsts lays.nodes s.expression x.laid e listed x.at lays.lays x.root))

    few : size (tree_of e.root) < 2 ^ 32
    few =
        let of = each_at (IsExpressionOf m.image.code.now.tables m.image.code.now.listing.items) m.image.code.now.expressions.items s.expression x.laid x.at
        m.image.code.now.within in
        subst (λ t. size t < 2 ^ 32) (sym (ap tree_of x.root ∙ same_tree x.laid.root.now)) of.3

    -- the room of an update is that of its node, or stands behind those of all nodes
    abbrev Entries : List Listed
    Entries = part_of m.image.code.now.listing.items x.laid.first x.laid.end

    as_laid : stage_part m.image.code.now s ≡ Entries
    as_laid = part_same m.image.code.now.listing.items s.first x.laid.first s.end x.laid.end x.first x.end

    abbrev Kept : List Listed → Type 0
    Kept es = (room : ℕ) (r : IsUpdateRoom es e room) → (r.old ≡ false → room ≡ r.due.place.node) × (r.old ≡ true → size (tree_of e.root) ≤ room)

    kept_so : Kept (stage_part m.image.code.now s)
    kept_so = subst Kept (sym as_laid) (λ room r. (
      own_room m.image.code.now.tables m.image.code.now.listing.items x.laid firsts lays.nodes lays.lays e x.root few room r,
      room_behind m.image.code.now.tables m.image.code.now.listing.items x.laid firsts lays.nodes lays.lays e x.root few room r,
    ))

    module _ (closed : IsClosed world f e) where
      given_within : (u : Place) → is_some (e.given u) ≡ true → u.node < o.rooms
      given_within u given =
          let inside = due_lt (taken_by world f e) (tree_of e.root) 0 u (closed u given).due in
          let nodes = has_rooms.nodes in
          omega (arith, inside, nodes)

      -- what is kept of it stands in its rooms
      pub in_rooms : IsInRooms (stage_part m.image.code.now s) o.rooms e
      in_rooms = record {
        val = λ k given. given_within (place k Val) given;
        body = λ k given. given_within (place k Body) given;
        update = has_rooms.within;
      }

      module _ (node : ℕ) (next : IsNext world f e (place node Body)) where
        node_within : node < size (tree_of e.root)
        node_within = let l = due_lt (taken_by world f e) (tree_of e.root) 0 (place node Body) next.due in omega (arith, l)

        -- the node has no value yet, since its body comes before that
        value_none : e.given (place node Val) ≡ None
        value_none = none_of (e.given (place node Val)) (λ given.
            let body =
            (closed (place node Val) given).earlier (place node Body) next.due (body_first (taken_by world f e) (tree_of e.root) 0 node next.due) in
            true≢false (sym body ∙ ap is_some next.left))

        body_there : (y : Expr) → at_node 0 e.root node ≡ Some y → has_kind (kinds_of (class_of (tree_of y))) Body ≡ true
        body_there y at = body_node (taken_by world f e) e.root 0 node y at next.due

        update_apart : (room : ℕ) → IsUpdateRoom (stage_part m.image.code.now s) e room → room ≢ node
        update_apart room r is = go r.old refl
          where
            go : (old : Bool) → r.old ≡ old → ⊥
            go true old =
                let far = (kept_so room r).1 old in
                let near = node_within in
                absurd (omega (arith, far, near, is))
            go false old =
                let number : r.due.place.node ≡ node = sym ((kept_so room r).0 old) ∙ is in
                no_update (at_node 0 e.root node) r.change r.old r.operands body_there
                (subst (λ (k : ℕ). IsUpdate (at_node 0 e.root k) r.change r.old r.operands) number r.update)

        pub room_free : (count : ℕ) → o.base + o.rooms ≤ count → IsRoomFree (stage_part m.image.code.now s) count (o.base + node) e node
        room_free count enough = record {
          there = (let near = node_within in let nodes = has_rooms.nodes in omega (arith, near, nodes, enough));
          value = value_none;
          update = update_apart;
        }
