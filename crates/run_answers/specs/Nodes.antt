-- The act of an event in the code is that of its node in the definitions of runs, where its operands give their values (own).
use Rattle.std.specs.Prelude.{◌≡◌, ◌<◌, ℕ, suc, zero, true, false, List, length, Some, slice_get}
use Rattle.ub_base.specs.declared.clause.Kind.{Kind}
use Rattle.ub_base.specs.declared.clause.Kind.TheVariants.{Val, Eff}
use Rattle.c_typed.specs.declared.tree.Place.{Place}
use Rattle.c_typed.specs.declared.tree.Typed.{Typed, out-Typed}
use Rattle.c_typed.specs.Lawful.{CountIs}
use Rattle.c_typed.specs.Order.{place, is_body}
use Rattle.c_typed.specs.Tree.{is_quiet}
use Rattle.c_model.specs.Program.{Head, PtrAdd, Update, And, Or, Cond, Call, Listed, Expr, expr, tree_of}
use Rattle.c_model.specs.Nodes.{amount, new_value}
use Rattle.c_model.specs.Steps.{Scene, Begun, at_node, event_act, event_of, name_of, own_kind, pointer_to, values_of}
use Rattle.c_model.specs.Values.{Value, integer_of, or_nothing, truth, value_at}
use Rattle.c_model.specs.World.{World}
use Rattle.program_view.specs.Trees.{expr_of, exprs_of}
use Rattle.run_acts.specs.Updates.{IsNear, IsNearChange}
use Rattle.run_layout.specs.declared.nodes.NodeInfo.{NodeInfo}
use Rattle.run_layout.specs.declared.steps.Due.{Due}
use Rattle.run_layout.specs.declared.steps.Operand.TheVariants as operand
use Rattle.run_layout.specs.EventActs.{IsDue, head_at, sight_of}
use Rattle.run_layout.specs.Numbered.{AreNodes}
use Rattle.run_layout.specs.Resolved as resolved
use Rattle.run_layout.specs.Resolved.{object_of}
use Rattle.run_state.specs.declared.machine.Machine.{Machine}
use Rattle.run_state.specs.Operands.{Gives}
use Rattle.run_answers.specs.Acts.{is_body_act, script_in, AreGiven}

abbrev pub head_of : Expr → Head
head_of (expr h ty line es) = h

-- the operand of this number is evaluated, by the values of the operands (6.5.13p4, 6.5.14p4, 6.5.15p4)
abbrev pub Evaluates : Head → List Value → ℕ → Type 0
Evaluates And vs (suc i) = truth (value_at vs 0) ≡ true
Evaluates Or vs (suc i) = truth (value_at vs 0) ≡ false
Evaluates Cond vs (suc zero) = truth (value_at vs 0) ≡ true
Evaluates Cond vs (suc (suc i)) = truth (value_at vs 0) ≡ false
Evaluates h vs i = Unit {0}

-- a pointer moves by fewer than 2^127 bytes
abbrev pub IsNearBy : Head → List Value → Type 0
IsNearBy (PtrAdd size subtract) vs = IsNear size (integer_of (value_at vs 1))
IsNearBy (Update c old) vs = IsNearChange c (amount old vs)
IsNearBy h vs = Unit {0}

-- What an event takes from an earlier one of its node is given: what the body of a call left; what an update is to store. So is the object of a list.
abbrev pub OwnIsGiven : World → Machine → Scene → List ℕ → (n room : ℕ) → Head → Kind → List Value → (own : Value) → Type 0
OwnIsGiven world m f firsts n room (Call discarded) Val vs own = Gives m (operand.Done n) own
OwnIsGiven world m f firsts n room (Update c old) Eff vs own = Gives m (operand.Done room) (new_value c old own (amount old vs))
OwnIsGiven world m f firsts n room (Listed slot fillings) Eff vs own = Gives m (object_of firsts slot) (pointer_to world (name_of world f slot))
OwnIsGiven world m f firsts n room h kind vs own = Unit {0}

-- what an event of this node takes: the node has the operands that its operator takes, and those that it evaluates give their values
pub record TakesGiven (world : World) (m : Machine) (f : Scene) (e : Begun) (firsts : List ℕ) (count : ℕ) (u : Place) (x : NodeInfo) : Type 0 where
  pub counts : CountIs (head_at (out-Typed x.tree.now).node) (length (out-Typed x.tree.now).children)
  pub operands : (i : ℕ) → i < length (out-Typed x.tree.now).children
      → Evaluates (head_of (expr_of x.tree.now)) (values_of world f e.given (suc u.node) (exprs_of (out-Typed x.tree.now).children)) i
      → Gives m (resolved.value_at (sight_of firsts count u.node x).operands i)
      (value_at (values_of world f e.given (suc u.node) (exprs_of (out-Typed x.tree.now).children)) i)
  pub near : IsNearBy (head_of (expr_of x.tree.now)) (values_of world f e.given (suc u.node) (exprs_of (out-Typed x.tree.now).children))
  pub own : OwnIsGiven world m f firsts u.node (sight_of firsts count u.node x).room (head_of (expr_of x.tree.now)) u.kind
      (values_of world f e.given (suc u.node) (exprs_of (out-Typed x.tree.now).children)) (or_nothing (e.given (place u.node (own_kind u.kind))))

-- the act does what the event does by the definitions, and its operands are given
pub record IsActOf (world : World) (m : Machine) (f : Scene) (e : Begun) (d : Due) : Type 0 where
  pub same : script_in world.rows m (event_of world f d.place) d.act ≡ event_act world f e d.place (at_node 0 e.root d.place.node)
  pub given : AreGiven m (event_of world f d.place) d.act
  pub no_body : is_body_act d.act ≡ false

-- Of each event but a body that is listed of a full expression: it is an event of one of its nodes, which isn't known beforehand.
abbrev pub ActsAreOfNodes : Type 0
ActsAreOfNodes =
    (world : World) (m : Machine) (f : Scene) (e : Begun) (firsts : List ℕ) (root : Typed) (nodes : List NodeInfo) (d : Due) (x : NodeInfo)
    → e.root ≡ expr_of root → AreNodes firsts root nodes → slice_get nodes d.place.node ≡ Some x
    → IsDue firsts m.image.code.now.tables (length nodes) d x → is_body d.place.kind ≡ false → is_quiet (tree_of (expr_of x.tree.now)) ≡ false
    → TakesGiven world m f e firsts (length nodes) d.place x → IsActOf world m f e d
