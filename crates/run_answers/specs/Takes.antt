-- What an event takes that may come next is given, in a machine that stands for what the definitions know (own).
use Rattle.std.specs.Prelude.{◌≡◌, ◌<◌, ℕ, suc, Bool, true, false, List, length, Some, slice_get}
use Rattle.std.specs.List.{All}
use Rattle.c_typed.specs.declared.tree.Place.{Place}
use Rattle.c_typed.specs.declared.tree.Typed.{Typed, out-Typed}
use Rattle.c_typed.specs.Lawful.{CountIs}
use Rattle.c_typed.specs.Order.{IsPermitted, is_body}
use Rattle.c_typed.specs.Tree.{is_quiet}
use Rattle.c_model.specs.Program.{Call, Head, Listed, tree_of}
use Rattle.c_model.specs.Steps.{Scene, Begun, is_done, taken_by, values_of}
use Rattle.c_model.specs.Values as values
use Rattle.c_model.specs.World.{World}
use Rattle.program_view.specs.Trees.{expr_of, exprs_of}
use Rattle.run_layout.specs.declared.nodes.NodeInfo.{NodeInfo}
use Rattle.run_layout.specs.declared.steps.Due.{Due}
use Rattle.run_layout.specs.declared.steps.Listed.TheVariants as listed
use Rattle.run_layout.specs.EventActs.{IsDue, head_at}
use Rattle.run_layout.specs.Numbered.{AreNodes}
use Rattle.run_layout.specs.Resolved.{operands_from, value_at}
use Rattle.run_listing.specs.Along.{part_of}
use Rattle.run_state.specs.declared.machine.Machine.{Machine}
use Rattle.run_state.specs.Operands.{Gives, IsNamed, IsThere, StandsObjects}
use Rattle.run_state.specs.Stands.{StandsValues}
use Rattle.run_answers.specs.Nodes.{head_of, IsNearBy, TakesGiven}

-- where the head is that of an initializer list, its object is there
abbrev pub ListIsThere : Machine → List ℕ → List (ℕ × ℕ) → Head → Type 0
ListIsThere m firsts blocks (Listed slot fillings) = IsThere m firsts blocks slot
ListIsThere m firsts blocks h = Unit {0}

-- a node as it stands in a lawful program: it has the operands that its operator takes, and what is known beforehand of it is named
pub record NodeStands (m : Machine) (firsts : List ℕ) (blocks : List (ℕ × ℕ)) (t : Typed) : Type 0 where
  pub counts : CountIs (head_at (out-Typed t).node) (length (out-Typed t).children)
  pub operands : All (λ o. is_quiet (tree_of (expr_of o)) ≡ true → IsNamed m firsts blocks (expr_of o)) (out-Typed t).children
  pub list : ListIsThere m firsts blocks (head_of (expr_of t))

-- What is permitted to come next finds what it takes, of a full expression whose listing stands there; a pointer that moves, where it moves by fewer
-- than 2^127 bytes.
abbrev pub PermittedTakesGiven : Type 0
PermittedTakesGiven =
    (world : World) (m : Machine) (f : Scene) (e : Begun) (firsts : List ℕ) (root : Typed) (nodes : List NodeInfo) (d : Due) (x : NodeInfo)
    (first end i : ℕ) → StandsObjects world m f → StandsValues world m m.top.base first end f e → e.root ≡ expr_of root → AreNodes firsts root nodes
    → slice_get nodes d.place.node ≡ Some x → IsDue firsts m.image.code.now.tables (length nodes) d x
    → slice_get (part_of m.image.code.now.listing.items first end) i ≡ Some (listed.Event d)
    → IsPermitted (tree_of e.root) (taken_by world f e) (is_done e) d.place → is_body d.place.kind ≡ false
    → NodeStands m firsts f.blocks x.tree.now
    → IsNearBy (head_of (expr_of x.tree.now)) (values_of world f e.given (suc d.place.node) (exprs_of (out-Typed x.tree.now).children))
    → TakesGiven world m f e firsts (length nodes) d.place x

-- So do the operands of a call, whose body is permitted to come next (6.5.2.2p10).
abbrev pub CallTakesGiven : Type 0
CallTakesGiven =
    (world : World) (m : Machine) (f : Scene) (e : Begun) (firsts : List ℕ) (root : Typed) (nodes : List NodeInfo) (u : Place) (x : NodeInfo)
    (discarded : Bool) (first end : ℕ) → StandsObjects world m f → StandsValues world m m.top.base first end f e → e.root ≡ expr_of root
    → AreNodes firsts root nodes → slice_get nodes u.node ≡ Some x → IsPermitted (tree_of e.root) (taken_by world f e) (is_done e) u
    → head_of (expr_of x.tree.now) ≡ Call discarded → NodeStands m firsts f.blocks x.tree.now → (i : ℕ) → i < length (out-Typed x.tree.now).children
    → Gives m (value_at (operands_from firsts (suc u.node) (out-Typed x.tree.now).children) i)
    (values.value_at (values_of world f e.given (suc u.node) (exprs_of (out-Typed x.tree.now).children)) i)
