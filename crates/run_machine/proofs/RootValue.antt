-- The value of a full expression in which no event is left: what the operand of the machine gives is the definitions'.
use Rattle.std.proofs.Common.{◌≡◌, ℕ, not, Bool, true, false, refl, sym, ap, ◌∙◌, subst, true≢false, List, [], length, reverse, Option, Some, None}
use Rattle.std.specs.Prelude.{is_some, if◌then◌else◌}
use Rattle.ub_base.specs.declared.names.Item.{Item}
use Rattle.ub_base.specs.declared.clause.Kind.TheVariants.{Val}
use Rattle.c_typed.specs.Order.{events, place}
use Rattle.c_typed.specs.Tree.{is_quiet}
use Rattle.c_model.specs.Program.{Expr, tree_of}
use Rattle.c_model.specs.Runs.{State}
use Rattle.c_model.specs.Steps.{Begun, Local, Scene, is_settled, quiet_value, root_value, taken_by}
use Rattle.c_model.specs.Values.{Value, or_nothing}
use Rattle.c_model.specs.World.{World}
use Rattle.c_model.proofs.Decided.{due_has, val_due}
use Rattle.program_view.specs.Trees.{expr_of}
use Rattle.run_control.specs.View.{Meaning}
use Rattle.run_layout.specs.declared.steps.Operand.{Operand}
use Rattle.run_layout.specs.Resolved.{resolved}
use Rattle.run_state.specs.declared.machine.Machine.{Machine}
use Rattle.run_state.specs.declared.machine.Stage.{Stage}
use Rattle.run_state.specs.Operands.{AreAddresses, Gives, IsNamed, QuietGives, RoomGives, StandsObjects}
use Rattle.run_state.specs.Stands.{Stands, StandsExpression}
use Rattle.run_answers.specs.Settling.{IsUsable}
use Rattle.run_answers.proofs.Finished.{done_at}

given_there : (o : Option Value) → is_some o ≡ true → (v : Value) × (o ≡ Some v)
given_there None h = absurd (true≢false (sym h))
given_there (Some v) h = (v, refl)

-- the root of a settled full expression has a value that isn't known beforehand
root_given : (world : World) (f : Local) (e : Begun) → is_settled world f e ≡ true → is_quiet (tree_of e.root) ≡ false →
    (v : Value) × (e.given (place 0 Val) ≡ Some v)
root_given world f e settles loud =
    let t = taken_by world f.scene e in
    given_there (e.given (place 0 Val)) (done_at e (events t 0 (tree_of e.root)) (place 0 Val) settles
    (due_has t (tree_of e.root) 0 (place 0 Val) (val_due t (tree_of e.root) 0 (ap not loud))))

value_by : (world : World) (f : Local) (e : Begun) (b : Bool) → is_quiet (tree_of e.root) ≡ b →
    root_value world f e ≡ (if b then quiet_value world f.scene e.root else or_nothing (e.given (place 0 Val)))
value_by world f e b is = ap (λ (c : Bool). if c then quiet_value world f.scene e.root else or_nothing (e.given (place 0 Val))) is

objects_there : (world : World) (meaning : Option ℕ → Meaning) (m : Machine) (st : State) → AreAddresses world.rows → Stands world meaning m st →
    StandsObjects world m st.top.scene
objects_there world meaning m st addresses s =
    record { rows = s.memory.rows; addresses = addresses; places = s.tables.places; locals = s.frames.0.locals }

-- the machine has touched nothing
untouched : (m : Machine) (f : Scene) (firsts : List ℕ) (x : Expr) → m.items ≡ [] → IsNamed (record m { items = [] }) firsts f.blocks x →
    IsNamed m firsts f.blocks x
untouched m f firsts x none named =
    subst (λ (is : List Item). IsNamed (record m { items = is }) firsts f.blocks x) (sym none) named

module _ (quiet : QuietGives) (room : RoomGives) (world : World) (meaning : Option ℕ → Meaning) (m : Machine) (stage : Stage) (st : State) (e : Begun)
    (s : Stands world meaning m st) (none : m.items ≡ []) (addresses : AreAddresses world.rows)
    (x : StandsExpression world (meaning m.top.function) m (length (reverse m.below.items)) m.top stage st.top.scene e None)
    (u : IsUsable m st.top.scene x.laid) (settles : is_settled world st.top e ≡ true) where
  abbrev root : Expr
  root = expr_of x.laid.root.now

  resolved_gives : (b : Bool) → is_quiet (tree_of e.root) ≡ b → Gives m (resolved u.firsts x.laid.root.now 0) (root_value world st.top e)
  resolved_gives true is =
      let known = ap (λ (r : Expr). is_quiet (tree_of r)) (sym x.root) ∙ is in
      let gives = quiet world m st.top.scene u.firsts x.laid.root.now 0 (objects_there world meaning m st addresses s) known
      (untouched m st.top.scene u.firsts root none (u.named known)) in
      subst (λ (v : Value). Gives m (resolved u.firsts x.laid.root.now 0) v)
      (ap (quiet_value world st.top.scene) (sym x.root) ∙ sym (value_by world st.top e true is)) gives
  resolved_gives false is =
      let has_value = root_given world st.top e settles is in
      let v = has_value.0 in
      let loud = ap (λ (r : Expr). is_quiet (tree_of r)) (sym x.root) ∙ is in
      let same : v ≡ root_value world st.top e = ap or_nothing (sym has_value.1) ∙ sym (value_by world st.top e false is) in
      subst (λ (w : Value). Gives m (resolved u.firsts x.laid.root.now 0) w) same
      (room m u.firsts x.laid.root.now 0 v loud (x.values.val 0 v has_value.1))

  -- the operand of the open full expression gives the value of its root
  pub root_gives : Gives m stage.value (root_value world st.top e)
  root_gives = subst (λ (o : Operand). Gives m o (root_value world st.top e)) (sym (x.value ∙ u.value)) (resolved_gives (is_quiet (tree_of e.root)) refl)
