-- What the acts of events do, where their operands give values (own).
use Rattle.std.specs.Prelude.{◌≡◌, not, ◌&&◌, ◌||◌, Bool, true, false, List, map, slice_get, Option, Some, None, option_map, if◌then◌else◌}
use Rattle.std.specs.Borrow.{Bor}
use Rattle.ub_base.specs.declared.names.Event.{Event}
use Rattle.addr_map.specs.declared.map.Row.{Row}
use Rattle.c_types.specs.Types.{type_of}
use Rattle.c_typed.specs.declared.program.Constant.{Constant}
use Rattle.mem_spec.specs.Script.{Script, Give}
use Rattle.mem_objects.specs.declared.value.Value.{Value as Kept_value}
use Rattle.c_model.specs.Nodes.{
  bool_value,
  call_value,
  convert,
  difference,
  distance,
  equal,
  fill,
  int_outcome,
  load,
  member,
  operated,
  part_of,
  put,
  relational,
  shifted,
  unary_value,
  update_value,
}
use Rattle.c_model.specs.Values.{Pointer, Value, Nothing, integer_of, pointer_of, or_nothing, truth}
use Rattle.run_values.specs.Contents.{filled_by}
use Rattle.run_values.specs.Kept.{IsOf}
use Rattle.run_acts.specs.Updates.{IsNear, IsNearChange}
use Rattle.run_values.specs.Views.{value_in}
use Rattle.run_layout.specs.declared.steps.Act.{Act}
use Rattle.run_layout.specs.declared.steps.Act.TheVariants as act
use Rattle.run_layout.specs.declared.steps.Operand.{Operand}
use Rattle.run_layout.specs.declared.steps.Operand.TheVariants as operand
use Rattle.run_layout.specs.declared.steps.StoreCode.{StoreCode}
use Rattle.run_layout.specs.declared.tables.Tables.{Tables}
use Rattle.run_state.specs.declared.machine.Machine.{Machine}
use Rattle.run_state.specs.Operands.{operand_in}

-- the value of the definitions that an operand gives
abbrev pub given_by : Machine → Operand → Value
given_by m o = or_nothing (option_map (value_in m.memory) (operand_in m o))

-- the operand gives a value, and what the value names was made in the memory
abbrev pub IsGiven : Machine → Operand → Type 0
IsGiven m o = (h : Kept_value) × (operand_in m o ≡ Some h) × IsOf m.memory h

-- the truth of a node that evaluates its second operand where its first doesn't decide (6.5.13p3, 6.5.14p3)
abbrev pub either_truth : (either first second : Bool) → Bool
either_truth either first second = if either then first || second else first && second

-- the one or the other of two operands (6.5.15p4)
abbrev pub chosen_by : Bool → (a b : Operand) → Operand
chosen_by test a b = if test then a else b

-- what an act on pointers does, by the values of its operands (6.5.2.3, 6.5.6, 6.5.8, 6.5.9); initializer lists have no value
abbrev pub pointer_script : List Row → (Operand → Value) → Act → Script Value
pointer_script rows v (act.Move size subtract p i) = shifted rows (pointer_of (v p)) (distance size subtract (integer_of (v i)))
pointer_script rows v (act.Distance size a b) = difference size (pointer_of (v a)) (pointer_of (v b))
pointer_script rows v (act.Related op pointers a b) = relational op pointers (v a) (v b)
pointer_script rows v (act.Equal op a b) = Give (equal op (v a) (v b))
pointer_script rows v (act.Member offset p) = member rows offset (pointer_of (v p))
pointer_script rows v _ = Give Nothing

-- what an act does that gives a value, by those of its operands (6.5)
abbrev pub value_script : List Row → Event → (Operand → Value) → Act → Script Value
value_script rows who v (act.Load how ty place) = load rows who how (type_of ty.now) (pointer_of (v place))
value_script rows who v (act.Convert c o) = convert who c (v o)
value_script rows who v (act.Unary op o) = unary_value op (v o)
value_script rows who v (act.Binary op kind a b) = int_outcome (operated op kind (integer_of (v a)) (integer_of (v b)))
value_script rows who v (act.Part offset how o) = part_of who offset how (v o)
value_script rows who v (act.Same o) = Give (v o)
value_script rows who v (act.Logical either a b) = Give (bool_value (either_truth either (truth (v a)) (truth (v b))))
value_script rows who v (act.Selected test a b) = Give (if truth (v test) then v a else v b)
value_script rows who v (act.Change c old ty place o room) = update_value rows who c old (type_of ty.now) (pointer_of (v place)) (integer_of (v o))
value_script rows who v (act.Answer discarded) = call_value discarded (v (operand.Done who.node))
value_script rows who v a = pointer_script rows v a

-- a store of a value, by its entry in the table of stores (6.5.16p3); constant bytes, by theirs (6.7.9)
abbrev pub stored_by : List Row → Option StoreCode → Pointer → Value → Script Value
stored_by rows None p v = Give Nothing
stored_by rows (Some s) p v = put rows s.initializing s.access (type_of s.ty.now) p v

abbrev pub filled_from : List Row → Option (Bor (List Constant)) → Pointer → Script Value
filled_from rows None p = Give Nothing
filled_from rows (Some constants) p = fill rows p (map filled_by constants.now)

-- what an act does; a body does what its function does
abbrev pub act_script : List Row → Tables → Event → (Operand → Value) → Act → Script Value
act_script rows tables who v (act.Store n place value) = stored_by rows (slice_get tables.stores.items n) (pointer_of (v place)) (v value)
act_script rows tables who v (act.Fill object n) = filled_from rows (slice_get tables.constants.items n) (pointer_of (v object))
act_script rows tables who v a = value_script rows who v a

-- the act by the values of its operands
abbrev pub script_in : List Row → Machine → Event → Act → Script Value
script_in rows m who a = act_script rows m.image.code.now.tables who (given_by m) a

-- the body of a call, or of an isolated initializer
abbrev pub is_body_act : Act → Bool
is_body_act (act.Call n) = true
is_body_act (act.Initialize n) = true
is_body_act a = false

-- the operands of an act on pointers are given
abbrev pub ArePointersGiven : Machine → Act → Type 0
ArePointersGiven m (act.Move size subtract p i) = IsGiven m p × IsGiven m i × IsNear size (integer_of (given_by m i))
ArePointersGiven m (act.Distance size a b) = IsGiven m a × IsGiven m b
ArePointersGiven m (act.Related op pointers a b) = IsGiven m a × IsGiven m b
ArePointersGiven m (act.Equal op a b) = IsGiven m a × IsGiven m b
ArePointersGiven m (act.Member offset p) = IsGiven m p
ArePointersGiven m _ = Unit {0}

-- the operands that an act evaluates are given (6.5.13p4, 6.5.14p4, 6.5.15p4)
abbrev pub AreGiven : Machine → Event → Act → Type 0
AreGiven m who (act.Load how ty place) = IsGiven m place
AreGiven m who (act.Convert c o) = IsGiven m o
AreGiven m who (act.Unary op o) = IsGiven m o
AreGiven m who (act.Binary op kind a b) = IsGiven m a × IsGiven m b
AreGiven m who (act.Part offset how o) = IsGiven m o
AreGiven m who (act.Same o) = IsGiven m o
AreGiven m who (act.Logical either a b) = IsGiven m a × (truth (given_by m a) ≡ not either → IsGiven m b)
AreGiven m who (act.Selected test a b) = IsGiven m test × IsGiven m (chosen_by (truth (given_by m test)) a b)
AreGiven m who (act.Change c old ty place o room) = IsGiven m place × IsGiven m o × IsNearChange c (integer_of (given_by m o))
AreGiven m who (act.Answer discarded) = IsGiven m (operand.Done who.node)
AreGiven m who (act.Store n place value) = IsGiven m place × IsGiven m value
AreGiven m who (act.Fill object n) = IsGiven m object
AreGiven m who a = ArePointersGiven m a
