-- What operands give is the same whatever is open in the top frame, whatever result it has, and whatever was touched.
use Rattle.std.proofs.Common.{◌≡◌, refl, List, Option}
use Rattle.ub_base.specs.declared.names.Item.{Item}
use Rattle.mem_objects.specs.declared.value.Value.{Value}
use Rattle.run_layout.specs.declared.steps.Operand.{Operand}
use Rattle.run_layout.specs.declared.steps.Operand.TheVariants as operand
use Rattle.run_state.specs.declared.machine.Machine.{Machine}
use Rattle.run_state.specs.declared.machine.Stage.{Stage}
use Rattle.run_state.specs.Operands.{operand_in}

pub operand_aside : (m : Machine) (stage : Option Stage) (left : Option Value) (items : List Item) (o : Operand) →
    operand_in (record m { top = record m.top { stage = stage }; left = left; items = items }) o ≡ operand_in m o
operand_aside m stage left items (operand.Integer z) = refl
operand_aside m stage left items (operand.Address a) = refl
operand_aside m stage left items (operand.Function a) = refl
operand_aside m stage left items (operand.Local number offset) = refl
operand_aside m stage left items (operand.Static number offset) = refl
operand_aside m stage left items (operand.Literal number offset) = refl
operand_aside m stage left items (operand.Done node) = refl
