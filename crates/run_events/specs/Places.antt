-- The place that an operand leads to (own).
use Rattle.std.specs.Prelude.{◌≡◌, ℕ, Some}
use Rattle.ub_base.specs.declared.names.ObjName.{ObjName}
use Rattle.exposure.specs.declared.prov.Prov.TheVariants.{Whole}
use Rattle.mem_objects.specs.declared.value.Value.{Value as Kept_value}
use Rattle.mem_objects.specs.Memory.{Kept}
use Rattle.c_model.specs.Values.{pointer_of}
use Rattle.run_values.specs.declared.values.Pointer.{Pointer}
use Rattle.run_values.specs.Views.{value_in, pointer_at}
use Rattle.run_layout.specs.declared.steps.Operand.{Operand}
use Rattle.run_state.specs.declared.machine.Machine.{Machine}
use Rattle.run_state.specs.Operands.{operand_in}

-- the pointer is the one that the operand gives, where it gives a value
abbrev pub LeadsTo : Machine → Operand → Pointer → Type 0
LeadsTo m o p = (h : Kept_value) → operand_in m o ≡ Some h → (k : Kept) → pointer_at p ≡ pointer_of (value_in k h)

-- a pointer to this address, made from one object
abbrev pub into_object : ObjName → ℕ → Pointer
into_object x a = record { addr = a; prov = Whole x }
