-- A node that chooses among its operands does so by the value of its test (6.5.13p4, 6.5.14p4, 6.5.15p4).
use Rattle.std.specs.Prelude.{◌≡◌, ℕ, Bool, List, Some, slice_get}
use Rattle.mem_objects.specs.declared.value.Value.{Value as Kept_value}
use Rattle.c_model.specs.Values.{truth}
use Rattle.run_values.specs.Views.{value_in}
use Rattle.run_layout.specs.declared.steps.Choice.{Choice}
use Rattle.run_layout.specs.declared.tables.Tables.{Tables}
use Rattle.run_layout.specs.declared.whole.Code.{Code}
use Rattle.run_layout.specs.Chosen.{by_way}
use Rattle.run_layout.specs.InRange.{part_of, way_of}
use Rattle.run_state.specs.declared.machine.Machine.{Machine}
use Rattle.run_state.specs.Operands.{operand_in}
use Rattle.run_answers.specs.Choices.{HasChosen}

-- what is chosen with a choice by the truth of its test: of its node, and at once in the operand that it takes
abbrev pub made_by : Tables → Choice → Bool → List (ℕ × ℕ)
made_by tables c test = by_way c.node (way_of c test).operand (λ i. part_of tables.chosen.items (way_of c test).chosen)

-- the choice of this number is made by the value that its test has
abbrev pub Chooses : Code → ℕ → (old new : Machine) → Type 0
Chooses code number old new =
    (c : Choice) (h : Kept_value) → slice_get code.tables.choices.items number ≡ Some c → operand_in old c.test ≡ Some h
    → HasChosen old (made_by code.tables c (truth (value_in old.memory h))) new
