use Rattle.std.proofs.Common.{◌≡◌, ◌≤◌, ℕ, suc, length, List}
use Rattle.c_typed.specs.declared.tree.Typed.{Typed}
use Rattle.run_layout.specs.Numbered.{AreBelow, AreNoted}
use Rattle.run_layout.specs.AtOnce.{operand_number}
use Rattle.run_code.proofs.choices.operand_number.Given as goal

abbrev pub invariant-loop-operand : goal.invariant-loop-operand
invariant-loop-operand l =
    (firsts : List ℕ) (ts : List Typed) → AreNoted firsts l.nodes → AreBelow l.nodes l.number (suc l.number) ts → l.index ≤ length ts
    → l.at ≡ operand_number ts l._operand (suc l.number)
