-- Those of the first functions.
use Rattle.std.proofs.Common.{List, Option, take}
use Rattle.std.specs.Borrow.{Bor}
use Rattle.run_control.specs.declared.statement.Statement.{Statement}
use Rattle.run_statements.specs.Jumping.{HasJumps}
use Rattle.run_start.specs.Begins.{IsBodyOf}
use Rattle.run_state.specs.Stands.{AreEach}
use Rattle.run_start.proofs.initial.jumps_of.Given as goal

abbrev pub invariant-loop-function : goal.invariant-loop-function
invariant-loop-function l =
    (bodies : List (Option (Bor Statement))) × HasJumps l.jumps bodies × AreEach IsBodyOf (take l.function-index l.fn.code.functions.items) bodies
