-- The `switch` statements of the statements so far were added.
use Rattle.std.proofs.Common.{take}
use Rattle.run_statements.specs.Switches.{switches_in_all}
use Rattle.run_statements.proofs.Gathering.{Adds}
use Rattle.run_statements.proofs.switches.+collect.Given as goal

abbrev pub invariant-switches_in-loop-statement : goal.invariant-switches_in-loop-statement
invariant-switches_in-loop-statement l = Adds (switches_in_all (take l.statement-index l.statements)) l.fn.found.items l.found.items
