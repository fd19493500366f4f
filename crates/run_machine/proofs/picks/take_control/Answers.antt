use Rattle.std.proofs.Common.{ℕ, Option}
use Rattle.run_machine.proofs.Keeping.{status_kept}
use Rattle.run_machine.proofs.RowsStand.{halt_rows, status_rows}
use Rattle.run_answers.proofs.Staying.{halt_told, status_told}
use Rattle.run_answers.specs.declared.pick.Pick.{Pick}
use Rattle.run_machine.proofs.Written.{streams_err}
use Rattle.run_machine.proofs.picks.take_control.Goals as goal

pub returns-in-Ok-clause-answers : goal.returns-in-Ok-clause-answers
returns-in-Ok-clause-answers c = status_told c.args.machine.now c.control_step.new.machine c.in-Ok.status c.in-Ok.ensures.answers

pub returns-in-Err-clause-answers : goal.returns-in-Err-clause-answers
returns-in-Err-clause-answers c = halt_told c.args.machine.now c.control_step.new.machine c.in-Err.halt c.in-Err.ensures.answers

pub returns-in-Ok-clause-keeps : goal.returns-in-Ok-clause-keeps
returns-in-Ok-clause-keeps c = status_kept c.args.machine.now c.control_step.new.machine c.in-Ok.status c.in-Ok.ensures.keeps

pub returns-in-Ok-clause-rows : goal.returns-in-Ok-clause-rows
returns-in-Ok-clause-rows c = status_rows c.args.machine.now c.control_step.new.machine c.in-Ok.status c.in-Ok.ensures.rows

pub returns-in-Err-clause-rows : goal.returns-in-Err-clause-rows
returns-in-Err-clause-rows c = halt_rows c.args.machine.now c.control_step.new.machine c.in-Err.halt c.in-Err.ensures.rows

pub returns-in-Ok-clause-streams : goal.returns-in-Ok-clause-streams
returns-in-Ok-clause-streams c = tt

pub returns-in-Err-clause-streams : goal.returns-in-Err-clause-streams
returns-in-Err-clause-streams c = streams_err (Option ℕ) Pick c.args.machine.now c.control_step.new.machine c.in-Err.halt c.in-Err.ensures.streams
