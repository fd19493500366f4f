use Rattle.std.proofs.Common.{refl}
use Rattle.run_machine.proofs.Keeping.{keeps_worked}
use Rattle.run_machine.proofs.RowsStand.{control_rows, taken_same}
use Rattle.run_answers.proofs.Staying.{control_answers}
use Rattle.run_machine.proofs.Steering.{takes_step}
use Rattle.run_machine.proofs.Written.{streams_none, streams_then}
use Rattle.run_machine.proofs.control.control_step.Goals as goal

pub returns-in-Some-clause-answers : goal.returns-in-Some-clause-answers
returns-in-Some-clause-answers c = c.settle.ensures.answers c.in-Some.is

pub returns-in-Some-clause-keeps : goal.returns-in-Some-clause-keeps
returns-in-Some-clause-keeps c = c.settle.ensures.keeps c.in-Some.is

pub returns-in-Some-clause-rows : goal.returns-in-Some-clause-rows
returns-in-Some-clause-rows c = λ world meaning st stands goes items.
    taken_same c.args.machine.now c.settle.new.machine c.settle.result c.settle.ensures.memory

pub returns-in-Some-2 : goal.returns-in-Some-2
returns-in-Some-2 c = record {
  step = takes_step c.take_step.result c.args.machine.now.jumps.links.items c.in_ok-step-in-None.field-0 c.in-Some-2.step c.args.machine.now.top.stage
      c.args.machine.now.work c.next.new.self c.take_step.new.machine.work c.in-Some-2.is c.in_ok-step-in-None.ensures.below c.in_ok-step-in-None.ensures.step
      c.take_step.ensures.leaves;
  answers = control_answers c.take_step.result c.in_ok-step-in-None.field-0 c.in-Some-2.step c.args.machine.now c.next.new.self.below c.next.new.self.now
      c.take_step.new.machine c.in-None.is c.in-Some-2.is c.in_ok-step-in-None.ensures.below c.in_ok-step-in-None.ensures.step
      c.take_step.ensures.answers;
  keeps = keeps_worked c.args.machine.now c.take_step.new.machine c.next.new.self c.take_step.result c.in-None.is (c.take_step.ensures.keeps c.in-None.is);
  rows = control_rows c.take_step.result c.in_ok-step-in-None.field-0 c.in-Some-2.step c.args.machine.now c.next.new.self.below c.next.new.self.now
      c.take_step.new.machine c.in-None.is c.in-Some-2.is c.in_ok-step-in-None.ensures.below c.in_ok-step-in-None.ensures.step c.take_step.ensures.rows;
  streams = streams_then c.args.machine.now (record c.args.machine.now { work = c.next.new.self }) c.take_step.new.machine c.take_step.result refl
      c.take_step.ensures.streams;
}

pub returns-in-Some-clause-streams : goal.returns-in-Some-clause-streams
returns-in-Some-clause-streams c = streams_none c.args.machine.now c.settle.new.machine c.settle.result c.settle.ensures.memory
