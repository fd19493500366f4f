use Rattle.std.proofs.Common.{None, Ok, ap, refl}
use Rattle.run_control.specs.declared.work.Step.TheVariants as taking
use Rattle.run_machine.proofs.Entering.{enter_answers}
use Rattle.run_machine.proofs.Keeping.{keeps_going, keeps_left, keeps_nothing, keeps_stays, keeps_writing}
use Rattle.run_machine.proofs.Left.{block_answers}
use Rattle.run_machine.proofs.RowsStand.{entered_rows, left_rows, taken_same}
use Rattle.run_state.specs.declared.machine.Machine.{Machine}
use Rattle.run_answers.proofs.Staying.{by_step, nothing_answers}
use Rattle.run_machine.proofs.Steering.{block_left, gone_back, gone_on, gone_out, label_gone}
use Rattle.run_machine.proofs.Written.{streams_none, streams_then}
use Rattle.run_machine.proofs.control.take_step.Goals as goal

pub returns-in-Begin-clause-answers : goal.returns-in-Begin-clause-answers
returns-in-Begin-clause-answers c =
    by_step c.args.step (taking.Begin c.in-Begin.number c.in-Begin.how) c.args.machine.now c.begin.new.machine c.begin.result c.in-Begin.is
    c.begin.ensures.answers

pub returns-in-Begin-clause-keeps : goal.returns-in-Begin-clause-keeps
returns-in-Begin-clause-keeps c = c.begin.ensures.keeps

pub returns-in-Begin-clause-rows : goal.returns-in-Begin-clause-rows
returns-in-Begin-clause-rows c = λ world meaning st h. taken_same c.args.machine.now c.begin.new.machine c.begin.result c.begin.ensures.memory

pub returns-in-Enter-clause-answers : goal.returns-in-Enter-clause-answers
returns-in-Enter-clause-answers c =
    enter_answers c.args.machine.now c.enter.new.machine c.args.step c.in-Enter.block _ c.enter.result c.in-Enter.is refl c.enter.ensures.enters

pub returns-in-Enter-clause-keeps : goal.returns-in-Enter-clause-keeps
returns-in-Enter-clause-keeps c = λ closed. keeps_stays c.args.machine.now c.enter.new.machine c.enter.result closed c.enter.ensures.stays

pub returns-in-Enter-clause-rows : goal.returns-in-Enter-clause-rows
returns-in-Enter-clause-rows c =
    entered_rows c.args.machine.now c.enter.new.machine c.args.step c.in-Enter.block _ c.enter.result c.in-Enter.is refl c.enter.ensures.enters

pub returns-in_ok-leave-in-Leave : goal.returns-in_ok-leave-in-Leave
returns-in_ok-leave-in-Leave c = record {
  leaves = block_left c.go_on.result c.args.machine.now.jumps.links.items c.args.step c.in-Leave.block c.args.machine.now.work c.leave.new.machine.work
      c.go_on.new.machine.work c.in-Leave.is c.leave.ensures.work c.go_on.ensures.goes;
  answers = block_answers c.args.machine.now c.leave.new.machine c.go_on.new.machine c.in-Leave.block c.args.step c.go_on.result c.in-Leave.is
      c.leave.ensures.work c.in_ok-leave-in-Leave.ensures.lives c.go_on.ensures.still c.go_on.ensures.goes c.go_on.ensures.ends;
  keeps = λ closed.
      keeps_left c.args.machine.now c.leave.new.machine c.go_on.new.machine c.go_on.result closed c.in_ok-leave-in-Leave.ensures.lives.2.rest
      c.go_on.ensures.further;
  rows = λ world meaning st h.
      left_rows c.args.machine.now c.leave.new.machine c.go_on.new.machine _ c.go_on.result c.in_ok-leave-in-Leave.ensures.lives c.go_on.ensures.memory;
  streams = streams_then c.args.machine.now c.leave.new.machine c.go_on.new.machine c.go_on.result
      (ap (λ (k : Machine). k.streams) c.in_ok-leave-in-Leave.ensures.lives.2.rest)
      (streams_none c.leave.new.machine c.go_on.new.machine c.go_on.result c.go_on.ensures.memory);
}

pub returns-in-Unwrite-clause-answers : goal.returns-in-Unwrite-clause-answers
returns-in-Unwrite-clause-answers c =
    by_step c.args.step (taking.Unwrite c.in-Unwrite.object) c.args.machine.now c.declare.new.machine c.declare.result c.in-Unwrite.is
    c.declare.ensures.answers

pub returns-in-Unwrite-clause-keeps : goal.returns-in-Unwrite-clause-keeps
returns-in-Unwrite-clause-keeps c = λ closed. keeps_writing c.args.machine.now c.declare.new.machine c.declare.result closed c.declare.ensures.rest

pub returns-in-Unwrite-clause-rows : goal.returns-in-Unwrite-clause-rows
returns-in-Unwrite-clause-rows c = λ world meaning st h. c.declare.ensures.rows

pub returns-in-Nothing-clause-answers : goal.returns-in-Nothing-clause-answers
returns-in-Nothing-clause-answers c =
    by_step c.args.step taking.Nothing c.args.machine.now c.args.machine.now (Ok None) c.in-Nothing.is (nothing_answers c.args.machine.now)

pub returns-in-Nothing-clause-keeps : goal.returns-in-Nothing-clause-keeps
returns-in-Nothing-clause-keeps c = keeps_nothing c.args.machine.now

pub returns-in-Nothing-clause-rows : goal.returns-in-Nothing-clause-rows
returns-in-Nothing-clause-rows c = λ world meaning st h. (λ x r at. at)

pub returns-in-GoTo : goal.returns-in-GoTo
returns-in-GoTo c = record {
  leaves = label_gone c.go_to.result c.args.machine.now.jumps.links.items c.args.step c.in-GoTo.label c.args.machine.now.work c.go_to.new.machine.work
      c.in-GoTo.is c.go_to.ensures.gone;
  answers = by_step c.args.step (taking.GoTo c.in-GoTo.label) c.args.machine.now c.go_to.new.machine c.go_to.result c.in-GoTo.is c.go_to.ensures.answers;
  keeps = λ closed. keeps_going c.args.machine.now c.go_to.new.machine c.go_to.result closed c.go_to.ensures.rest;
  rows = λ world meaning st h. taken_same c.args.machine.now c.go_to.new.machine c.go_to.result c.go_to.ensures.memory;
  streams = streams_none c.args.machine.now c.go_to.new.machine c.go_to.result c.go_to.ensures.memory;
}

pub returns-in-GoOut : goal.returns-in-GoOut
returns-in-GoOut c = record {
  leaves = gone_out c.go.result c.args.machine.now.jumps.links.items c.args.step c.args.machine.now.work c.go.new.machine.work c.in-GoOut.is
      c.go.ensures.below c.go.ensures.now;
  answers = by_step c.args.step taking.GoOut c.args.machine.now c.go.new.machine c.go.result c.in-GoOut.is c.go.ensures.answers;
  keeps = λ closed. keeps_going c.args.machine.now c.go.new.machine c.go.result closed c.go.ensures.rest;
  rows = λ world meaning st h. taken_same c.args.machine.now c.go.new.machine c.go.result c.go.ensures.memory;
  streams = streams_none c.args.machine.now c.go.new.machine c.go.result c.go.ensures.memory;
}

pub returns-in-GoOn : goal.returns-in-GoOn
returns-in-GoOn c = record {
  leaves = gone_on c.go-in-GoOn.result c.args.machine.now.jumps.links.items c.args.step c.args.machine.now.work c.go-in-GoOn.new.machine.work c.in-GoOn.is
      c.go-in-GoOn.ensures.below c.go-in-GoOn.ensures.now;
  answers = by_step c.args.step taking.GoOn c.args.machine.now c.go-in-GoOn.new.machine c.go-in-GoOn.result c.in-GoOn.is c.go-in-GoOn.ensures.answers;
  keeps = λ closed. keeps_going c.args.machine.now c.go-in-GoOn.new.machine c.go-in-GoOn.result closed c.go-in-GoOn.ensures.rest;
  rows = λ world meaning st h. taken_same c.args.machine.now c.go-in-GoOn.new.machine c.go-in-GoOn.result c.go-in-GoOn.ensures.memory;
  streams = streams_none c.args.machine.now c.go-in-GoOn.new.machine c.go-in-GoOn.result c.go-in-GoOn.ensures.memory;
}

pub returns-in-GoBack : goal.returns-in-GoBack
returns-in-GoBack c = record {
  leaves = gone_back c.go-in-GoBack.result c.args.machine.now.jumps.links.items c.args.step c.args.machine.now.work c.go-in-GoBack.new.machine.work
      c.in-GoBack.is c.go-in-GoBack.ensures.below c.go-in-GoBack.ensures.now;
  answers = by_step c.args.step taking.GoBack c.args.machine.now c.go-in-GoBack.new.machine c.go-in-GoBack.result c.in-GoBack.is
      c.go-in-GoBack.ensures.answers;
  keeps = λ closed. keeps_going c.args.machine.now c.go-in-GoBack.new.machine c.go-in-GoBack.result closed c.go-in-GoBack.ensures.rest;
  rows = λ world meaning st h. taken_same c.args.machine.now c.go-in-GoBack.new.machine c.go-in-GoBack.result c.go-in-GoBack.ensures.memory;
  streams = streams_none c.args.machine.now c.go-in-GoBack.new.machine c.go-in-GoBack.result c.go-in-GoBack.ensures.memory;
}

pub returns-in-Begin-clause-streams : goal.returns-in-Begin-clause-streams
returns-in-Begin-clause-streams c = streams_none c.args.machine.now c.begin.new.machine c.begin.result c.begin.ensures.memory

pub returns-in-Enter-clause-streams : goal.returns-in-Enter-clause-streams
returns-in-Enter-clause-streams c = c.enter.ensures.streams

pub returns-in-Unwrite-clause-streams : goal.returns-in-Unwrite-clause-streams
returns-in-Unwrite-clause-streams c = c.declare.ensures.streams

pub returns-in-Nothing-clause-streams : goal.returns-in-Nothing-clause-streams
returns-in-Nothing-clause-streams c = tt
