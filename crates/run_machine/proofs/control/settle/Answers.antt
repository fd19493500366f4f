use Rattle.std.proofs.Common.{ap}
use Rattle.run_state.specs.declared.machine.Machine.{Machine}
use Rattle.run_machine.proofs.Keeping.{keeps_selected, keeps_used}
use Rattle.run_machine.proofs.RowsStand.{memory_then}
use Rattle.run_machine.proofs.Settling.{select_answers, settle_answers}
use Rattle.run_machine.proofs.control.settle.Goals as goal

pub returns-in_ok-use_value-in_default : goal.returns-in_ok-use_value-in_default
returns-in_ok-use_value-in_default c = record {
  answers = settle_answers c.law_operands.ensures.known c.law_operands.ensures.rooms c.args.machine.now c.use_value.new.machine c.go_on-in_default.new.machine
      c.args.stage c.go_on-in_default.result c.in_default.not-Select c.in_ok-use_value-in_default.ensures.used c.go_on-in_default.ensures.goes
      c.go_on-in_default.ensures.still c.go_on-in_default.ensures.ends;
  keeps = keeps_used c.args.machine.now c.use_value.new.machine c.go_on-in_default.new.machine c.args.stage c.go_on-in_default.result
      c.in_ok-use_value-in_default.ensures.used c.in_ok-use_value-in_default.ensures.result c.go_on-in_default.ensures.further;
  memory = memory_then c.args.machine.now c.use_value.new.machine c.go_on-in_default.new.machine c.go_on-in_default.result
      (ap (λ (k : Machine). k.memory) c.in_ok-use_value-in_default.ensures.used.rest) c.go_on-in_default.ensures.memory;
}

pub returns-in_ok-select-in-Select : goal.returns-in_ok-select-in-Select
returns-in_ok-select-in-Select c = record {
  answers = select_answers c.law_operands.ensures.known c.law_operands.ensures.rooms c.args.machine.now c.select.new.machine c.go_on.new.machine c.args.stage
      c.in-Select.switch c.go_on.result c.in-Select.is c.in_ok-select-in-Select.ensures.selects c.go_on.ensures.goes c.go_on.ensures.still c.go_on.ensures.ends;
  keeps = keeps_selected c.args.machine.now c.select.new.machine c.go_on.new.machine c.args.stage c.in-Select.switch c.go_on.result c.in-Select.is
      c.in_ok-select-in-Select.ensures.selects c.go_on.ensures.further;
  memory = memory_then c.args.machine.now c.select.new.machine c.go_on.new.machine c.go_on.result
      (ap (λ (k : Machine). k.memory) c.in_ok-select-in-Select.ensures.selects.rest) c.go_on.ensures.memory;
}
