use Rattle.std.proofs.Common.{sym, ◌∙◌, inl, refl, None, Ok}
use Rattle.run_machine.proofs.Keeping.{further_worked}
use Rattle.run_machine.proofs.Left.{ends_over, on_ends, over_still}
use Rattle.run_machine.proofs.RowsStand.{memory_then}
use Rattle.run_machine.proofs.Steering.{frame_ends, goes_further}
use Rattle.run_machine.proofs.control.go_on.Goals as goal

pub returns-then-branch : goal.returns-then-branch
returns-then-branch c = record {
  goes = frame_ends c.end_frame.result c.args.machine.now.work c.is_over.new.self c.end_frame.new.machine.work c.in_ok-is_over.field-0 c.if-branch.true
      c.in_ok-is_over.ensures.over c.in_ok-is_over.ensures.below c.end_frame.ensures.work;
  still = over_still c.args.machine.now c.end_frame.new.machine c.in_ok-is_over.field-0 c.end_frame.result c.if-branch.true
      c.in_ok-is_over.ensures.over;
  ends = λ m none.
      ends_over c.args.machine.now c.end_frame.new.machine c.is_over.new.self.below c.is_over.new.self.now c.end_frame.result c.in_ok-is_over.ensures.below
      c.in_ok-is_over.ensures.now c.end_frame.ensures.answers;
  further = further_worked c.args.machine.now c.end_frame.new.machine c.is_over.new.self c.end_frame.result c.end_frame.ensures.further;
  memory = memory_then c.args.machine.now (record c.args.machine.now { work = c.is_over.new.self }) c.end_frame.new.machine c.end_frame.result refl
      c.end_frame.ensures.memory;
}

pub returns-else-branch : goal.returns-else-branch
returns-else-branch c = record {
  goes = λ m.
      goes_further m c.args.machine.now.work c.is_over.new.self (sym (c.in_ok-is_over.ensures.over m) ∙ c.if-branch.false) c.in_ok-is_over.ensures.below
      (c.in_ok-is_over.ensures.now m);
  still = λ m on. (refl, refl);
  ends = on_ends c.args.machine.now _ c.in_ok-is_over.field-0 (Ok None) c.if-branch.false c.in_ok-is_over.ensures.over;
  further = inl refl;
  memory = refl;
}
