use Rattle.std.proofs.Common.{refl}
use Rattle.run_machine.proofs.Going.{goto_answers}
use Rattle.run_machine.proofs.Steering.{gone_by}
use Rattle.run_machine.proofs.control.go_to.Goals as goal

pub returns : goal.returns
returns c = record {
  gone = λ m.
      gone_by m c.args.machine.now.jumps.links.items c.deref.result.now c.args.machine.now.work c.go_to.new.self c.in_ok-target.target c.deref.ensures.value
      c.in_ok-go_to.ensures.below (c.in_ok-go_to.ensures.now m);
  answers = goto_answers c.args.machine.now c.in-Some.function c.args.label c.in_ok-target.target c.deref.result.now c.go_to.new.self.below
      c.go_to.new.self.now c.in-Some.is c.deref.ensures.value c.in_ok-go_to.ensures.below c.in_ok-target.ensures c.in_ok-go_to.ensures.now;
  rest = refl;
  memory = refl;
}
