use Rattle.std.proofs.Common.{◌≡◌, ◌+◌, ◌-◌, ◌^◌, ℕ, List, ap, arith, min, subst}
use Rattle.run_layout.specs.declared.steps.Operand.{Operand}
use Rattle.run_answers.specs.Opens.{Passes}
use Rattle.run_events.proofs.frames.start_function.Goals as goal

pub returns-clause-opens : goal.returns-clause-opens
returns-clause-opens c =
    let m = c.args.machine.now in
    let reached : c.saturating_add-reached.result ≡ m.depth + 1 =
    (let sum = c.saturating_add-reached.ensures in let few = c.if-reached-gt-MOST_FRAMES.false in omega (arith, sum, few)) in
    record {
      passed = c.pass_arguments.new.machine;
      opened = c.open_function.new.machine;
      rest = c.pass_arguments.ensures.rest;
      passes = subst (λ (os : List Operand). Passes m os (min (m.top.base + m.top.rooms) (2 ^ 64 - 1)) c.pass_arguments.new.machine) c.as_slice.ensures.value
          (subst (λ (room : ℕ). Passes m c.as_slice.result.now room c.pass_arguments.new.machine) c.saturating_add-base.ensures
          c.in_ok-pass_arguments.ensures.passes);
      opens = c.in_ok-open_function.ensures.opens;
      few = (let few = c.if-reached-gt-MOST_FRAMES.false in omega (arith, reached, few));
      counted = ap (λ (n : ℕ). record c.open_function.new.machine { depth = n }) reached;
    }
