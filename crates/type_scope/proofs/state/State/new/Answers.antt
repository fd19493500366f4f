use Rattle.std.proofs.Common.{arith}
use Rattle.c_typed.specs.declared.tree.Target.TheVariants as target
use Rattle.type_scope.proofs.Uses.{rows_unused, no_function}
use Rattle.type_scope.proofs.state.State.new.Goals as goal

pub returns-clause-rows : goal.returns-clause-rows
returns-clause-rows c places n = (
  λ k place is.
      let below = places k place is in
      let held = c.args.order.ok.0 in
      omega (arith, below, held, c.in_ok-objects.ensures.count, c.len.ensures),
  λ m. tt,
)

pub returns-clause-uses : goal.returns-clause-uses
returns-clause-uses c n = (
  λ m. rows_unused (target.Static (n m)) c.in_ok-objects.objects.items m c.in_ok-objects.ensures.unused,
  λ m. no_function (target.Function m) (c.new-5.result).items m c.new-5.ensures.items,
)
