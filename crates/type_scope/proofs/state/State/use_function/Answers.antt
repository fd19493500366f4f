use Rattle.std.proofs.Common.{ap}
use Rattle.std.specs.Prelude.{None}
use Rattle.c_typed.specs.declared.tree.Target.TheVariants as target
use Rattle.type_scope.specs.declared.state.State.{State}
use Rattle.type_scope.proofs.Uses.{noted, functions_used}
use Rattle.type_scope.proofs.state.State.use_function.Goals as goal

pub returns-clause-uses : goal.returns-clause-uses
returns-clause-uses c n us has =
    noted n c.use_routine.new.self us (record { target = target.Function c.args.number; count = None }) (c.args.self.now).unevaluated c.if-self.false
    (functions_used n c.args.self.now c.use_routine.new.self us c.args.number (ap (λ (s : State). s.objects) c.use_routine.ensures.rest)
    c.use_routine.ensures.used c.use_routine.ensures.others has)
