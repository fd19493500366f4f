use Rattle.std.proofs.Common.{refl, ap}
use Rattle.c_typed.specs.declared.tree.Target.TheVariants as target
use Rattle.typing_env.specs.Names.{first_of}
use Rattle.type_scope.specs.declared.state.State.{State}
use Rattle.type_scope.proofs.Objects.{rows_changed}
use Rattle.type_scope.proofs.Uses.{objects_kept}
use Rattle.type_scope.proofs.state.State.define_object.Goals as goal

pub returns-clause-rows : goal.returns-clause-rows
returns-clause-rows c n one env at has =
    rows_changed n one c.args.self.now c.define_row.new.self env (λ o. record o { defined = first_of o.defined at }) c.args.number (λ o. refl) has
    c.define_row.ensures.places (c.define_row.ensures.row at) c.define_row.ensures.others

pub returns-clause-uses : goal.returns-clause-uses
returns-clause-uses c n us has =
    objects_kept n c.args.self.now c.define_row.new.self us c.args.number (ap (λ (s : State). s.functions) c.define_row.ensures.rest)
    (c.define_row.ensures.used (target.Static (n c.args.number)) us (has.0 c.args.number)) c.define_row.ensures.others has
