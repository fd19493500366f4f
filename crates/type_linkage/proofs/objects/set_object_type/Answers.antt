use Rattle.std.proofs.Common.{refl, ap}
use Rattle.c_types.specs.Types.{qualified_of}
use Rattle.c_typed.specs.declared.tree.Target.TheVariants as target
use Rattle.type_scope.proofs.Objects.{rows_changed}
use Rattle.type_scope.specs.declared.state.State.{State}
use Rattle.type_scope.proofs.Uses.{objects_kept}
use Rattle.type_linkage.proofs.objects.set_object_type.Goals as goal

pub returns-clause-rows : goal.returns-clause-rows
returns-clause-rows c n one env has =
    rows_changed n one c.args.state.now c.put_object_type.new.state env (λ o. record o { qual = qualified_of c.args.qual }) c.args.number (λ o. refl) has
    c.put_object_type.ensures.places c.put_object_type.ensures.row c.put_object_type.ensures.others

pub returns-clause-uses : goal.returns-clause-uses
returns-clause-uses c n us has =
    objects_kept n c.args.state.now c.put_object_type.new.state us c.args.number (ap (λ (s : State). s.functions) c.put_object_type.ensures.rest)
    (c.put_object_type.ensures.used (target.Static (n c.args.number)) us (has.0 c.args.number)) c.put_object_type.ensures.others has
