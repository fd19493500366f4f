use Rattle.std.proofs.Common.{ap}
use Rattle.c_types.specs.Types.{type_of}
use Rattle.c_typed.specs.declared.tree.Target.TheVariants as target
use Rattle.type_scope.specs.Uses.{count_of}
use Rattle.type_scope.specs.declared.state.State.{State}
use Rattle.type_scope.proofs.Uses.{noted, objects_used, rows_kept, counted_as}
use Rattle.type_scope.proofs.state.State.use_object.Goals as goal

pub returns-clause-rows : goal.returns-clause-rows
returns-clause-rows c n env has =
    rows_kept n c.args.self.now c.use_row.new.self env c.args.number c.use_row.ensures.places c.use_row.ensures.row c.use_row.ensures.others has

pub returns-clause-uses : goal.returns-clause-uses
returns-clause-uses c n one us has =
    let t = target.Static (n c.args.number) in
    noted n c.use_row.new.self us (record { target = t; count = count_of (type_of c.args.ty.now) }) (c.args.self.now).unevaluated c.if-self.false
    (counted_as n c.use_row.new.self us t c.known_count.result (count_of (type_of c.args.ty.now)) c.known_count.ensures
    (objects_used n one c.args.self.now c.use_row.new.self us c.args.number c.known_count.result
    (ap (λ (s : State). s.functions) c.use_row.ensures.rest) c.use_row.ensures.used c.use_row.ensures.others has))
