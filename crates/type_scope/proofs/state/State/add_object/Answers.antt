use Rattle.std.proofs.Common.{ap}
use Rattle.type_scope.specs.declared.state.State.{State}
use Rattle.type_scope.proofs.Objects.{rows_added_ok}
use Rattle.type_scope.proofs.Uses.{object_added}
use Rattle.type_scope.proofs.state.State.add_object.Goals as goal

pub returns-clause-rows : goal.returns-clause-rows
returns-clause-rows c =
    rows_added_ok c.add_row.result c.args.self.now c.add_row.new.self c.args.row c.add_row.ensures.row c.add_row.ensures.others c.add_row.ensures.places

pub returns-clause-uses : goal.returns-clause-uses
returns-clause-uses c =
    object_added c.add_row.result c.args.self.now c.add_row.new.self c.args.row (ap (λ (s : State). s.functions) c.add_row.ensures.rest)
    c.add_row.ensures.row c.add_row.ensures.others
