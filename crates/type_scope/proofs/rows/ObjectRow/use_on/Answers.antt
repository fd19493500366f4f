use Rattle.type_scope.proofs.Uses.{object_used}
use Rattle.type_scope.proofs.rows.ObjectRow.use_on.Goals as goal

pub returns-clause-uses : goal.returns-clause-uses
returns-clause-uses c t us is = object_used t us c.args.count c.args.self.now
    (record c.args.self.now { used = c.used_on-self.result; counted = c.counted_on-self.result }) c.used_on-self.ensures c.counted_on-self.ensures is
