use Rattle.std.proofs.Common.{ap, ◌∙◌}
use Rattle.type_scope.specs.Known.{with_scopes, with_tables}
use Rattle.type_scope.proofs.Seen.{left_is}
use Rattle.type_scope.proofs.state.State.leave_scope.Goals as goal

pub returns-clause-known : goal.returns-clause-known
returns-clause-known c n t env =
    ap (λ s. with_scopes n s (with_tables n t c.args.self.now env)) c.leave.ensures
    ∙ left_is n (c.args.self.now).names (with_tables n t c.args.self.now env)
