use Rattle.std.proofs.Common.{ap, ◌∙◌}
use Rattle.std.proofs.lemmas.Result.{on_ok_weaker}
use Rattle.type_scope.specs.Known.{with_scopes, with_tables}
use Rattle.type_scope.proofs.Seen.{body_is}
use Rattle.type_scope.proofs.state.State.enter_body.Goals as goal

pub returns-clause-known : goal.returns-clause-known
returns-clause-known c =
    on_ok_weaker c.enter_body.result (λ e. λ n t env.
    ap (λ s. with_scopes n s (with_tables n t c.args.self.now env)) e ∙ body_is n (c.args.self.now).names (with_tables n t c.args.self.now env))
    c.enter_body.ensures
