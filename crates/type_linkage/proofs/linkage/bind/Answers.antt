use Rattle.std.proofs.Common.{ap, ◌∙◌, sym}
use Rattle.std.proofs.lemmas.Result.{on_ok_weaker}
use Rattle.type_scope.specs.Known.{with_scopes, with_tables}
use Rattle.type_linkage.proofs.Linking.{bound_again, bound_new}
use Rattle.type_linkage.proofs.linkage.bind.Goals as goal

pub returns-then-is_taken-clause-known : goal.returns-then-is_taken-clause-known
returns-then-is_taken-clause-known c n t env =
    ap (λ s. with_scopes n s (with_tables n t c.args.state.now env)) c.change.ensures
    ∙ bound_again n t c.args.state.now env c.args.symbol c.args.meaning (sym c.is_taken.ensures ∙ c.if-is_taken.true)

pub returns-else-is_taken-clause-known : goal.returns-else-is_taken-clause-known
returns-else-is_taken-clause-known c =
    on_ok_weaker c.declare.result (λ e. λ n t env.
    ap (λ s. with_scopes n s (with_tables n t c.args.state.now env)) e
    ∙ bound_new n t c.args.state.now env c.args.symbol c.args.meaning (sym c.is_taken.ensures ∙ c.if-is_taken.false))
    c.declare.ensures.ok
