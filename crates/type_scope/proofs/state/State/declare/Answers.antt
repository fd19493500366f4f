use Rattle.std.proofs.Common.{ap, ◌∙◌, sym, Some}
use Rattle.type_scope.specs.Known.{meaning_seen, with_scopes, with_tables}
use Rattle.type_scope.proofs.Seen.{declare_taken, declare_new}
use Rattle.type_scope.proofs.state.State.declare.Goals as goal

pub returns-then-is_taken-clause-reads : goal.returns-then-is_taken-clause-reads
returns-then-is_taken-clause-reads c n env other =
    declare_taken n c.args.source.now c.args.self.now env c.args.at c.symbol-symbol.result (meaning_seen n c.args.meaning) c.symbol-symbol.ensures
    (sym c.is_taken.ensures ∙ c.if-is_taken.true)

pub returns-clause-reads : goal.returns-clause-reads
returns-clause-reads c n env =
    declare_new n c.args.source.now c.args.self.now env c.args.at c.symbol-symbol.result c.args.meaning c.symbol-symbol.ensures
    (sym c.is_taken.ensures ∙ c.if-is_taken.false)
    ∙ ap (λ s. Some (tt {0}, with_scopes n s (with_tables n c.args.source.now c.args.self.now env))) (sym c.in_ok-declare.ensures.ok)
