use Rattle.std.proofs.lemmas.Result.{on_ok_weaker}
use Rattle.type_scope.specs.Numbered.{literal_bytes}
use Rattle.type_scope.proofs.Numbered.{named_more}
use Rattle.type_scope.proofs.state.State.add_literal.Goals as goal

pub returns-clause-named : goal.returns-clause-named
returns-clause-named c =
    on_ok_weaker c.push_literal.result (λ more. λ bytes_at names name is all.
    named_more bytes_at names name c.args.bytes (literal_bytes c.args.self.now) (literal_bytes c.push_literal.new.self) is more all)
    c.push_literal.ensures.literals
