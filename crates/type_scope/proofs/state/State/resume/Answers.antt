use Rattle.type_scope.proofs.state.State.resume.Goals as goal

pub returns-clause-named : goal.returns-clause-named
returns-clause-named c bytes_at names all = c.forget_literals.ensures.named bytes_at names all
