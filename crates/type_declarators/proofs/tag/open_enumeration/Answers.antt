use Rattle.type_scope.specs.Known.{known_by}
use Rattle.type_declarators.proofs.Enumerations.{opened, open_refused}
use Rattle.type_declarators.proofs.tag.open_enumeration.Goals as goal

pub returns-in-Ok-clause-reads : goal.returns-in-Ok-clause-reads
returns-in-Ok-clause-reads c n env =
    opened n c.args.source.now c.args.state.now c.add_enumeration.new.self env (known_by n c.args.source.now c.name_enumeration.new.state env) c.args.tag
    c.in_ok-number.number c.in_ok-number.ensures.number (c.in_ok-number.ensures.known n c.args.source.now env) (c.in-Ok.ensures.reads n env)

pub returns-in-Err-clause-reads : goal.returns-in-Err-clause-reads
returns-in-Err-clause-reads c n env other =
    open_refused n c.args.source.now c.args.state.now c.add_enumeration.new.self env c.args.tag
    c.in_ok-number.number c.in_ok-number.ensures.number (c.in_ok-number.ensures.known n c.args.source.now env) (c.in-Err.ensures.reads n env other)
