use Rattle.type_declarators.proofs.Opening.{declared}
use Rattle.type_declarators.proofs.tag.declare_tag.Goals as goal

pub returns-clause-known : goal.returns-clause-known
returns-clause-known c n env =
    declared n c.args.source.now c.args.state.now c.new_tag.new.state env c.args.at c.symbol-symbol.result c.args.kind c.in_ok-number.number
    c.declare_tag.new.self c.symbol-symbol.ensures c.in_ok-number.ensures.number (c.in_ok-number.ensures.known n c.args.source.now env)
    c.in_ok-declare_tag.ensures.ok
