use Rattle.parse_declarators.proofs.Names.{parameter_reads}
use Rattle.parse_declarators.proofs.nested.Declarators.parameter_declarator.Goals as goal

pub returns : goal.returns
returns g c =
    parameter_reads c.args.self.now.depth c.args.tokens.now c.declarator.new.tokens c.declare_named-declared.new.tokens c.in_ok-found.found
    c.declare_named-declared.result c.kept.result
    c.in_ok-found.ensures c.declare_named-declared.ensures.ok c.declare_named-declared.ensures.err c.kept.ensures
