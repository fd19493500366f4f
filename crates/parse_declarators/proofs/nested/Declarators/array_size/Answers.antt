use Rattle.c_grammar.specs.Operators.{assignment}
use Rattle.parse_spec.specs.Nested.{expr}
use Rattle.parse_spec.proofs.AddingRules.{expr_adds}
use Rattle.parse_declarators.proofs.Prototypes.{still_within}
use Rattle.parse_declarators.proofs.nested.Declarators.array_size.Goals as goal

pub set_prototype-requires : goal.set_prototype-requires
set_prototype-requires g c =
    still_within (expr c.args.self.now.depth assignment) c.args.tokens.now c.take_prototype-prototype.new.self c.expr.new.tokens c.expr.result
    c.in_ok-size.size
    c.take_prototype-prototype.result.items (expr_adds c.args.self.now.depth assignment) c.take_prototype-prototype.ensures.none c.expr.ensures
    c.in_ok-size.was c.take_prototype-prototype.ensures.within
