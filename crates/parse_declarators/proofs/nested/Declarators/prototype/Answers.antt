use Rattle.parse_spec.specs.Declarators.{parameters}
use Rattle.parse_spec.specs.Nested.{expr, declarator, specs}
use Rattle.parse_spec.proofs.AddingRules.{parameters_adds, expr_adds, declarator_adds, specs_adds}
use Rattle.parse_declarators.proofs.Prototypes.{still_within}
use Rattle.parse_declarators.proofs.nested.Declarators.prototype.Goals as goal

pub leave_prototype-left-requires : goal.leave_prototype-left-requires
leave_prototype-left-requires g c =
    still_within (parameters (expr c.args.self.now.depth) (declarator c.args.self.now.depth) (specs c.args.self.now.depth)) c.args.tokens.now
    c.take_prototype-saved.new.self c.parameters.new.tokens c.parameters.result c.in_ok-found.found
    c.take_prototype-saved.result.items (parameters_adds (expr c.args.self.now.depth) (declarator c.args.self.now.depth) (specs c.args.self.now.depth)
    (expr_adds c.args.self.now.depth) (declarator_adds c.args.self.now.depth) (specs_adds c.args.self.now.depth)) c.take_prototype-saved.ensures.none
    c.parameters.ensures c.in_ok-found.was c.take_prototype-saved.ensures.within
