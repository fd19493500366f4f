use Rattle.parse_expressions.proofs.Unary.{no_prefix}
use Rattle.parse_expressions.proofs.nested.Expressions.marked.Goals as goal

pub returns-in-None : goal.returns-in-None
returns-in-None g c = λ _. no_prefix _ _ _ c.args.at c.args.least c.args.mark c.args.tokens.now c.in_default.not-OpenParen c.in-None.ensures.none
