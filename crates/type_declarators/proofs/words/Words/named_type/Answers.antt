use Rattle.std.proofs.Common.{◌∙◌}
use Rattle.type_declarators.proofs.Named.{named_is}
use Rattle.type_declarators.proofs.words.Words.named_type.Goals as goal

pub returns : goal.returns
returns c words counted = c.named.ensures ∙ named_is (c.args.self.now).types words counted
