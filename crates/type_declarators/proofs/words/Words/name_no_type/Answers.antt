use Rattle.std.proofs.Common.{◌∙◌}
use Rattle.type_declarators.proofs.Named.{none_is}
use Rattle.type_declarators.proofs.words.Words.name_no_type.Goals as goal

pub returns : goal.returns
returns c words counted = c.is_same.ensures ∙ none_is (c.args.self.now).types words counted
