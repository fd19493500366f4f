use Rattle.std.proofs.Common.{◌∙◌}
use Rattle.type_declarators.proofs.Pointers.{qualifiers_are}
use Rattle.type_declarators.proofs.words.pointer_words.Goals as goal

pub returns : goal.returns
returns c = c.pointer_qualifiers.ensures ∙ qualifiers_are c.args.words.now
