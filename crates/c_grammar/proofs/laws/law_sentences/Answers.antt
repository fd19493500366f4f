use Rattle.c_grammar.proofs.Derived.{sentences}
use Rattle.c_grammar.proofs.laws.law_sentences.Goals as goal

pub returns : goal.returns
returns c = sentences
