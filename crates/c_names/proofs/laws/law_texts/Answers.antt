use Rattle.c_names.proofs.Once.{texts_name_one_thing}
use Rattle.c_names.proofs.laws.law_texts.Goals as goal

pub returns : goal.returns
returns c = texts_name_one_thing
