use Rattle.frame_laws.proofs.LawfulPrograms.{lawful_is_scoped, main_is_defined}
use Rattle.frame_laws.proofs.law_scoped.Goals as goal

pub returns : goal.returns
returns c = record { scoped = lawful_is_scoped c.law_view.ensures.text; main = main_is_defined }
