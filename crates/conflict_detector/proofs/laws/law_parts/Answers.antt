use Rattle.conflict_detector.proofs.Parts.{leaves_none, parts_show}
use Rattle.conflict_detector.proofs.laws.law_parts.Goals as goal

pub returns-clause-none : goal.returns-clause-none
returns-clause-none c = leaves_none c.law_quiet_items.ensures

pub returns-clause-show : goal.returns-clause-show
returns-clause-show c = parts_show c.law_quiet_items.ensures
