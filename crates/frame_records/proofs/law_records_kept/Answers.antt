use Rattle.frame_records.proofs.Events.{events_keep}
use Rattle.frame_records.proofs.Reached.{reaches_top}
use Rattle.frame_records.proofs.Steps.{steps_keep}
use Rattle.frame_records.proofs.law_records_kept.Goals as goal

pub returns-clause-steps : goal.returns-clause-steps
returns-clause-steps c = steps_keep

pub returns-clause-reaches : goal.returns-clause-reaches
returns-clause-reaches c = reaches_top

pub returns-clause-events : goal.returns-clause-events
returns-clause-events c = events_keep
