use Rattle.frame_records.proofs.Answers.{above_may_be_told}
use Rattle.frame_records.proofs.Asked.{are_started_so, behind_may_be_told, bodies_may_end, events_may_be_told, top_is_open}
use Rattle.frame_records.proofs.Reached.{reaches_open}
use Rattle.frame_records.proofs.law_asked.Goals as goal

pub returns-clause-started : goal.returns-clause-started
returns-clause-started c = are_started_so

pub returns-clause-open : goal.returns-clause-open
returns-clause-open c = top_is_open

pub returns-clause-reaches : goal.returns-clause-reaches
returns-clause-reaches c = reaches_open

pub returns-clause-events : goal.returns-clause-events
returns-clause-events c = events_may_be_told

pub returns-clause-behind : goal.returns-clause-behind
returns-clause-behind c = behind_may_be_told

pub returns-clause-above : goal.returns-clause-above
returns-clause-above c = above_may_be_told

pub returns-clause-ends : goal.returns-clause-ends
returns-clause-ends c = bodies_may_end
