use Rattle.canonical_laws.proofs.Idle.{calls_leave_none, events_leave_none, initializers_leave_none, libraries_leave_none, steps_stay_idle}
use Rattle.canonical_laws.proofs.law_idle.Goals as goal

pub returns : goal.returns
returns c = record {
  steps = steps_stay_idle;
  events = events_leave_none c.law_events.ensures.stands;
  libraries = libraries_leave_none;
  initializers = initializers_leave_none;
  calls = calls_leave_none;
}
