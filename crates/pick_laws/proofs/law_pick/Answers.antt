use Rattle.pick_laws.proofs.Comes.{calls, controls, events, initializers}
use Rattle.pick_laws.proofs.Library.{libraries}
use Rattle.pick_laws.proofs.law_pick.Goals as goal

pub returns : goal.returns
returns c = record {
  control = controls c.law_going.ensures.steps;
  events = events c.law_going.ensures.events;
  libraries = libraries c.law_going.ensures.libraries;
  initializers = initializers c.law_going.ensures.initializers;
  calls = calls c.law_going.ensures.calls;
}
