use Rattle.pick_laws.proofs.LibraryGoing.{libraries_go}
use Rattle.pick_laws.proofs.Laws.{calls_go, events_go, initializers_go, steps_go}
use Rattle.pick_laws.proofs.law_going.Goals as goal

pub returns-clause-events : goal.returns-clause-events
returns-clause-events c = events_go c.law_scoped.ensures.scoped c.law_ordered.ensures.keeps c.law_reached.ensures.keeps c.law_open.ensures.stays

pub returns-clause-libraries : goal.returns-clause-libraries
returns-clause-libraries c = libraries_go c.law_scoped.ensures.scoped c.law_ordered.ensures.keeps c.law_reached.ensures.keeps

pub returns-clause-initializers : goal.returns-clause-initializers
returns-clause-initializers c = initializers_go c.law_scoped.ensures.scoped c.law_ordered.ensures.keeps c.law_reached.ensures.canonical

pub returns-clause-calls : goal.returns-clause-calls
returns-clause-calls c = calls_go c.law_scoped.ensures.scoped c.law_ordered.ensures.keeps c.law_reached.ensures.canonical

pub returns-clause-steps : goal.returns-clause-steps
returns-clause-steps c =
    steps_go c.law_scoped.ensures.scoped c.law_ordered.ensures.keeps c.law_reached.ensures.keeps c.law_choices.ensures.begins c.law_picks.ensures.shown
