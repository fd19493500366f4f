use Rattle.code_view.proofs.Events.{events_of_classes, events_evaluated, effects_store, events_of_code, events_in_code}
use Rattle.code_view.proofs.law_events.Goals as goal

pub returns-clause-classes : goal.returns-clause-classes
returns-clause-classes c = events_of_classes

pub returns-clause-effects : goal.returns-clause-effects
returns-clause-effects c = effects_store

pub returns-clause-evaluated : goal.returns-clause-evaluated
returns-clause-evaluated c = events_evaluated

pub returns-clause-code : goal.returns-clause-code
returns-clause-code c = events_of_code

pub returns-clause-laid : goal.returns-clause-laid
returns-clause-laid c = events_in_code
