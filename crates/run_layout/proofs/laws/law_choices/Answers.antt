use Rattle.run_layout.proofs.ChosenLemmas.{chosen_at_once}
use Rattle.run_layout.proofs.Tested.{chosen_at_test, chosen_elsewhere}
use Rattle.run_layout.proofs.Keeping.{keeps_at_begin, keeps_at_event}
use Rattle.run_layout.proofs.laws.law_choices.Goals as goal

pub returns-clause-at_once : goal.returns-clause-at_once
returns-clause-at_once c = chosen_at_once

pub returns-clause-at_test : goal.returns-clause-at_test
returns-clause-at_test c = chosen_at_test

pub returns-clause-elsewhere : goal.returns-clause-elsewhere
returns-clause-elsewhere c = chosen_elsewhere

pub returns-clause-begins : goal.returns-clause-begins
returns-clause-begins c = keeps_at_begin

pub returns-clause-event : goal.returns-clause-event
returns-clause-event c = keeps_at_event
