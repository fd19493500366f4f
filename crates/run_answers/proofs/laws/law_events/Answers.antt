use Rattle.run_answers.proofs.Answered.{event_comes}
use Rattle.run_answers.proofs.Behind.{event_completes, event_stands, event_steps}
use Rattle.run_answers.proofs.laws.law_events.Goals as goal

pub returns-clause-stands : goal.returns-clause-stands
returns-clause-stands c =
    event_stands c.law_view.ensures.trees c.law_choices.ensures.event c.law_operands.ensures.rooms c.law_cursor.ensures.behind
    c.law_update_halves.ensures.closed

pub returns-clause-steps : goal.returns-clause-steps
returns-clause-steps c =
    event_steps c.law_view.ensures.trees c.law_choices.ensures.event c.law_operands.ensures.rooms c.law_cursor.ensures.behind
    c.law_update_halves.ensures.closed

pub returns-clause-comes : goal.returns-clause-comes
returns-clause-comes c =
    event_comes
    (event_stands c.law_view.ensures.trees c.law_choices.ensures.event c.law_operands.ensures.rooms c.law_cursor.ensures.behind
    c.law_update_halves.ensures.closed)

pub returns-clause-completes : goal.returns-clause-completes
returns-clause-completes c =
    event_completes c.law_view.ensures.trees c.law_choices.ensures.event c.law_operands.ensures.rooms c.law_cursor.ensures.behind
    c.law_update_halves.ensures.closed c.law_listed_completes.ensures
