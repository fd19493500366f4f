use Rattle.run_answers.proofs.LibraryBehind.{library_completes, library_stands}
use Rattle.run_answers.proofs.LibrarySteps.{library_steps}
use Rattle.run_answers.proofs.laws.law_bodies.Goals as goal

pub returns-clause-stands : goal.returns-clause-stands
returns-clause-stands c =
    library_stands c.law_view.ensures.trees c.law_choices.ensures.event c.law_operands.ensures.rooms c.law_cursor.ensures.behind
    c.law_update_halves.ensures.closed

pub returns-clause-steps : goal.returns-clause-steps
returns-clause-steps c = library_steps c.law_library.ensures.rows c.law_library.ensures.steps

pub returns-clause-completes : goal.returns-clause-completes
returns-clause-completes c =
    library_completes c.law_view.ensures.trees c.law_choices.ensures.event c.law_operands.ensures.rooms c.law_cursor.ensures.behind
    c.law_update_halves.ensures.closed c.law_listed_completes.ensures
