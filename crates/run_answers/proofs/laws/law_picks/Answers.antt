use Rattle.run_answers.proofs.Beginning.{below_shown}
use Rattle.run_answers.proofs.Opened.{closed, unlisted, next_may, decided, follows}
use Rattle.run_answers.proofs.laws.law_picks.Goals as goal

pub returns-clause-closed : goal.returns-clause-closed
returns-clause-closed c = closed

pub returns-clause-unlisted : goal.returns-clause-unlisted
returns-clause-unlisted c = unlisted c.law_view.ensures.trees c.law_listed_tree.ensures.entries

pub returns-clause-next : goal.returns-clause-next
returns-clause-next c = next_may c.law_view.ensures.trees c.law_cursor.ensures.next c.law_strayed.ensures.permits

pub returns-clause-decided : goal.returns-clause-decided
returns-clause-decided c = decided c.law_view.ensures.trees c.law_cursor.ensures.permits c.law_strayed.ensures.permits

pub returns-clause-follows : goal.returns-clause-follows
returns-clause-follows c =
    follows c.law_view.ensures.trees c.law_listed_tree.ensures.lists c.law_cursor.ensures.next c.law_strayed.ensures.takes

pub returns-clause-shown : goal.returns-clause-shown
returns-clause-shown c = below_shown
