use Rattle.run_listing.proofs.Cursor.{next_is_canonical, passed_is_done, permits_picks, stands_at_begin, stands_behind, stands_at_start, stands_at_end}
use Rattle.run_listing.proofs.laws.law_cursor.Goals as goal

pub returns-clause-next : goal.returns-clause-next
returns-clause-next c = next_is_canonical c.law_listing.ensures c.law_faithful.ensures

pub returns-clause-permits : goal.returns-clause-permits
returns-clause-permits c = permits_picks c.law_listing.ensures c.law_faithful.ensures

pub returns-clause-done : goal.returns-clause-done
returns-clause-done c = passed_is_done c.law_listing.ensures c.law_faithful.ensures

pub returns-clause-begins : goal.returns-clause-begins
returns-clause-begins c = stands_at_begin c.law_listing.ensures c.law_faithful.ensures

pub returns-clause-behind : goal.returns-clause-behind
returns-clause-behind c = stands_behind c.law_listing.ensures c.law_faithful.ensures

pub returns-clause-starts : goal.returns-clause-starts
returns-clause-starts c = stands_at_start c.law_listing.ensures c.law_faithful.ensures

pub returns-clause-ends : goal.returns-clause-ends
returns-clause-ends c = stands_at_end c.law_listing.ensures c.law_faithful.ensures
