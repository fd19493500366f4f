use Rattle.run_listing.proofs.Straight.{lists_all, has_entries, parts_at_event, parts_alike, parts_further}
use Rattle.run_listing.proofs.laws.law_listed_tree.Goals as goal

pub returns-clause-lists : goal.returns-clause-lists
returns-clause-lists c = lists_all c.law_listing.ensures c.law_faithful.ensures

pub returns-clause-entries : goal.returns-clause-entries
returns-clause-entries c = has_entries c.law_listing.ensures c.law_faithful.ensures

pub returns-clause-parts : goal.returns-clause-parts
returns-clause-parts c = parts_at_event c.law_listing.ensures c.law_faithful.ensures

pub returns-clause-alike : goal.returns-clause-alike
returns-clause-alike c = parts_alike c.law_listing.ensures c.law_faithful.ensures

pub returns-clause-further : goal.returns-clause-further
returns-clause-further c = parts_further c.law_listing.ensures c.law_faithful.ensures
