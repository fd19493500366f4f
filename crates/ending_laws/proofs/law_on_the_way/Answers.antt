use Rattle.ending_laws.proofs.Entries.{picks_end_none}
use Rattle.ending_laws.proofs.Untouched.{picks_stay_untouched, starts_on_the_way, stays_on_the_way}
use Rattle.ending_laws.proofs.law_on_the_way.Goals as goal

pub returns-clause-untouched : goal.returns-clause-untouched
returns-clause-untouched c = picks_stay_untouched

pub returns-clause-endless : goal.returns-clause-endless
returns-clause-endless c = picks_end_none

pub returns-clause-starts : goal.returns-clause-starts
returns-clause-starts c = starts_on_the_way

pub returns-clause-stays : goal.returns-clause-stays
returns-clause-stays c = stays_on_the_way
