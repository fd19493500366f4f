use Rattle.telling_laws.proofs.FirstFound.{first_is_found, both_lots}
use Rattle.telling_laws.proofs.OwnLemmas.{only_stores_conflict}
use Rattle.telling_laws.proofs.law_first_found.Goals as goal

pub returns-clause-first : goal.returns-clause-first
returns-clause-first c = first_is_found

pub returns-clause-lots : goal.returns-clause-lots
returns-clause-lots c = both_lots

pub returns-clause-own : goal.returns-clause-own
returns-clause-own c = only_stores_conflict
