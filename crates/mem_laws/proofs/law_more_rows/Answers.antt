use Rattle.mem_laws.proofs.MoreRows.{run_same, access_same}
use Rattle.mem_laws.proofs.MoreActs.{acts_same}
use Rattle.mem_laws.proofs.law_more_rows.Goals as goal

pub returns-clause-scripts : goal.returns-clause-scripts
returns-clause-scripts g c = λ few more act s ext st b. run_same few more ext _ act s st b

pub returns-clause-accesses : goal.returns-clause-accesses
returns-clause-accesses g c = λ few more len align a prov ext in_few. access_same few more ext len align a prov in_few

pub returns-clause-acts : goal.returns-clause-acts
returns-clause-acts g c = λ few more s ext st. acts_same few more s ext st
