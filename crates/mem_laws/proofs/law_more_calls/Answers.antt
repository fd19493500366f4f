use Rattle.mem_laws.proofs.MoreCalls.{calls_same}
use Rattle.mem_laws.proofs.MoreFormats.{formats_same}
use Rattle.mem_laws.proofs.law_more_calls.Goals as goal

pub returns-clause-plain : goal.returns-clause-plain
returns-clause-plain c = calls_same

pub returns-clause-formatted : goal.returns-clause-formatted
returns-clause-formatted c = formats_same
