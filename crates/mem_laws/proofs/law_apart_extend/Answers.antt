use Rattle.mem_laws.proofs.ApartRows.{apart_extend}
use Rattle.mem_laws.proofs.law_apart_extend.Goals as goal

pub returns : goal.returns
returns c = apart_extend
