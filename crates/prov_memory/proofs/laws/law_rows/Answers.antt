use Rattle.mem_objects.proofs.SoundLemmas.{objects_have_rows, candidates_have_rows}
use Rattle.prov_memory.proofs.laws.law_rows.Goals as goal

pub returns-clause-objects : goal.returns-clause-objects
returns-clause-objects c = objects_have_rows

pub returns-clause-candidates : goal.returns-clause-candidates
returns-clause-candidates c = candidates_have_rows
