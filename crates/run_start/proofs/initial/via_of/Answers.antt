use Rattle.mem_objects.proofs.TagLemmas.{store_adds}
use Rattle.run_start.proofs.initial.via_of.Goals as goal

pub returns-in_err-type_id-in-Pointer-clause-store : goal.returns-in_err-type_id-in-Pointer-clause-store
returns-in_err-type_id-in-Pointer-clause-store c = λ tagged io. store_adds c.args.memory.now c.type_id.new.self c.type_id.ensures.more tagged io

pub returns-in_ok-type_id-in-Pointer-clause-store : goal.returns-in_ok-type_id-in-Pointer-clause-store
returns-in_ok-type_id-in-Pointer-clause-store c = λ tagged io. store_adds c.args.memory.now c.type_id.new.self c.type_id.ensures.more tagged io
