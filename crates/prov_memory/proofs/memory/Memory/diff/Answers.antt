use Rattle.mem_objects.proofs.SettleLemmas.{stays_made}
use Rattle.mem_objects.proofs.SoundLemmas.{settled_sound}
use Rattle.prov_memory.proofs.memory.Memory.diff.Goals as goal

pub returns-clause-made : goal.returns-clause-made
returns-clause-made c = stays_made c.args.self.now c.settle_common.new.self c.settle_common.ensures.rest c.settle_common.ensures.cells

pub returns-clause-sound : goal.returns-clause-sound
returns-clause-sound c = settled_sound c.args.self.now c.settle_common.new.self c.settle_common.ensures.rest c.settle_common.ensures.cells
