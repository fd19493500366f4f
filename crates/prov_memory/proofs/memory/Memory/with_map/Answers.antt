use Rattle.std.proofs.Common.{sym, subst}
use Rattle.mem_objects.specs.Memory.{Kept}
use Rattle.mem_objects.specs.Sound.{IsSound}
use Rattle.mem_objects.specs.Tags.{AreTagged}
use Rattle.mem_objects.proofs.SoundLemmas.{empty_sound}
use Rattle.prov_memory.proofs.memory.Memory.with_map.Goals as goal

pub returns-clause-sound : goal.returns-clause-sound
returns-clause-sound c = subst (λ (m : Kept). IsSound m) (sym c.with.ensures) (empty_sound _ _)

pub returns-clause-tagged : goal.returns-clause-tagged
returns-clause-tagged c = subst (λ (m : Kept). AreTagged m) (sym c.with.ensures) tt
