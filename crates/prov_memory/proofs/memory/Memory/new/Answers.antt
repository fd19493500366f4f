use Rattle.std.proofs.Common.{◌∙◌, sym, ap, subst, List, Some}
use Rattle.addr_map.specs.declared.map.Row.{Row}
use Rattle.mem_objects.specs.Memory.{Kept, empty}
use Rattle.mem_objects.specs.Sound.{IsSound}
use Rattle.mem_objects.specs.Tags.{AreTagged}
use Rattle.mem_objects.specs.Room.{IsClose}
use Rattle.mem_objects.proofs.SoundLemmas.{empty_sound}
use Rattle.prov_memory.proofs.RoomLemmas.{empty_close}
use Rattle.prov_memory.proofs.memory.Memory.new.Goals as goal

pub returns-clause-sound : goal.returns-clause-sound
returns-clause-sound c = subst (λ (m : Kept). IsSound m) (sym c.with.ensures) (empty_sound _ _)

pub returns-clause-tagged : goal.returns-clause-tagged
returns-clause-tagged c = subst (λ (m : Kept). AreTagged m) (sym c.with.ensures) tt

pub returns-clause-close : goal.returns-clause-close
returns-clause-close c =
    subst (λ (m : Kept). IsClose m) (sym (c.with.ensures ∙ ap (λ (rows : List Row). empty rows (Some c.args.mode)) c.new.ensures))
    (empty_close (Some c.args.mode))
