use Rattle.mem_objects.proofs.ActLemmas.{created_all, created_known}
use Rattle.std.proofs.Common.{option_map}
use Rattle.mem_objects.proofs.SoundLemmas.{created_made, created_whole, created_sound}
use Rattle.prov_memory.proofs.BirthLemmas.{keeps_created, rows_kept, made_either, sound_either}
use Rattle.prov_memory.proofs.RoomLemmas.{place_found}
use Rattle.prov_memory.proofs.memory.Memory.create.Goals as goal

pub returns-clause-exact : goal.returns-clause-exact
returns-clause-exact c =
    created_all c.bear.result c.args.self.now c.bear.new.self c.args.name c.args.size c.args.align c.args.kind
    (λ shape. shape.value) c.args.declared c.bear.new.t c.bear.ensures.born c.bear.ensures.items

pub returns-clause-known : goal.returns-clause-known
returns-clause-known c =
    created_known c.bear.result c.args.self.now c.bear.new.self c.args.name c.args.size c.args.align c.args.kind
    (λ shape. shape.value) c.args.declared c.bear.ensures.born

pub returns-clause-made : goal.returns-clause-made
returns-clause-made c = λ p.
    made_either c.bear.result c.args.self.now c.bear.new.self p
    (created_made c.bear.result c.args.self.now c.bear.new.self c.args.name c.args.size c.args.align c.args.kind
    (option_map (λ shape. shape.value) c.args.declared) c.bear.ensures.born p) c.bear.ensures.kept

pub returns-clause-whole : goal.returns-clause-whole
returns-clause-whole c =
    created_whole c.bear.result c.args.self.now c.bear.new.self c.args.name c.args.size c.args.align c.args.kind
    (option_map (λ shape. shape.value) c.args.declared) c.bear.ensures.born

pub returns-clause-sound : goal.returns-clause-sound
returns-clause-sound c =
    sound_either c.bear.result c.args.self.now c.bear.new.self
    (created_sound c.bear.result c.args.self.now c.bear.new.self c.args.name c.args.size c.args.align c.args.kind
    (option_map (λ shape. shape.value) c.args.declared) c.bear.ensures.born c.bear.ensures.named
    (rows_kept c.bear.result c.args.self.now c.bear.new.self c.args.name c.args.size c.args.align c.bear.ensures.rows)) c.bear.ensures.kept

pub returns-clause-kept : goal.returns-clause-kept
returns-clause-kept c =
    keeps_created c.bear.result c.args.self.now c.bear.new.self c.args.name c.args.size c.args.align c.args.kind
    (λ shape. shape.value) c.args.declared c.bear.ensures.born c.bear.ensures.named c.bear.ensures.base c.bear.ensures.rows c.bear.ensures.able
    c.bear.ensures.mode c.bear.ensures.kept

pub returns-clause-room : goal.returns-clause-room
returns-clause-room c = λ close can e. place_found c.args.self.now c.args.name c.args.size c.args.align close can (c.bear.ensures.unplaced e)
