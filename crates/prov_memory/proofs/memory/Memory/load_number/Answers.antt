use Rattle.std.proofs.Common.{map}
use Rattle.ub_base.specs.declared.names.Item.TheVariants.{Expose, Read}
use Rattle.mem_objects.specs.Access.{bytes_in}
use Rattle.mem_objects.specs.Loads.{origins_of}
use Rattle.prov_memory.proofs.ShowLemmas.{loaded_by, load_noted, besides_put}
use Rattle.mem_objects.proofs.SoundLemmas.{shown_made, shown_sound}
use Rattle.prov_memory.proofs.KeepLemmas.{keeps_then, keeps_shown, keeps_none}
use Rattle.prov_memory.proofs.memory.Memory.load_number.Goals as goal

pub returns-clause-loaded : goal.returns-clause-loaded
returns-clause-loaded c = λ h e.
    loaded_by c.args.self.now c.show_pieces.new.self c.settle.new.self (origins_of (bytes_in c.args.self.now h c.args.found.from c.args.len))
    c.args.found.settles (c.show_pieces.ensures.shown h e) c.settle.ensures.rest c.settle.ensures.store

pub returns-clause-items : goal.returns-clause-items
returns-clause-items c = λ h e room.
    load_noted c.args.t.now c.note_read.new.t c.show_pieces.new.t (Read c.args.found.name c.args.found.from c.args.len)
    (map Expose (origins_of (bytes_in c.args.self.now h c.args.found.from c.args.len))) room c.note_read.ensures (c.show_pieces.ensures.items h e)

pub returns-clause-made : goal.returns-clause-made
returns-clause-made c =
    let r = c.requires.reached in
    shown_made c.args.self.now c.show_pieces.new.self c.settle.new.self (origins_of (bytes_in c.args.self.now r.object c.args.found.from c.args.len))
    (c.show_pieces.ensures.shown r.object r.there) c.settle.ensures.rest c.settle.ensures.cells

pub returns-clause-sound : goal.returns-clause-sound
returns-clause-sound c =
    let r = c.requires.reached in
    shown_sound c.args.self.now c.show_pieces.new.self c.settle.new.self (origins_of (bytes_in c.args.self.now r.object c.args.found.from c.args.len))
    (c.show_pieces.ensures.shown r.object r.there) c.settle.ensures.rest c.settle.ensures.cells

pub returns-clause-rest : goal.returns-clause-rest
returns-clause-rest c =
    let r = c.requires.reached in
    besides_put c.args.self.now c.show_pieces.new.self c.settle.new.self _ (c.show_pieces.ensures.shown r.object r.there) c.settle.ensures.rest

pub returns-clause-kept : goal.returns-clause-kept
returns-clause-kept c =
    let r = c.requires.reached in
    keeps_then c.args.self.now c.show_pieces.new.self c.settle.new.self
    (keeps_shown c.args.self.now c.show_pieces.new.self (origins_of (bytes_in c.args.self.now r.object c.args.found.from c.args.len))
    (c.show_pieces.ensures.shown r.object r.there)) c.settle.ensures.kept

pub returns-in_err-number-clause-kept : goal.returns-in_err-number-clause-kept
returns-in_err-number-clause-kept c = keeps_none c.args.self.now
