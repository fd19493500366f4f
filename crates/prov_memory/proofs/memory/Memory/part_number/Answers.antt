use Rattle.std.proofs.Common.{refl, ap, []}
use Rattle.mem_objects.specs.Loads.{origins_of}
use Rattle.mem_objects.specs.Memory.{Kept}
use Rattle.mem_objects.specs.Pieces.{seen}
use Rattle.mem_objects.proofs.SoundLemmas.{shown_made, shown_sound}
use Rattle.prov_memory.proofs.KeepLemmas.{keeps_shown, keeps_none}
use Rattle.prov_memory.proofs.memory.Memory.part_number.Goals as goal

pub returns-clause-made : goal.returns-clause-made
returns-clause-made c =
    let m = c.args.self.now in
    shown_made m c.show_cells.new.self c.show_cells.new.self (origins_of (seen m c.args.cells.now)) c.show_cells.ensures.shown refl (λ e. refl)

pub returns-clause-sound : goal.returns-clause-sound
returns-clause-sound c =
    let m = c.args.self.now in
    shown_sound m c.show_cells.new.self c.show_cells.new.self (origins_of (seen m c.args.cells.now)) c.show_cells.ensures.shown refl (λ e. refl)

pub returns-clause-rest : goal.returns-clause-rest
returns-clause-rest c = ap (λ (k : Kept). record k { objects = [] }) c.show_cells.ensures.shown

pub returns-clause-kept : goal.returns-clause-kept
returns-clause-kept c =
    let m = c.args.self.now in
    keeps_shown m c.show_cells.new.self (origins_of (seen m c.args.cells.now)) c.show_cells.ensures.shown

pub returns-in_err-number-clause-kept : goal.returns-in_err-number-clause-kept
returns-in_err-number-clause-kept c = keeps_none c.args.self.now
