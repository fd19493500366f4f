use Rattle.std.proofs.Common.{◌≡◌, sym, subst, true}
use Rattle.exposure.specs.Cells.{has_cell}
use Rattle.mem_objects.specs.Memory.{Kept}
use Rattle.prov_memory.specs.contracts.memory.Memory.{the_view}
use Rattle.mem_objects.proofs.ActLemmas.{settled_all}
use Rattle.std.proofs.Common.{refl}
use Rattle.mem_objects.proofs.SettleLemmas.{stays_made}
use Rattle.mem_objects.proofs.SoundLemmas.{settled_sound, cells_narrowed}
use Rattle.prov_memory.proofs.KeepLemmas.{keeps_narrowed}
use Rattle.prov_memory.proofs.memory.Memory.narrow.Goals as goal

pub returns-clause-store : goal.returns-clause-store
returns-clause-store c = λ has.
    let before : has_cell (the_view c.self.inside).cells c.args.id ≡ true = subst (λ (m : Kept). has_cell m.cells c.args.id ≡ true) (sym c.self.view_is) has in
    rw (← c.self.view_is) (settled_all c.narrow.result (the_view c.self.inside) c.narrow.new.self c.args.id c.args.keep c.narrow.ensures.settled before)

pub returns-clause-made : goal.returns-clause-made
returns-clause-made c = λ p.
    let m = the_view c.self.inside in
    rw (← c.self.view_is) (stays_made m (record m { cells = c.narrow.new.self }) refl
    (cells_narrowed c.narrow.result m.cells c.narrow.new.self c.args.id c.args.keep c.narrow.ensures.settled c.narrow.ensures.unchanged) p)

pub returns-clause-sound : goal.returns-clause-sound
returns-clause-sound c =
    let m = the_view c.self.inside in
    rw (← c.self.view_is) (settled_sound m (record m { cells = c.narrow.new.self }) refl
    (cells_narrowed c.narrow.result m.cells c.narrow.new.self c.args.id c.args.keep c.narrow.ensures.settled c.narrow.ensures.unchanged))

pub returns-clause-kept : goal.returns-clause-kept
returns-clause-kept c =
    let m = the_view c.self.inside in
    rw (← c.self.view_is) (keeps_narrowed c.narrow.result m c.narrow.new.self c.args.id c.args.keep c.narrow.ensures.answer c.narrow.ensures.settled
    c.narrow.ensures.unchanged)
