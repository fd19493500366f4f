use Rattle.std.proofs.Common.{length, ap, []}
use Rattle.mem_spec.specs.Acts.{candidates}
use Rattle.mem_objects.specs.Memory.{Kept}
use Rattle.mem_objects.proofs.ActLemmas.{first_noted_all, exposed_act, known_uncovered}
use Rattle.mem_objects.proofs.PieceLemmas.{named_uncovered}
use Rattle.std.proofs.Common.{refl}
use Rattle.mem_objects.proofs.SoundLemmas.{shown_made, shown_sound}
use Rattle.prov_memory.proofs.KeepLemmas.{keeps_shown}
use Rattle.prov_memory.proofs.memory.Memory.expose.Goals as goal

pub returns-clause-exact : goal.returns-clause-exact
returns-clause-exact c =
    exposed_act c.args.self.now c.show_each.new.self c.args.prov c.show_each.new.t _ c.show_each.ensures.shown
    (first_noted_all c.clear.new.self c.show_each.new.t _ c.clear.ensures c.show_each.ensures.items)

pub returns-clause-known : goal.returns-clause-known
returns-clause-known c = λ known.
    rw c.show_each.ensures.shown (known_uncovered (length c.args.self.now.origins) (candidates c.args.prov) c.args.self.now.objects known)

pub returns-clause-named : goal.returns-clause-named
returns-clause-named c = λ named.
    rw c.show_each.ensures.shown (named_uncovered c.args.self.now.origins (candidates c.args.prov) c.args.self.now.objects named)

pub returns-clause-rest : goal.returns-clause-rest
returns-clause-rest c = ap (λ (m : Kept). record m { objects = [] }) c.show_each.ensures.shown

pub returns-clause-made : goal.returns-clause-made
returns-clause-made c =
    shown_made c.args.self.now c.show_each.new.self c.show_each.new.self (candidates c.args.prov) c.show_each.ensures.shown refl (λ e. refl)

pub returns-clause-sound : goal.returns-clause-sound
returns-clause-sound c =
    shown_sound c.args.self.now c.show_each.new.self c.show_each.new.self (candidates c.args.prov) c.show_each.ensures.shown refl (λ e. refl)

pub returns-clause-kept : goal.returns-clause-kept
returns-clause-kept c = keeps_shown c.args.self.now c.show_each.new.self (candidates c.args.prov) c.show_each.ensures.shown
