use Rattle.std.proofs.Common.{refl, sym, subst, List, length}
use Rattle.mem_objects.specs.Held.{Held, killed}
use Rattle.mem_objects.specs.Made.{AreNamed}
use Rattle.mem_objects.proofs.PieceLemmas.{named_changed}
use Rattle.mem_objects.specs.Memory.{HaveRows, AreKnown, Kept}
use Rattle.prov_memory.specs.contracts.memory.Memory.{the_view}
use Rattle.mem_objects.proofs.StoreLemmas.{rows_killed}
use Rattle.mem_objects.proofs.ActLemmas.{first_noted, killed_act, known_killed}
use Rattle.mem_objects.proofs.SoundLemmas.{changed_made, changed_sound}
use Rattle.prov_memory.proofs.KeepLemmas.{keeps_killed}
use Rattle.prov_memory.proofs.memory.Memory.kill.Goals as goal

pub invariant_of-self : goal.invariant_of-self
invariant_of-self c =
    subst (λ (hs : List Held). HaveRows c.self.inside.map hs) (sym c.kill.ensures)
    (rows_killed c.self.inside.map c.args.name c.self.inside.objects c.self.invariant)

pub returns-clause-exact : goal.returns-clause-exact
returns-clause-exact c = λ io.
    rw (← c.self.view_is, c.kill.ensures) (killed_act (the_view c.self.inside) c.args.name c.note.new.self c.self.inside.map
    (first_noted c.clear.new.self c.note.new.self _ c.clear.ensures c.note.ensures) io)

pub returns-clause-known : goal.returns-clause-known
returns-clause-known c = λ known.
    let before : AreKnown (the_view c.self.inside) = subst (λ (m : Kept). AreKnown m) (sym c.self.view_is) known in
    rw c.kill.ensures (known_killed (length c.self.inside.origins) c.args.name c.self.inside.objects before)

pub returns-clause-named : goal.returns-clause-named
returns-clause-named c = λ named.
    let before : AreNamed (the_view c.self.inside) = subst (λ (m : Kept). AreNamed m) (sym c.self.view_is) named in
    rw c.kill.ensures (named_changed c.self.inside.origins killed c.args.name c.self.inside.objects (λ h. refl) (λ h. refl) before)

pub returns-clause-made : goal.returns-clause-made
returns-clause-made c = λ p.
    rw (← c.self.view_is, c.kill.ensures) (changed_made (the_view c.self.inside) killed c.args.name (λ h. refl) (λ h. refl) p)

pub returns-clause-sound : goal.returns-clause-sound
returns-clause-sound c =
    rw (← c.self.view_is, c.kill.ensures) (changed_sound (the_view c.self.inside) killed c.args.name (λ h. refl) (λ h. refl)
    (known_killed (length c.self.inside.origins) c.args.name c.self.inside.objects))

pub returns-clause-rest : goal.returns-clause-rest
returns-clause-rest c = rw (← c.self.view_is) refl

pub returns-clause-kept : goal.returns-clause-kept
returns-clause-kept c = rw (← c.self.view_is, c.kill.ensures) (keeps_killed (the_view c.self.inside) c.args.name)
