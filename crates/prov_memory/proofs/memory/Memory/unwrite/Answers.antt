use Rattle.std.proofs.Common.{refl, sym, subst, List, [], length}
use Rattle.std.proofs.Common.{◌≡◌, ◌∷◌, ◌∙◌, ap, arith}
use Rattle.ub_base.specs.declared.names.Item.TheVariants.{Alive, Write}
use Rattle.mem_objects.specs.Held.{Held, emptied}
use Rattle.mem_objects.specs.Made.{AreNamed}
use Rattle.mem_objects.proofs.PieceLemmas.{named_changed}
use Rattle.mem_objects.specs.Memory.{HaveRows, AreKnown, Kept}
use Rattle.prov_memory.specs.contracts.memory.Memory.{the_view}
use Rattle.mem_objects.proofs.StoreLemmas.{rows_emptied}
use Rattle.mem_objects.proofs.ActLemmas.{first_noted, noted_after, unwritten_act, known_emptied}
use Rattle.mem_objects.proofs.SoundLemmas.{changed_made, changed_sound}
use Rattle.prov_memory.proofs.KeepLemmas.{keeps_emptied, keeps_none}
use Rattle.prov_memory.proofs.memory.Memory.unwrite.Goals as goal

pub invariant_of-self : goal.invariant_of-self
invariant_of-self c =
    subst (λ (hs : List Held). HaveRows c.self.inside.map hs) (sym c.unwrite.ensures)
    (rows_emptied c.self.inside.map c.args.name c.self.inside.objects c.self.invariant)

pub returns-clause-exact : goal.returns-clause-exact
returns-clause-exact c = λ io.
    let first : c.note.new.self ≡ Alive c.args.name ∷ [] = first_noted c.clear.new.self c.note.new.self _ c.clear.ensures c.note.ensures in
    let second : c.note-2.new.self ≡ Alive c.args.name ∷ Write c.args.name 0 c.size-len.result ∷ [] =
    noted_after c.note.new.self c.note-2.new.self (Alive c.args.name ∷ []) _ first (omega arith) c.note-2.ensures in
    let size : c.size-len.result ≡ c.in-Some.object.now.size = c.size-len.ensures in
    rw (← c.self.view_is, c.unwrite.ensures)
    (unwritten_act (the_view c.self.inside) c.args.name c.in-Some.object.now c.note-2.new.self (sym c.in-Some.ensures.object) c.in-Some.ensures.fit
    c.self.invariant (second ∙ ap (λ n. Alive c.args.name ∷ Write c.args.name 0 n ∷ []) size) io)

pub returns-clause-known : goal.returns-clause-known
returns-clause-known c = λ known.
    let before : AreKnown (the_view c.self.inside) = subst (λ (m : Kept). AreKnown m) (sym c.self.view_is) known in
    rw c.unwrite.ensures (known_emptied (length c.self.inside.origins) c.args.name c.self.inside.objects before)

pub returns-clause-named : goal.returns-clause-named
returns-clause-named c = λ named.
    let before : AreNamed (the_view c.self.inside) = subst (λ (m : Kept). AreNamed m) (sym c.self.view_is) named in
    rw c.unwrite.ensures (named_changed c.self.inside.origins emptied c.args.name c.self.inside.objects (λ h. refl) (λ h. refl) before)

pub returns-clause-made : goal.returns-clause-made
returns-clause-made c = λ p.
    rw (← c.self.view_is, c.unwrite.ensures) (changed_made (the_view c.self.inside) emptied c.args.name (λ h. refl) (λ h. refl) p)

pub returns-clause-sound : goal.returns-clause-sound
returns-clause-sound c =
    rw (← c.self.view_is, c.unwrite.ensures)
    (changed_sound (the_view c.self.inside) emptied c.args.name (λ h. refl) (λ h. refl)
    (known_emptied (length c.self.inside.origins) c.args.name c.self.inside.objects))

pub returns-clause-rest : goal.returns-clause-rest
returns-clause-rest c = rw (← c.self.view_is) refl

pub returns-clause-kept : goal.returns-clause-kept
returns-clause-kept c = rw (← c.self.view_is, c.unwrite.ensures) (keeps_emptied (the_view c.self.inside) c.args.name)

pub returns-in_default-clause-kept : goal.returns-in_default-clause-kept
returns-in_default-clause-kept c = keeps_none c.args.self.now
