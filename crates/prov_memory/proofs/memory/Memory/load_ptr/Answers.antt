use Rattle.std.proofs.Common.{refl, sym, subst, ap, List}
use Rattle.std.proofs.lemmas.Result.{err_from_is_err_and}
use Rattle.c_types.specs.Types.{type_of}
use Rattle.mem_objects.specs.Memory.{Kept}
use Rattle.mem_objects.specs.Made.{Extends, IsMade}
use Rattle.mem_objects.specs.Sound.{IsSound}
use Rattle.prov_memory.specs.Named.{named_in}
use Rattle.prov_memory.proofs.PointerLemmas.{pointer_unreached, pointer_unread, pointer_exact, unresolved}
use Rattle.mem_objects.proofs.SoundLemmas.{pointer_value, pointer_kept, more_made, settled_sound}
use Rattle.prov_memory.proofs.ShowLemmas.{besides_looked}
use Rattle.exposure.specs.declared.prov.Prov.{Prov}
use Rattle.prov_memory.proofs.KeepLemmas.{keeps_then, keeps_after, keeps_same}
use Rattle.prov_memory.proofs.memory.Memory.load_ptr.Goals as goal

pub returns-in_err-found-clause-raises : goal.returns-in_err-found-clause-raises
returns-in_err-found-clause-raises c =
    let p = err_from_is_err_and c.from_residual.result c.from_residual.ensures.1 in
    rw (p.1, p.2) (pointer_unreached c.args.self.now (type_of c.args.ty.now) c.args.who c.args.align c.args.addr c.args.prov c.in_err-found.field-0.0
    c.in_err-found.ensures.raises)

pub returns-in_err-number-clause-raises : goal.returns-in_err-number-clause-raises
returns-in_err-number-clause-raises c =
    let p = err_from_is_err_and c.from_residual-in_err-number.result c.from_residual-in_err-number.ensures.1 in
    rw (p.1, p.2) (pointer_unread c.args.self.now c.access.new.self c.in_ok-found.found (type_of c.args.ty.now) c.args.who c.args.align c.args.addr
    c.args.prov c.in_err-number.field-0.0 c.access.ensures.same c.in_ok-found.ensures.exact c.in_ok-found.ensures.found c.in_err-number.ensures)

pub returns-in_err-target-clause-raises : goal.returns-in_err-target-clause-raises
returns-in_err-target-clause-raises c =
    let p = err_from_is_err_and c.from_residual-in_err-target.result c.from_residual-in_err-target.ensures.1 in
    rw (p.1, p.2) (unresolved c.in_err-target.field-0.0 c.args.self.now c.access.new.self c.in_ok-found.found (type_of c.args.ty.now) c.args.who c.args.align
    c.args.addr c.args.prov (named_in c.access.new.self.origins c.pointer_seen-seen.result.1) c.in_ok-number.number c.access.ensures.same
    c.in_ok-found.ensures.exact c.in_ok-found.ensures.found c.in_ok-number.ensures c.pointer_seen-seen.ensures.pointer c.in_err-target.ensures.raises)

pub returns-clause-exact : goal.returns-clause-exact
returns-clause-exact c =
    pointer_exact c.args.self.now c.access.new.self c.resolved.new.self c.settle.new.self c.in_ok-found.found (type_of c.args.ty.now) c.args.who c.args.align
    c.args.addr c.args.prov c.in_ok-target.target (named_in c.access.new.self.origins c.pointer_seen-seen.result.1) c.in_ok-number.number c.access.new.t
    c.note_read.new.t c.resolved.new.t
    c.access.ensures.same c.in_ok-found.ensures.exact c.in_ok-found.ensures.found c.in_ok-found.ensures.settles
    (c.in_ok-found.ensures.items c.clear.ensures) c.in_ok-number.ensures c.note_read.ensures c.pointer_seen-seen.ensures.pointer c.in_ok-target.ensures.exact
    c.in_ok-target.ensures.items c.resolved.ensures.more c.settle.ensures.rest c.settle.ensures.store

pub returns-clause-value : goal.returns-clause-value
returns-clause-value c =
    pointer_value c.args.self.now c.access.new.self c.resolved.new.self c.settle.new.self c.in_ok-found.found
    (named_in c.access.new.self.origins c.pointer_seen-seen.result.1)
    c.in_ok-target.target c.access.ensures.same c.in_ok-found.ensures.found c.pointer_seen-seen.ensures.pointer c.in_ok-target.ensures.value
    c.settle.ensures.rest
    c.settle.ensures.cells

pub returns-clause-made : goal.returns-clause-made
returns-clause-made c =
    pointer_kept c.args.self.now c.access.new.self c.resolved.new.self c.settle.new.self c.access.ensures.same c.resolved.ensures.more c.settle.ensures.rest
    c.settle.ensures.cells

pub returns-in_err-target-clause-made : goal.returns-in_err-target-clause-made
returns-in_err-target-clause-made c = λ p made.
    more_made c.access.new.self c.resolved.new.self c.resolved.ensures.more p (subst (λ (m : Kept). IsMade m p) (sym c.access.ensures.same) made)

pub returns-clause-sound : goal.returns-clause-sound
returns-clause-sound c = λ s.
    settled_sound c.resolved.new.self c.settle.new.self c.settle.ensures.rest c.settle.ensures.cells
    (c.resolved.ensures.sound (subst (λ (m : Kept). IsSound m) (sym c.access.ensures.same) s))

pub returns-clause-rest : goal.returns-clause-rest
returns-clause-rest c = besides_looked c.args.self.now c.access.new.self c.resolved.new.self c.settle.new.self c.access.ensures.same
    c.resolved.ensures.more.rest c.settle.ensures.rest

pub returns-clause-origins : goal.returns-clause-origins
returns-clause-origins c =
    subst (λ (ps : List Prov). Extends ps c.settle.new.self.origins) (ap (λ (k : Kept). k.origins) c.access.ensures.same)
    (subst (λ (ps : List Prov). Extends c.access.new.self.origins ps) (sym (ap (λ (k : Kept). k.origins) c.settle.ensures.rest))
    c.resolved.ensures.more.origins)

pub returns-in_err-target-clause-rest : goal.returns-in_err-target-clause-rest
returns-in_err-target-clause-rest c = besides_looked c.args.self.now c.access.new.self c.resolved.new.self c.resolved.new.self c.access.ensures.same
    c.resolved.ensures.more.rest refl

pub returns-in_err-target-clause-origins : goal.returns-in_err-target-clause-origins
returns-in_err-target-clause-origins c =
    subst (λ (ps : List Prov). Extends ps c.resolved.new.self.origins) (ap (λ (k : Kept). k.origins) c.access.ensures.same) c.resolved.ensures.more.origins

pub returns-clause-kept : goal.returns-clause-kept
returns-clause-kept c =
    keeps_after c.args.self.now c.access.new.self c.settle.new.self c.access.ensures.same
    (keeps_then c.access.new.self c.resolved.new.self c.settle.new.self c.resolved.ensures.kept c.settle.ensures.kept)

pub returns-in_err-found-clause-kept : goal.returns-in_err-found-clause-kept
returns-in_err-found-clause-kept c = keeps_same c.args.self.now c.access.new.self c.access.ensures.same

pub returns-in_err-number-clause-kept : goal.returns-in_err-number-clause-kept
returns-in_err-number-clause-kept c = keeps_same c.args.self.now c.access.new.self c.access.ensures.same

pub returns-in_err-target-clause-kept : goal.returns-in_err-target-clause-kept
returns-in_err-target-clause-kept c = keeps_after c.args.self.now c.access.new.self c.resolved.new.self c.access.ensures.same c.resolved.ensures.kept

pub returns-in_err-target-clause-sound : goal.returns-in_err-target-clause-sound
returns-in_err-target-clause-sound c = (keeps_after c.args.self.now c.access.new.self c.resolved.new.self c.access.ensures.same c.resolved.ensures.kept).sound
