use Rattle.std.proofs.Common.{ap, ◌∙◌, map, subst, sym, string_bytes, length, ◌+◌, ◌≤◌}
use Rattle.std.specs.Borrow.{Bor}
use Rattle.std.proofs.lemmas.List.{length-map}
use Rattle.c_typed.specs.declared.program.Program.{Program}
use Rattle.mem_objects.specs.Keeps.{Keeps}
use Rattle.mem_objects.specs.Memory.{Kept}
use Rattle.mem_objects.specs.Sound.{IsSound}
use Rattle.mem_objects.specs.Tags.{AreTagged}
use Rattle.mem_objects.proofs.SoundLemmas.{empty_sound}
use Rattle.run_state.specs.declared.image.Image.{Image}
use Rattle.run_state.specs.declared.machine.Machine.{Machine}
use Rattle.run_state.specs.declared.machine.Open.{Open}
use Rattle.run_start.proofs.Beginning.{assembled_parts, parts_after, begins}
use Rattle.run_start.proofs.Given.{holds_given, labels_same}
use Rattle.run_start.proofs.Unstarted.{counted, unstarted}
use Rattle.run_start.proofs.initial.prepare.Goals as goal

pub returns-clause-stands : goal.returns-clause-stands
returns-clause-stands c = λ lawful few nothing high.
    let old = c.args.memory in
    let first = c.in_ok-first.first in
    let words = map string_bytes c.args.args.now in
    let made = c.assembled-machine.ensures in
    let sound = subst (λ (k : Kept). IsSound k) (sym nothing) (empty_sound old.rows old.mode) in
    let before = c.in_ok-first.ensures.kept sound lawful in
    let since = c.vias_of.ensures.kept in
    let parts = assembled_parts old first.memory c.args.program.now words c.args.input c.assembled-machine.result first.places c.vias_of.new.memory
    c.args.code.now c.in_ok-vias.vias.items c.in_ok-fillings.fillings.items c.in_ok-frame.frame.top c.in_ok-frame.frame.work
    (ap (λ (b : Bor Program). b.now) made.program) made.places made.memory (ap (λ (g : Image). g.code.now) made.image)
    (ap (λ (g : Image). g.vias.items) made.image)
    (ap (λ (g : Image). g.fillings.items) made.image) made.top made.work (made.streams ∙ c.new-streams.ensures) made.below made.depth made.left
    (c.in_ok-first.ensures.stands sound lawful few) (c.in_ok-first.ensures.placed sound lawful) before since
    (c.vias_of.ensures.store (before.tagged (subst (λ (k : Kept). AreTagged k) (sym nothing) tt))) c.in_ok-vias.ensures.vias
    (c.in_ok-fillings.ensures.bytes (since.sound (before.sound sound)).named) c.in_ok-frame.ensures.top c.in_ok-frame.ensures.work in
    begins old first.memory c.args.program.now words c.args.input c.grow_locals.new.self nothing high
    (parts_after old first.memory c.args.program.now words c.args.input c.assembled-machine.result c.grow_locals.new.self c.grow_locals.ensures.rest parts)

pub returns-clause-counts : goal.returns-clause-counts
returns-clause-counts c = λ lawful few nothing.
    let old = c.args.memory in
    let first = c.in_ok-first.first in
    let words = map string_bytes c.args.args.now in
    let made = c.assembled-machine.ensures in
    let sound = subst (λ (k : Kept). IsSound k) (sym nothing) (empty_sound old.rows old.mode) in
    let before = c.in_ok-first.ensures.kept sound lawful in
    let since = c.vias_of.ensures.kept in
    let parts = assembled_parts old first.memory c.args.program.now words c.args.input c.assembled-machine.result first.places c.vias_of.new.memory
    c.args.code.now c.in_ok-vias.vias.items c.in_ok-fillings.fillings.items c.in_ok-frame.frame.top c.in_ok-frame.frame.work
    (ap (λ (b : Bor Program). b.now) made.program) made.places made.memory (ap (λ (g : Image). g.code.now) made.image)
    (ap (λ (g : Image). g.vias.items) made.image)
    (ap (λ (g : Image). g.fillings.items) made.image) made.top made.work (made.streams ∙ c.new-streams.ensures) made.below made.depth made.left
    (c.in_ok-first.ensures.stands sound lawful few) (c.in_ok-first.ensures.placed sound lawful) before since
    (c.vias_of.ensures.store (before.tagged (subst (λ (k : Kept). AreTagged k) (sym nothing) tt))) c.in_ok-vias.ensures.vias
    (c.in_ok-fillings.ensures.bytes (since.sound (before.sound sound)).named) c.in_ok-frame.ensures.top c.in_ok-frame.ensures.work in
    counted old first.memory c.args.program.now words c.args.input c.grow_locals.new.self nothing
    (parts_after old first.memory c.args.program.now words c.args.input c.assembled-machine.result c.grow_locals.new.self c.grow_locals.ensures.rest parts)

pub returns-clause-given : goal.returns-clause-given
returns-clause-given c = λ lawful nothing.
    let old = c.args.memory in
    let first = c.in_ok-first.first in
    let m = c.grow_locals.new.self in
    let words = map string_bytes c.args.args.now in
    let made = c.assembled-machine.ensures in
    let sound = subst (λ (k : Kept). IsSound k) (sym nothing) (empty_sound old.rows old.mode) in
    let many = ap (λ n. n + 1) (sym (length-map c.args.args.now string_bytes)) in
    let memory = ap (λ (n : Machine). n.memory) c.grow_locals.ensures.rest ∙ made.memory in
    let values = ap (λ (n : Machine). n.values.items) c.grow_locals.ensures.rest ∙ ap (λ v. v.items) made.values in
    holds_given first.memory c.args.program.now first.values.items words (length c.args.args.now + 1) m many (c.in_ok-first.ensures.given sound lawful)
    (subst (λ (k : Kept). Keeps first.memory k) (sym memory) c.vias_of.ensures.kept) values

pub returns-clause-labels : goal.returns-clause-labels
returns-clause-labels c =
    let m = c.grow_locals.new.self in
    let made = c.assembled-machine.ensures in
    labels_same m.image.code.now c.args.code.now m.jumps c.in_ok-frame.frame.jumps
    (ap (λ (n : Machine). n.image.code.now) c.grow_locals.ensures.rest ∙ ap (λ (g : Image). g.code.now) made.image)
    (ap (λ (n : Machine). n.jumps) c.grow_locals.ensures.rest ∙ made.jumps) c.in_ok-frame.ensures.labels

pub returns-clause-code : goal.returns-clause-code
returns-clause-code c = ap (λ (n : Machine). n.image.code) c.grow_locals.ensures.rest ∙ ap (λ (g : Image). g.code) c.assembled-machine.ensures.image

pub returns-clause-first : goal.returns-clause-first
returns-clause-first c =
    let made = c.assembled-machine.ensures in
    let m = c.grow_locals.new.self in
    unstarted c.args.program.now c.args.code.now c.in_ok-frame.frame.top c.assembled-machine.result m c.grow_locals.ensures.rest
    (subst (λ (o : Open). o.above ≤ length m.locals.items) (sym made.top) c.in_ok-grow_locals.ensures.count)
    (ap (λ (b : Bor Program). b.now) made.program) (ap (λ (g : Image). g.code.now) made.image) made.top c.in_ok-frame.ensures.top c.in_ok-frame.ensures.sees
    made.below made.entered made.depth made.begun made.strayed made.left (made.items ∙ c.in_ok-items.ensures.pick)
    (made.spare ∙ c.in_ok-items.ensures.act)
