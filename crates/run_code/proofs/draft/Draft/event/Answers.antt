use Rattle.std.proofs.Common.{◌≡◌, length, slice_get, Some, refl, ap}
use Rattle.std.proofs.lemmas.Option.{slice_get_read}
use Rattle.c_typed.specs.declared.tree.Place.{Place}
use Rattle.run_layout.proofs.Grown.{event_added}
use Rattle.run_code.proofs.FittingLemmas.{node_fits}
use Rattle.run_code.proofs.draft.Draft.event.Goals as goal

pub returns-clause-due : goal.returns-clause-due
returns-clause-due c = λ h.
    let found = c.in-Some.ensures.lookup in
    let there : slice_get c.args.nodes.now c.args.number ≡ Some c.in-Some.info.now =
    slice_get_read c.args.nodes.now (length c.args.nodes.now) c.args.number c.in-Some.info.now refl found.3.0 found.1 in
    event_added c.args.self.now.function.objects.first.items c.due.new.self.function.objects.first.items c.args.self.now.expressions.tables
    c.due.new.self.expressions.tables
    c.args.nodes.now c.args.entries.now.items c.push.new.self.items c.in_ok-due.due c.in-Some.info.now c.args.number
    c.in_ok-due.ensures.objects c.in_ok-due.ensures.grown c.in_ok-push.ensures.items (ap (λ (p : Place). p.node) c.in_ok-due.ensures.place) there
    c.in_ok-due.ensures.due (λ noted at. c.in_ok-due.ensures.choice c.args.self.now.function.objects.first.items noted) h

pub returns-clause-fit : goal.returns-clause-fit
returns-clause-fit c = λ p n h.
    let found = c.in-Some.ensures.lookup in
    let there : slice_get c.args.nodes.now c.args.number ≡ Some c.in-Some.info.now =
    slice_get_read c.args.nodes.now (length c.args.nodes.now) c.args.number c.in-Some.info.now refl found.3.0 found.1 in
    c.in_ok-due.ensures.fit p (node_fits p c.args.nodes.now c.args.number c.in-Some.info.now n there) h
