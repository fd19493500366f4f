use Rattle.std.proofs.Common.{◌≡◌, ◌<◌, ◌∙◌, List, length, slice_get, Some, refl, sym, ap, arith}
use Rattle.std.proofs.lemmas.Bool.Decides.{nat_tests}
use Rattle.std.proofs.lemmas.Option.{slice_get_read}
use Rattle.run_layout.specs.declared.steps.Listed.{Listed}
use Rattle.run_layout.specs.declared.steps.Listed.TheVariants as listed
use Rattle.run_machine.proofs.Ahead.{event_first}
use Rattle.run_machine.proofs.picks.event_ahead.Goals as goal

pub returns-in-Some-Event : goal.returns-in-Some-Event
returns-in-Some-Event c = λ taken.
    let m = c.args.machine.now in
    let s = c.args.stage in
    let found = c.in-Some-Event.ensures.lookup in
    let there : slice_get c.deref.result.now s.cursor ≡ Some c.in-Some-Event.field-0.now =
    slice_get_read c.deref.result.now (length c.deref.result.now) s.cursor c.in-Some-Event.field-0.now refl found.3.0 found.1 in
    let here : slice_get m.image.code.now.listing.items s.cursor ≡ Some (listed.Event c.in-Some-Event.due) =
    ap (λ (xs : List Listed). slice_get xs s.cursor) (sym c.deref.ensures.value) ∙ there ∙ ap (λ (x : Listed). Some x) c.in-Some-Event.field-0-is in
    let before : s.cursor < s.end = grind (arith, nat_tests, c.if-stage.false) in
    event_first m.image.code.now.listing.items s.cursor s.end c.in-Some-Event.due here before taken
