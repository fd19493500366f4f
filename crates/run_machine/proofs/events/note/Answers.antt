use Rattle.std.proofs.Common.{◌<◌, ◌∙◌, ap, sym, length, Some, refl, rules}
use Rattle.std.proofs.lemmas.Option.{slice_get-get_or}
use Rattle.run_machine.proofs.Returning.{noted_one, set_other, set_there, strayed_notes}
use Rattle.run_machine.proofs.events.note.Goals as goal

pub returns-in-Some-get_mut-clause-notes : goal.returns-in-Some-get_mut-clause-notes
returns-in-Some-get_mut-clause-notes c =
    let within : c.len.result < length c.args.machine.now.strayed.items = search (rules, c.in-Some-get_mut.ensures.variant.0 refl) in
    strayed_notes c.add.result c.args.machine.now.top.stage c.in-Some.stage c.args.machine.now _ c.args.place c.in-Some.is c.if-stage.false
    (noted_one c.add.result c.args.machine.now _ c.len.result c.args.place c.in-Some-get_mut.done.now c.add.new.self (search (rules, c.len.ensures)) refl
    (slice_get-get_or c.args.machine.now.strayed.items c.len.result c.in-Some-get_mut.done.now within ∙ ap (λ d. Some d) (sym c.in-Some-get_mut.ensures.value))
    (set_there c.args.machine.now.strayed.items c.len.result c.add.new.self within)
    (λ j ne. set_other c.args.machine.now.strayed.items c.len.result j c.add.new.self ne) c.add.ensures.ok)
