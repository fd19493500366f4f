use Rattle.std.proofs.Common.{Some, sym, ap, ◌∙◌}
use Rattle.std.proofs.lemmas.Option.{slice_get-get_or}
use Rattle.run_state.specs.declared.watch.Begun.{Begun}
use Rattle.run_events.proofs.Chosen.{taken_at}
use Rattle.run_events.proofs.choices.take_operand.Goals as goal

pub returns-in-Some-clause-chosen : goal.returns-in-Some-clause-chosen
returns-in-Some-clause-chosen c =
    let m = c.args.machine.now in
    taken_at c.set.result m c.in-Some.begun.now c.len.result c.args.node c.args.operand c.set.new.self (c.len.ensures ∙ m.below.ok.0)
    (slice_get-get_or m.begun.items c.len.result c.in-Some.begun.now c.in-Some.ensures.item.3.0
    ∙ ap (λ (b : Begun). Some b) (sym c.in-Some.ensures.value)) c.set.ensures.ok
