use Rattle.std.proofs.Common.{ap, subst, ◌∙◌}
use Rattle.seq_order.specs.Marked.{taken_in}
use Rattle.run_listing.specs.Along.{part_of, Next}
use Rattle.run_answers.proofs.Parts.{named_next}
use Rattle.run_machine.proofs.picks.listed_next.Goals as goal

pub returns-clause-next : goal.returns-clause-next
returns-clause-next c =
    let b = c.in_ok-begun.begun.now in (
      b,
      c.in_ok-begun.ensures,
      subst (λ es. Next (taken_in b.taken) es c.next.result)
          (c.part.ensures ∙ ap (λ es. part_of es c.args.stage.cursor c.args.stage.end) c.deref.ensures.value) c.next.ensures,
    )

pub returns-clause-named : goal.returns-clause-named
returns-clause-named c =
    let code = c.args.machine.now.image.code.now in
    named_next code.tables code.listing.items c.part.result.now c.args.stage.cursor c.args.stage.end (taken_in c.in_ok-begun.begun.now.taken) c.next.result
    (c.part.ensures ∙ ap (λ es. part_of es c.args.stage.cursor c.args.stage.end) c.deref.ensures.value) code.named c.next.ensures
