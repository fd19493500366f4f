use Rattle.std.proofs.Common.{ap, ◌∙◌, subst}
use Rattle.std.specs.Option.{IfSome}
use Rattle.c_typed.specs.Tree.{tree_of}
use Rattle.c_typed.specs.Decide.{canonical}
use Rattle.seq_order.specs.Marked.{taken_in}
use Rattle.run_listing.specs.Along.{part_of, events_of, IsListed}
use Rattle.run_machine.proofs.Picked.{kept_as}
use Rattle.run_answers.proofs.Parts.{named_found}
use Rattle.run_machine.proofs.picks.strayed_next.Goals as goal

pub returns-clause-next : goal.returns-clause-next
returns-clause-next c =
    let b = c.in_ok-begun.begun.now in
    let taken = taken_in b.taken in
    let part = c.part.ensures ∙ ap (λ es. part_of es c.args.stage.first c.args.stage.end) c.deref.ensures.value in (
      b,
      c.in_ok-begun.ensures,
      λ few all.
          c.next_left.ensures.next few (ap (events_of taken) part ∙ all)
          ∙ ap (canonical (tree_of b.root.now) taken) (kept_as c.args.machine.now c.in_ok-done.done.now c.in_ok-done.ensures),
    )

pub returns-clause-named : goal.returns-clause-named
returns-clause-named c =
    let code = c.args.machine.now.image.code.now in
    named_found code.tables code.listing.items c.part.result.now c.args.stage.first c.args.stage.end c.next_left.result
    (c.part.ensures ∙ ap (λ es. part_of es c.args.stage.first c.args.stage.end) c.deref.ensures.value) code.named c.next_left.ensures.listed

pub returns-clause-listed : goal.returns-clause-listed
returns-clause-listed c =
    subst (λ es. IfSome c.next_left.result (λ due. IsListed es due.now))
    (c.part.ensures ∙ ap (λ es. part_of es c.args.stage.first c.args.stage.end) c.deref.ensures.value) c.next_left.ensures.listed
