use Rattle.std.proofs.Common.{rules, sym, subst}
use Rattle.std.specs.List.{All}
use Rattle.std.proofs.lemmas.List.Elements.{All-push}
use Rattle.c_typed.specs.Lawful.{IsComplete}
use Rattle.type_program.proofs.statics.program_statics.Goals as goal

-- src/statics.rt:130:5
pub loop-row-preserved-in-Continue-branch-2 : goal.loop-row-preserved-in-Continue-branch-2
loop-row-preserved-in-Continue-branch-2 c =
    let one : IsComplete c.args.tags.now c.in-Ok-Some.object = search rules in
    subst (All (IsComplete c.args.tags.now)) (sym c.in_ok-push-in-Ok-Some.ensures.ok)
    (All-push (IsComplete c.args.tags.now) c.loop-row.statics c.in-Ok-Some.object c.loop-row.invariant one)
