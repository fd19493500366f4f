use Rattle.std.proofs.Common.{◌∙◌, ap, sym, subst, Option}
use Rattle.std.specs.Option.{unwrap_or}
use Rattle.mem_objects.specs.declared.value.Value.{Value as Kept_value}
use Rattle.run_answers.specs.Ending.{HasGiven}
use Rattle.run_machine.proofs.Returning.{has_given, or_this_is}
use Rattle.run_machine.proofs.frames.result_of.Goals as goal

pub returns : goal.returns
returns c =
    let m = c.args.machine.now in
    let n = c.left_without-otherwise.new.machine in
    subst (λ (o : Option Kept_value). HasGiven m c.unwrap_or.result (record n { left = o })) (sym c.take.ensures.after)
    (has_given m n c.left_without-otherwise.result c.unwrap_or.result c.left_without-otherwise.ensures.rest c.left_without-otherwise.ensures.value
    (c.unwrap_or.ensures ∙ ap (λ (o : Option Kept_value). unwrap_or o c.left_without-otherwise.result) c.take.ensures.value
    ∙ or_this_is c.left_without-otherwise.result n.left))
