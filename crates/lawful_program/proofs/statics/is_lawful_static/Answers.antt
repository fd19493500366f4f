use Rattle.std.proofs.Common.{rules}
use Rattle.std.proofs.lemmas.Result.{IfOk-weaker}
use Rattle.lawful_program.proofs.Whole.{static_lawful}
use Rattle.lawful_program.proofs.statics.is_lawful_static.Goals as goal

pub returns : goal.returns
returns c =
    IfOk-weaker c.parts_fit.result (λ _. _) (λ _. _)
    (λ b fits yes. static_lawful c.args.program.now c.args.object.now c.as_slice-constants.result.now c.size.result c.as_slice-constants.ensures
    c.size.ensures (c.is_sized.ensures (search rules))
    (c.are_lawful_contents.ensures (search rules)) (c.are_aligned.ensures (search rules)) (fits yes)) c.parts_fit.ensures
