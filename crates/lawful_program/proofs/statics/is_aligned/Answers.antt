use Rattle.c_types.specs.Types.{type_of}
use Rattle.lawful_program.proofs.Seen.{aligned}
use Rattle.lawful_program.proofs.statics.is_aligned.Goals as goal

pub returns-in-Address : goal.returns-in-Address
returns-in-Address c = λ h.
    aligned c.args.program.now c.args.constant.now c.in-Address.target c.in-Address.offset c.len-depth.result (type_of c.args.ty.now) c.len-depth.ensures
    c.in-Address.is (c.type_takes.ensures h)
