use Rattle.std.proofs.Common.{◌∙◌, sym}
use Rattle.libc_arguments.proofs.Checking.{settles_gives}
use Rattle.libc_arguments.proofs.arguments.keep_one.Goals as goal

pub returns : goal.returns
returns c = λ io cell. settles_gives c.args.m.now io c.args.t.now c.add.new.self c.args.id c.args.keep cell (sym (c.is_lost.ensures io) ∙ c.if-is_lost.false)
    c.in_ok-add.ensures.ok
