use Rattle.std.proofs.Common.{ap, sym, ◌∙◌}
use Rattle.libc_spec.specs.Library.{pointer_in}
use Rattle.libc_arguments.proofs.Seen.{argument_at-there, argument_at-none}
use Rattle.libc_arguments.proofs.arguments.pointer_at.Goals as goal

pub returns-in-Some : goal.returns-in-Some
returns-in-Some c =
    let h = c.in-Some.ensures in
    c.pointer_of.ensures ∙ ap pointer_in (sym (argument_at-there c.args.args.now c.args.at c.in-Some.value.now h.lookup.3.0 h.lookup.1))

pub returns-in-None : goal.returns-in-None
returns-in-None c = let h = c.in-None.ensures in ap pointer_in (sym (argument_at-none c.args.args.now c.args.at h.lookup.3))
