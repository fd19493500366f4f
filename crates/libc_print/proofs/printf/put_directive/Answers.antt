use Rattle.std.proofs.Common.{Ok}
use Rattle.libc_spec.specs.Print.{put}
use Rattle.libc_directives.specs.Seen.{directive_seen}
use Rattle.libc_print.specs.Seen.{left}
use Rattle.libc_print.proofs.Running.{puts_run}
use Rattle.libc_print.proofs.printf.put_directive.Goals as goal

pub returns-clause-exact : goal.returns-clause-exact
returns-clause-exact c = λ io cells.
    puts_run (Ok tt) c.args.m.now io c.args.t.now c.args.out.now.items c.put_plain.new.out.items (left c.put_plain.new.args)
    (put c.args.m.now.rows (directive_seen c.args.directive) (left c.args.args.now)) (c.in_ok-put_plain.ensures.exact c.args.m.now.rows)
