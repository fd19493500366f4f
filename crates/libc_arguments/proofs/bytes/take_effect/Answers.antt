use Rattle.libc_arguments.proofs.Settling.{expose_settles}
use Rattle.libc_arguments.proofs.Living.{expose_lives}
use Rattle.libc_arguments.proofs.bytes.take_effect.Goals as goal

pub returns-in-Expose-clause-settled : goal.returns-in-Expose-clause-settled
returns-in-Expose-clause-settled c = rw c.in-Expose.is
    (expose_settles c.args.m.now c.expose.new.self c.in-Expose.object c.expose.new.t c.expose.ensures.exact c.expose.ensures.rest c.expose.ensures.known)

pub returns-in-Expose-clause-lives : goal.returns-in-Expose-clause-lives
returns-in-Expose-clause-lives c = expose_lives c.args.m.now c.expose.new.self c.in-Expose.object c.expose.new.t c.expose.ensures.exact
