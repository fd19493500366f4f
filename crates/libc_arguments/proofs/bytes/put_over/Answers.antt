use Rattle.libc_arguments.proofs.Writing.{put_done}
use Rattle.libc_arguments.proofs.bytes.put_over.Goals as goal

pub returns-clause-store : goal.returns-clause-store
returns-clause-store c = λ io seen sees.
    put_done c.args.m.now c.store.new.self io c.args.addr c.args.range c.args.via seen c.args.block.now.cells c.store.new.t c.store.result sees
    c.requires.place c.requires.len c.store.ensures.exact c.store.ensures.raises
