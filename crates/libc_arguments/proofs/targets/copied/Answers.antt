use Rattle.libc_arguments.proofs.Living.{no_streams}
use Rattle.libc_arguments.proofs.Moving.{copied_same, copied_fault}
use Rattle.libc_arguments.proofs.targets.copied.Goals as goal

pub unreachable-requires : goal.unreachable-requires
unreachable-requires c = copied_fault c.args.m.now c.args.addr c.args.range c.in-Err-Raise.field-0 c.in-Err-Raise.field-0-0 c.requires
    c.in-Err-Raise.field-0-is c.in-Err-Raise.ensures.raises

pub returns-in-Ok-clause-bytes : goal.returns-in-Ok-clause-bytes
returns-in-Ok-clause-bytes c = λ tagged.
    (copied_same c.args.m.now c.load_block.new.self no_streams c.args.addr c.args.range c.in-Ok.block.cells c.load_block.new.t c.requires
    (c.in-Ok.ensures.exact tt tagged no_streams)).0

pub returns-in-Ok-clause-store : goal.returns-in-Ok-clause-store
returns-in-Ok-clause-store c = λ tagged io.
    (copied_same c.args.m.now c.load_block.new.self io c.args.addr c.args.range c.in-Ok.block.cells c.load_block.new.t c.requires
    (c.in-Ok.ensures.exact tt tagged io)).1

pub returns-in-Ok-clause-kept : goal.returns-in-Ok-clause-kept
returns-in-Ok-clause-kept c = c.in-Ok.ensures.rest
