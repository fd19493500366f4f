use Rattle.std.proofs.Common.{List, length, sym, subst}
use Rattle.mem_objects.specs.declared.cell.Cell.{Cell}
use Rattle.mem_spec.specs.Acts.{bytes}
use Rattle.mem_objects.specs.Memory.{CellsKnown}
use Rattle.libc_arguments.proofs.Writing.{overwrite_done, plain_known}
use Rattle.prov_memory.proofs.KeepLemmas.{keeps_then}
use Rattle.libc_arguments.proofs.Keeping.{plain_kept}
use Rattle.libc_arguments.proofs.bytes.overwrite.Goals as goal

pub returns-clause-store : goal.returns-clause-store
returns-clause-store c = λ io ns plain able.
    overwrite_done c.args.m.now c.settle-2.new.m c.put_over.new.m io c.args.target c.in-Some.range c.args.block.now.cells ns c.args.t.now c.add_write.new.t
    c.in-Some.ensures plain c.in_ok-add_write.ensures c.settle-2.ensures.lives (c.settle-2.ensures.store io) (c.put_over.ensures.store io bytes tt) able

pub returns-clause-known : goal.returns-clause-known
returns-clause-known c = λ ns plain known.
    c.put_over.ensures.known (c.settle-2.ensures.known known)
    (subst (λ (cs : List Cell). CellsKnown (length c.settle-2.new.m.origins) cs) (sym plain) (plain_known (length c.settle-2.new.m.origins) ns))

pub returns-clause-kept : goal.returns-clause-kept
returns-clause-kept c = λ ns plain.
    keeps_then c.args.m.now c.settle-2.new.m c.put_over.new.m c.settle-2.ensures.keeps
    (plain_kept c.settle-2.new.m c.put_over.new.m c.args.block.now.cells ns plain (c.put_over.ensures.kept tt))
