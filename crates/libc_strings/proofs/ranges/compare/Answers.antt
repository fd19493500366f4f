use Rattle.std.proofs.Common.{List, subst}
use Rattle.ub_base.specs.declared.names.Item.{Item}
use Rattle.mem_objects.specs.Memory.{store_of}
use Rattle.libc_spec.specs.Library.{memcmp}
use Rattle.libc_arguments.specs.Seen.{value_seen, values_seen}
use Rattle.libc_arguments.specs.Answers.{answer_in}
use Rattle.libc_arguments.specs.Writes.{Tells}
use Rattle.libc_arguments.proofs.Answering.{one_size}
use Rattle.libc_arguments.proofs.Finishing.{cell_of}
use Rattle.libc_arguments.proofs.Listing.{memcmp_called}
use Rattle.libc_strings.proofs.ranges.compare.Goals as goal

pub returns-clause-exact : goal.returns-clause-exact
returns-clause-exact c = λ io who call.
    memcmp_called c.finish.new.m.rows (values_seen c.args.args.now) who c.pointer_at.result.addr c.pointer_at-2.result.addr c.pointer_at.result.prov
    c.pointer_at-2.result.prov c.size_at.result (store_of c.args.m.now io) (store_of c.finish.new.m io) c.order_of_ranges-read.new.t
    (answer_in c.finish.result) c.pointer_at.ensures c.pointer_at-2.ensures (c.size_at.ensures (one_size (values_seen c.args.args.now) 2 call.sizes))
    (c.finish.ensures.each io (λ rows. memcmp rows c.pointer_at.result.addr c.pointer_at.result.prov c.pointer_at-2.result.addr c.pointer_at-2.result.prov
    c.size_at.result) call.streams c.order_of_ranges-read.ensures.passed
    (subst (λ (is : List Item). Tells value_seen c.order_of_ranges-read.result c.args.m.now io is c.order_of_ranges-read.new.t
    (memcmp c.args.m.now.rows c.pointer_at.result.addr c.pointer_at.result.prov c.pointer_at-2.result.addr c.pointer_at-2.result.prov c.size_at.result))
    c.requires
    (c.order_of_ranges-read.ensures.tells io
    (cell_of c.args.m.now (values_seen c.args.args.now) 0 c.pointer_at.result.addr c.pointer_at.result.prov call.cells c.pointer_at.ensures)
    (cell_of c.args.m.now (values_seen c.args.args.now) 1 c.pointer_at-2.result.addr c.pointer_at-2.result.prov call.cells c.pointer_at-2.ensures))))
