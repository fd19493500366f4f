use Rattle.std.proofs.Common.{false, List, subst}
use Rattle.ub_base.specs.declared.names.Item.{Item}
use Rattle.mem_objects.specs.Memory.{store_of}
use Rattle.libc_spec.specs.Library.{strcmp}
use Rattle.libc_arguments.specs.Seen.{value_seen, values_seen}
use Rattle.libc_arguments.specs.Answers.{answer_in}
use Rattle.libc_arguments.specs.Parts.{Follows}
use Rattle.libc_arguments.proofs.Finishing.{cell_of, strcmp_called}
use Rattle.libc_strings.proofs.strings.compare_strings.Goals as goal

pub returns-clause-exact : goal.returns-clause-exact
returns-clause-exact c = λ io who call.
    strcmp_called c.finish.new.m.rows (values_seen c.args.args.now) who c.pointer_at.result.addr c.pointer_at-2.result.addr c.pointer_at.result.prov
    c.pointer_at-2.result.prov (store_of c.args.m.now io) (store_of c.finish.new.m io) c.order_of_strings-read.new.t
    (answer_in c.finish.result) c.pointer_at.ensures c.pointer_at-2.ensures
    (c.finish.ensures.exact io (λ rows. strcmp rows c.pointer_at.result.addr c.pointer_at.result.prov c.pointer_at-2.result.addr c.pointer_at-2.result.prov)
    call.streams c.order_of_strings-read.ensures.passed
    (subst (λ (is : List Item). Follows false value_seen c.order_of_strings-read.result c.args.m.now io is c.order_of_strings-read.new.t
    (strcmp c.args.m.now.rows c.pointer_at.result.addr c.pointer_at.result.prov c.pointer_at-2.result.addr c.pointer_at-2.result.prov)) c.requires
    (c.order_of_strings-read.ensures.follows io
    (cell_of c.args.m.now (values_seen c.args.args.now) 0 c.pointer_at.result.addr c.pointer_at.result.prov call.cells c.pointer_at.ensures)
    (cell_of c.args.m.now (values_seen c.args.args.now) 1 c.pointer_at-2.result.addr c.pointer_at-2.result.prov call.cells c.pointer_at-2.ensures))))
