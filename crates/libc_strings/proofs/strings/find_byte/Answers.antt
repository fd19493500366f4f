use Rattle.std.proofs.Common.{◌∙◌, false, List, subst, to_z, of_z, rules}
use Rattle.std.specs.Int.{w128}
use Rattle.std.proofs.lemmas.Int.{to_z-of_z}
use Rattle.ub_base.specs.declared.names.Item.{Item}
use Rattle.mem_objects.specs.Memory.{store_of}
use Rattle.libc_spec.specs.Library.{strchr}
use Rattle.libc_arguments.specs.Seen.{value_seen, values_seen}
use Rattle.libc_arguments.specs.Answers.{answer_in}
use Rattle.libc_arguments.specs.Parts.{Follows}
use Rattle.libc_arguments.proofs.Finishing.{cell_of, strchr_called}
use Rattle.libc_strings.proofs.strings.find_byte.Goals as goal

pub returns-clause-exact : goal.returns-clause-exact
returns-clause-exact c = λ io who call.
    let number = to_z w128 (of_z w128 c.int_at.result) in
    strchr_called c.finish.new.m.rows (values_seen c.args.args.now) who c.pointer_at.result.addr c.pointer_at.result.prov number (store_of c.args.m.now io)
    (store_of c.finish.new.m io) c.place_in_string-read.new.t (answer_in c.finish.result) c.pointer_at.ensures
    (to_z-of_z w128 c.int_at.result (search rules) ∙ c.int_at.ensures)
    (c.finish.ensures.exact io (λ rows. strchr rows c.pointer_at.result.addr c.pointer_at.result.prov number) call.streams
    c.place_in_string-read.ensures.passed
    (subst (λ (is : List Item). Follows false value_seen c.place_in_string-read.result c.args.m.now io is c.place_in_string-read.new.t
    (strchr c.args.m.now.rows c.pointer_at.result.addr c.pointer_at.result.prov number)) c.requires
    (c.place_in_string-read.ensures.follows io
    (cell_of c.args.m.now (values_seen c.args.args.now) 0 c.pointer_at.result.addr c.pointer_at.result.prov call.cells c.pointer_at.ensures))))
