use Rattle.std.proofs.Common.{ap}
use Rattle.std.proofs.lemmas.Result.{err_from_is_err_and}
use Rattle.mem_objects.specs.Cells.{part_of}
use Rattle.mem_objects.specs.Pieces.{seen}
use Rattle.prov_memory.proofs.PartLemmas.{pointer_done, pointer_fails, seen_made}
use Rattle.mem_objects.proofs.SoundLemmas.{more_made}
use Rattle.prov_memory.proofs.KeepLemmas.{keeps_none}
use Rattle.prov_memory.proofs.memory.Memory.part_ptr.Goals as goal

pub returns-clause-exact : goal.returns-clause-exact
returns-clause-exact c =
    let m = c.args.self.now in
    pointer_done m c.part_target.new.self c.args.who (seen m c.range-cells.result.now) (seen m (part_of c.args.bytes.now c.args.from 8).cells)
    c.in_ok-number.number c.pointer_among-pointer.result c.in_ok-prov.prov c.clear.new.self c.part_target.new.t
    (ap (seen m) c.range-cells.ensures) c.in_ok-number.ensures c.pointer_among-pointer.ensures c.in_ok-prov.ensures.exact c.clear.ensures
    c.in_ok-prov.ensures.items c.part_target.ensures.more

pub returns-in_err-number-clause-raises : goal.returns-in_err-number-clause-raises
returns-in_err-number-clause-raises c =
    let m = c.args.self.now in
    let p = err_from_is_err_and c.from_residual.result c.from_residual.ensures.1 in
    rw (p.1, p.2) (pointer_fails m c.args.who (seen m c.range-cells.result.now) (seen m (part_of c.args.bytes.now c.args.from 8).cells)
    c.in_err-number.field-0.0 (ap (seen m) c.range-cells.ensures) c.in_err-number.ensures)

pub returns-clause-value : goal.returns-clause-value
returns-clause-value c = λ s.
    c.in_ok-prov.ensures.value (seen_made c.args.self.now c.range-cells.result.now c.pointer_among-pointer.result c.pointer_among-pointer.ensures s.made)

pub returns-clause-made : goal.returns-clause-made
returns-clause-made c = more_made c.args.self.now c.part_target.new.self c.part_target.ensures.more

pub returns-in_err-prov-clause-made : goal.returns-in_err-prov-clause-made
returns-in_err-prov-clause-made c = more_made c.args.self.now c.part_target.new.self c.part_target.ensures.more

pub returns-in_err-number-clause-kept : goal.returns-in_err-number-clause-kept
returns-in_err-number-clause-kept c = keeps_none c.args.self.now
