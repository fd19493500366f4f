use Rattle.std.proofs.Common.{ap}
use Rattle.mem_objects.specs.Cells.{part_of}
use Rattle.mem_objects.specs.Pieces.{seen}
use Rattle.prov_memory.proofs.PartLemmas.{func_done, func_fails}
use Rattle.prov_memory.proofs.memory.Memory.part_func.Goals as goal

pub returns-clause-exact : goal.returns-clause-exact
returns-clause-exact c =
    let m = c.args.self.now in
    func_done c.part_number.result m c.part_number.new.self (seen m c.range.result.now) (seen m (part_of c.args.bytes.now c.args.from 8).cells)
    c.clear.new.self c.part_number.new.t (ap (seen m) c.range.ensures) c.clear.ensures c.part_number.ensures.number c.part_number.ensures.shown
    c.part_number.ensures.items

pub returns-clause-raises : goal.returns-clause-raises
returns-clause-raises c =
    let m = c.args.self.now in
    func_fails c.part_number.result m (seen m c.range.result.now) (seen m (part_of c.args.bytes.now c.args.from 8).cells)
    (ap (seen m) c.range.ensures) c.part_number.ensures.raises
