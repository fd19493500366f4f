use Rattle.std.proofs.Common.{◌∙◌, ap, List}
use Rattle.mem_objects.specs.declared.cell.Cell.{Cell}
use Rattle.mem_objects.specs.Access.{range_in}
use Rattle.mem_objects.specs.Loads.{number_if}
use Rattle.prov_memory.proofs.memory.Memory.pointer_or_number.Goals as goal

pub returns-clause-number : goal.returns-clause-number
returns-clause-number c =
    c.number_at-number.ensures c.args.self.now ∙ ap (λ (cs : List Cell). number_if (range_in c.args.self.now cs c.args.from 8)) c.cells.ensures
