use Rattle.std.proofs.Common.{◌∙◌, ap}
use Rattle.mem_objects.specs.Loads.{number_checked}
use Rattle.prov_memory.proofs.memory.Memory.read_cells.Goals as goal

pub returns : goal.returns
returns c = c.number_checked.ensures ∙ ap (number_checked c.args.is_bool) (c.number_in.ensures c.args.self.now)
