use Rattle.std.proofs.Common.{◌∙◌, ap}
use Rattle.mem_objects.specs.Loads.{number_if}
use Rattle.prov_memory.proofs.PartLemmas.{range_seen}
use Rattle.prov_memory.proofs.memory.parts.number_in.Goals as goal

pub returns : goal.returns
returns c = λ m. c.number_at.ensures m ∙ ap number_if (range_seen m c.args.cells.now)
