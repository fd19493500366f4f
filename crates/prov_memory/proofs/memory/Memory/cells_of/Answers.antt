use Rattle.std.proofs.Common.{option_map}
use Rattle.c_types.specs.Shapes.{form_of}
use Rattle.mem_objects.proofs.TagLemmas.{taken_as, adds_objects}
use Rattle.prov_memory.proofs.memory.Memory.cells_of.Goals as goal

pub returns-clause-taken : goal.returns-clause-taken
returns-clause-taken c =
    taken_as c.cells_by.result (λ cells. cells.items) c.args.self.now c.cells_by.new.self
    (option_map (λ shape. form_of shape.value) c.in_ok-declared.declared) c.args.at c.args.from c.args.len c.in_ok-declared.ensures c.cells_by.ensures.taken

pub returns-clause-objects : goal.returns-clause-objects
returns-clause-objects c = adds_objects c.cells_by.result c.args.self.now c.cells_by.new.self c.cells_by.ensures.more
