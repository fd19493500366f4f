use Rattle.c_types.specs.Types.{type_of}
use Rattle.lawful_trees.proofs.Operands.{LastIs-last}
use Rattle.lawful_trees.proofs.lists.last_is.Goals as goal

pub returns-in-Some : goal.returns-in-Some
returns-in-Some c = λ t.
    LastIs-last (type_of c.args.own.now) c.in-Some.field-0-1.now c.in-Some.last.now c.args.operands.now c.in-Some.ensures.cases.0 (c.value_is.ensures t)
