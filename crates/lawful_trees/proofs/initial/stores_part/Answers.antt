use Rattle.lawful_trees.proofs.Listed.{stores}
use Rattle.lawful_trees.proofs.initial.stores_part.Goals as goal

pub returns-then-initializing : goal.returns-then-initializing
returns-then-initializing c = λ h.
    stores c.args.slot c.args.tree.now c.in-Assign.initializing c.in-Assign.access c.as_slice.result.now c.in-Assign.is c.if-initializing.true
    c.as_slice.ensures
    (c.gives_part.ensures h)
