use Rattle.std.proofs.Common.{List, sym, ap, ◌∙◌}
use Rattle.c_typed.specs.declared.tree.Node.TheOpen as shape
use Rattle.c_typed.specs.declared.tree.Typed.{Typed, out-Typed}
use Rattle.c_typed.specs.Lawful.{Root, stored_span}
use Rattle.lawful_trees.proofs.Listed.{root_of-Assign}
use Rattle.lawful_trees.proofs.initial.stored_span.Goals as goal

pub returns-in-Assign : goal.returns-in-Assign
returns-in-Assign c =
    let h = c.in-Assign in
    c.place_span.ensures h.initializing h.access
    ∙ (ap (λ (ts : List Typed). stored_span c.args.tags.now (shape.Assign h.initializing h.access) ts) c.as_slice.ensures
    ∙ sym (ap (λ (r : Root). stored_span c.args.tags.now r (out-Typed c.args.tree.now).children)
    (root_of-Assign c.args.tree.now h.initializing h.access h.is)))
