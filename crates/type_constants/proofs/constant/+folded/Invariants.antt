use Rattle.std.proofs.Common.{◌≡◌, ◌+◌, ◌*◌, drop}
use Rattle.std.specs.Prelude.{IfSome}
use Rattle.type_operands.specs.Terms.{term_of, terms_of}
use Rattle.type_constants.specs.Constants.{parts, of_comma}
use Rattle.type_constants.proofs.Worths.{nodes, all_nodes}
use Rattle.type_constants.proofs.constant.+folded.Given as goal

-- what is seen is constant, so what is left decides
abbrev pub invariant-of_comma-loop-child : goal.invariant-of_comma-loop-child
invariant-of_comma-loop-child g l =
    IfSome (g.O.Objects.places l.objects) (λ at. of_comma (parts at (terms_of l.children)) ≡ of_comma (parts at (terms_of (drop l.child-index l.children))))

abbrev pub decreases-worth : goal.decreases-worth
decreases-worth g l = 2 * nodes (term_of l.tree.now)

abbrev pub decreases-part_at : goal.decreases-part_at
decreases-part_at g l = 2 * nodes (term_of l.tree.now) + 1

abbrev pub decreases-of_comma : goal.decreases-of_comma
decreases-of_comma g l = 2 * all_nodes (terms_of l.children.now) + 1

abbrev pub decreases-of_operands : goal.decreases-of_operands
decreases-of_operands g l = 2 * all_nodes (terms_of l.children.now) + 1
