use Rattle.parse_declarations.proofs.knot.+knot.Given as goal

abbrev pub decreases-declarator : goal.decreases-declarator
decreases-declarator l = l.depth

abbrev pub decreases-expr : goal.decreases-expr
decreases-expr l = l.depth

abbrev pub decreases-specs : goal.decreases-specs
decreases-specs l = l.depth
