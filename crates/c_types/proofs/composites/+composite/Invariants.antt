use Rattle.std.proofs.Common.{◌≡◌, ◌++◌, map, drop}
use Rattle.c_types.specs.Types.{qualified_of}
use Rattle.c_types.proofs.Joined.{joined}
use Rattle.c_types.proofs.composites.+composite.Given as goal

-- what is joined, and what is left
abbrev pub invariant-composite_params-loop-i : goal.invariant-composite_params-loop-i
invariant-composite_params-loop-i l =
    map qualified_of l.params ++ joined (map qualified_of (drop l.i l.a)) (map qualified_of (drop l.i l.b))
    ≡ joined (map qualified_of l.a) (map qualified_of l.b)
