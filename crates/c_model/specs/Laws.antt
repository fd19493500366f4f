-- Laws of the order within a full expression.
use Rattle.c_typed.specs.declared.tree.Place.{Place}
use Rattle.c_typed.specs.Tree.{Tree}
use Rattle.c_typed.specs.Order.{Taken, Before}

-- no event is sequenced before itself, so the rules never contradict one another
abbrev pub IsIrreflexive : Type 0
IsIrreflexive = (root : Tree) (taken : Taken) (u : Place) → Before root taken u u → ⊥

-- of two events at most one is sequenced before the other
abbrev pub IsAsymmetric : Type 0
IsAsymmetric = (root : Tree) (taken : Taken) (u v : Place) → Before root taken u v → Before root taken v u → ⊥

-- what is before what comes before is before
abbrev pub IsTransitive : Type 0
IsTransitive = (root : Tree) (taken : Taken) (u v w : Place) → Before root taken u v → Before root taken v w → Before root taken u w
