-- Which full expressions are quiet (own; 6.5p2, 6.5p3).
use Rattle.std.specs.Prelude.{◌≡◌, true, false}
use Rattle.c_typed.specs.declared.tree.Place.{Place}
use Rattle.c_typed.specs.Tree.{Tree}
use Rattle.c_typed.specs.Order.{Taken, same_place}
use Rattle.c_typed.specs.Decide.{due_in, is_before}
use Rattle.quiet_trees.specs.Loads.{Loads}
use Rattle.quiet_trees.specs.Acts.{act_in, may_clash}

-- Whatever operands are chosen, no two of its evaluations may conflict by their kinds of which neither is sequenced before the other.
abbrev pub IsQuiet : Tree → Loads → Type 0
IsQuiet root f = (taken : Taken) (u v : Place) → due_in taken 0 root u ≡ true → due_in taken 0 root v ≡ true → same_place u v ≡ false →
    is_before taken 0 root u v ≡ false → is_before taken 0 root v u ≡ false → may_clash (act_in 0 root f u) (act_in 0 root f v) ≡ false
