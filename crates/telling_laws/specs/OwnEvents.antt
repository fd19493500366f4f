-- Two events of one node: only the value and the effect of an assignment or a list are in no order (6.5.16p3, 6.7.9p23).
use Rattle.std.specs.Prelude.{◌≡◌, ℕ, List, [], Some}
use Rattle.ub_base.specs.declared.clause.Kind.TheVariants.{Val}
use Rattle.addr_map.specs.declared.map.Row.{Row}
use Rattle.c_typed.specs.declared.class.Class.TheVariants.{Store}
use Rattle.c_typed.specs.Tree.{Trees, node}
use Rattle.c_typed.specs.Order.{place}
use Rattle.c_model.specs.Moments.{Open}
use Rattle.run_evaluations.specs.Scopes.{Scope, part_of}
use Rattle.telling_laws.specs.FirstFound.{OwnAreFree}

-- where the value of such a node has no items, two events of a node don't conflict
abbrev pub OnlyStoresConflict : Type 0
OnlyStoresConflict = (rows : List Row) (s : Scope) (o : Open) (n : ℕ) → o.tree ≡ s.tree → o.taken ≡ s.taken →
    ((ts : Trees) → part_of s n ≡ Some (node Store ts) → o.items (place n Val) ≡ []) → OwnAreFree rows o n
