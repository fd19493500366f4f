-- How two different due events stand to one another (5.1.2.3p3).
use Rattle.std.specs.Prelude.{◌||◌, if◌then◌else◌}
use Rattle.c_typed.specs.declared.tree.Place.{Place}
use Rattle.c_typed.specs.Tree.{Tree}
use Rattle.c_typed.specs.Order.{Taken, is_body}
use Rattle.c_typed.specs.Decide.{is_before}
use Rattle.seq_order.specs.declared.relations.Relation.{Relation}
use Rattle.seq_order.specs.declared.relations.Relation.TheVariants.{Sequenced, Unsequenced, Indeterminate}

abbrev pub relation_in : Taken → Tree → Place → Place → Relation
relation_in taken root u v =
    if is_before taken 0 root u v || is_before taken 0 root v u then Sequenced
    else (if is_body u.kind || is_body v.kind then Indeterminate else Unsequenced)
