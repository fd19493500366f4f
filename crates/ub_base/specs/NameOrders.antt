-- The orders that the derives give names.
use Rattle.std.specs.declared.cmp.Ordering.{Ordering}
use Rattle.ub_base.specs.declared.clause.Kind.{Kind}
use Rattle.ub_base.specs.declared.names.Event.{Event}
use Rattle.ub_base.specs.declared.names.ObjName.{ObjName}
use Rattle.ub_base.specs.contracts.clause.KindOrd.TheImpl as kind_ord
use Rattle.ub_base.specs.contracts.names.EventOrd.TheImpl as event_ord
use Rattle.ub_base.specs.contracts.names.ObjNameOrd.TheImpl as object_ord

abbrev pub kind_cmp : Kind → Kind → Ordering
kind_cmp = (kind_ord.ghosts).cmp

abbrev pub event_cmp : Event → Event → Ordering
event_cmp = (event_ord.ghosts).cmp

abbrev pub object_cmp : ObjName → ObjName → Ordering
object_cmp = (object_ord.ghosts).cmp
