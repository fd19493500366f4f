-- When two names are one.
use Rattle.std.specs.Prelude.{Bool, true, false, ◌&&◌, ◌==◌}
use Rattle.ub_base.specs.declared.clause.Kind.{Kind}
use Rattle.ub_base.specs.declared.clause.Kind.TheVariants.{Val, Eff, Body}
use Rattle.ub_base.specs.declared.names.Event.{Event}
use Rattle.ub_base.specs.declared.names.ObjName.{ObjName}
use Rattle.ub_base.specs.declared.names.ObjName.TheVariants.{Static, Lit, Argv, Arg, Auto, Heap}

abbrev pub same_kind : Kind → Kind → Bool
same_kind Val Val = true
same_kind Eff Eff = true
same_kind Body Body = true
same_kind _ _ = false

abbrev pub same_event : Event → Event → Bool
same_event d e = (d.frame.0 == e.frame.0) && ((d.turn == e.turn) && ((d.node == e.node) && same_kind d.kind e.kind))

abbrev pub same_object : ObjName → ObjName → Bool
same_object (Static k) (Static l) = k == l
same_object (Lit k) (Lit l) = k == l
same_object Argv Argv = true
same_object (Arg k) (Arg l) = k == l
same_object (Auto f t k) (Auto g u l) = (f.0 == g.0) && ((t == u) && (k == l))
same_object (Heap f t k) (Heap g u l) = (f.0 == g.0) && ((t == u) && (k == l))
same_object _ _ = false
