-- Choices and done events, looked up by node.
use Rattle.std.specs.Prelude.{ℕ, Bool, false, List, slice_get, Option, Some, None}
use Rattle.ub_base.specs.declared.clause.Kind.{Kind}
use Rattle.ub_base.specs.declared.clause.Kind.TheVariants.{Val, Eff, Body}
use Rattle.c_typed.specs.declared.tree.Place.{Place}
use Rattle.c_typed.specs.Order.{Taken}
use Rattle.seq_order.specs.declared.done.Marks.{Marks}

-- the choice in a list by node
abbrev pub choice_in : Option (Option ℕ) → Option ℕ
choice_in None = None
choice_in (Some choice) = choice

abbrev pub taken_in : List (Option ℕ) → Taken
taken_in choices node = choice_in (slice_get choices node)

abbrev pub mark_of : Kind → Marks → Bool
mark_of Val marks = marks.val
mark_of Eff marks = marks.eff
mark_of Body marks = marks.body

abbrev pub is_marked : Kind → Option Marks → Bool
is_marked kind None = false
is_marked kind (Some marks) = mark_of kind marks

abbrev pub done_in : List Marks → Place → Bool
done_in marks u = is_marked u.kind (slice_get marks u.node)
