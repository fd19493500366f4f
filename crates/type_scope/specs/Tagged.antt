-- Which structures and unions have a const member, as it is noted when they are completed (6.3.2.1p1).
use Rattle.std.specs.Prelude.{ℕ, Bool, false, Option, Some, None, slice_get}
use Rattle.type_scope.specs.declared.rows.TagRow.{TagRow}
use Rattle.type_scope.specs.declared.state.State.{State}

abbrev pub constant_in : Option TagRow → Bool
constant_in None = false
constant_in (Some row) = row.constant

abbrev pub has_constant : State → ℕ → Bool
has_constant state tag = constant_in (slice_get state.tag_rows.items tag)
