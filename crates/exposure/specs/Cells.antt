-- The cells of ambiguities (own).
use Rattle.std.specs.Prelude.{◌≡◌, Bool, true, false, not, ◌&&◌, ◌||◌, List, [], ◌∷◌, Option, Some, None, if◌then◌else◌}
use Rattle.ub_base.specs.declared.names.Event.{Event}
use Rattle.ub_base.specs.declared.names.ObjName.{ObjName}
use Rattle.ub_base.specs.Names.{same_event, same_object}

abbrev pub Cells : Type 0
Cells = List (Event × Option ObjName)

-- the object to which the ambiguity was settled
abbrev pub kept_in : Cells → Event → Option ObjName
kept_in [] id = None
kept_in (c ∷ cs) id = if same_event id c.0 then c.1 else kept_in cs id

abbrev pub has_cell : Cells → Event → Bool
has_cell [] id = false
has_cell (c ∷ cs) id = if same_event id c.0 then true else has_cell cs id

-- it was settled to another object
abbrev pub is_other : Option ObjName → ObjName → Bool
is_other None x = false
is_other (Some y) x = not (same_object y x)

-- the ambiguity has a cell, an empty one where it had none, and all else stays
pub record MakesCell (old new : Cells) (id : Event) : Type 0 where
  pub kept : (e : Event) → kept_in new e ≡ kept_in old e
  pub cells : (e : Event) → has_cell new e ≡ (same_event id e || has_cell old e)

-- the ambiguity is settled, where it has a cell, and all else stays
pub record Settles (old new : Cells) (id : Event) (keep : ObjName) : Type 0 where
  pub kept : (e : Event) → kept_in new e ≡ (if same_event id e && has_cell old id then Some keep else kept_in old e)
  pub cells : (e : Event) → has_cell new e ≡ has_cell old e
