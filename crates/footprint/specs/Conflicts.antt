-- Items that may conflict, and kinds of items (own).
use Rattle.std.specs.Prelude.{ℕ, Bool, true, false, IsTrue}
use Rattle.ub_base.specs.declared.names.ObjName.{ObjName}
use Rattle.ub_base.specs.declared.names.Item.{Item}
use Rattle.ub_base.specs.declared.names.Item.TheVariants.{Write, Born, Dies, Alive, Expose, Lookup, Narrow, Input, Output, Ending, Any}
use Rattle.addr_map.specs.Conflict.{conflicts_one, items_conflict}

-- two items that conflict, wherever the objects stand that they name
abbrev pub MayConflict : Item → Item → Type 0
MayConflict i j = IsTrue (items_conflict (λ x a. true) i j)

-- a write of that range conflicts with the access
abbrev pub meets_access : ObjName → ℕ → ℕ → Item → Bool
meets_access x a n i = conflicts_one (λ y b. true) (Write x a n) i

abbrev pub is_state : Item → Bool
is_state (Born x) = true
is_state (Dies x) = true
is_state (Alive x) = true
is_state (Expose x) = true
is_state _ = false

abbrev pub is_lookup : Item → Bool
is_lookup (Lookup a) = true
is_lookup _ = false

abbrev pub is_narrow : Item → Bool
is_narrow (Narrow d x) = true
is_narrow _ = false

abbrev pub is_stream : Item → Bool
is_stream Input = true
is_stream Output = true
is_stream Ending = true
is_stream Any = true
is_stream _ = false
