-- Which items the events of a full expression have by their kinds, and which of these conflict (own).
use Rattle.std.specs.Prelude.{◌≡◌, ℕ, Bool, true, false, ◌&&◌}
use Rattle.ub_base.specs.declared.names.ObjName.{ObjName}
use Rattle.ub_base.specs.declared.names.Item.{Item}
use Rattle.ub_base.specs.declared.names.Item.TheVariants.{Read, Write, Alive, Expose, Lookup, Narrow}
use Rattle.addr_map.specs.Conflict.{items_conflict}
use Rattle.quiet_trees.specs.Acts.{Act, Nothing, Reads, Writes, All, may_clash}

-- Items that events with pointers have now and then: an exposure, a lookup of an address, an ambiguity that is settled. They may stand in
-- any event, so an event that has one is to be recorded, in a quiet expression too.
abbrev pub is_noted : Item → Bool
is_noted (Expose x) = true
is_noted (Lookup a) = true
is_noted (Narrow e x) = true
is_noted _ = false

abbrev pub suits : Act → Item → Bool
suits Nothing i = is_noted i
suits Reads (Read x a n) = true
suits Reads (Alive x) = true
suits Reads i = is_noted i
suits Writes (Write x a n) = true
suits Writes (Alive x) = true
suits Writes i = is_noted i
suits All i = true

-- Items of two events that may not conflict by their kinds don't conflict, unless both are noted.
abbrev pub QuietItems : Type 0
QuietItems = (stands : ObjName → ℕ → Bool) (a b : Act) (i j : Item) → may_clash a b ≡ false → suits a i ≡ true → suits b j ≡ true →
    (is_noted i && is_noted j) ≡ false → items_conflict stands i j ≡ false
