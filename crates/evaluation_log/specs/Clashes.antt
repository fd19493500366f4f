-- Items of two evaluations that conflict, and evaluations of which no items do (own; 6.5p2 for races).
use Rattle.std.specs.Prelude.{◌≡◌, ◌≢◌, ℕ, suc, ◌-◌, ◌≤◌, Bool, true, List, length}
use Rattle.ub_base.specs.declared.names.Item.{Item}
use Rattle.addr_map.specs.declared.map.Row.{Row}
use Rattle.addr_map.specs.Conflict.{items_conflict, stands_at, is_access}
use Rattle.evaluation_log.specs.declared.log.Logged.{Logged}
use Rattle.evaluation_log.specs.declared.log.Segment.{Segment}
use Rattle.evaluation_log.specs.declared.sought.Sought.{Sought}
use Rattle.evaluation_log.specs.declared.sought.Sought.TheVariants.{Races, Any}
use Rattle.evaluation_log.specs.Touched.{range_has, start_of}

-- an item that the first has and one that the second has: two accesses of one byte, one of them a write, or any that conflict
abbrev pub Clash : Sought → List Row → (Item → Bool) → (Item → Bool) → Item → Item → Type 0
Clash Races rows f g i j = (f i ≡ true) × (g j ≡ true) × (is_access i ≡ true) × (is_access j ≡ true) × (items_conflict (λ x n. true) i j ≡ true)
Clash Any rows f g i j = (f i ≡ true) × (g j ≡ true) × (items_conflict (stands_at rows) i j ≡ true)

abbrev pub SomeClash : Sought → List Row → (Item → Bool) → (Item → Bool) → Type 0
SomeClash sought rows f g = (i : Item) × (j : Item) × Clash sought rows f g i j

abbrev pub NoClash : Sought → List Row → (Item → Bool) → (Item → Bool) → Type 0
NoClash sought rows f g = (i j : Item) → Clash sought rows f g i j → ⊥

-- segments stand one behind the other, from `at` on
abbrev pub AreSorted : List Segment → List Logged → ℕ → Type 0
AreSorted segments events at = (g : ℕ) → at ≤ g →
    (start_of segments events g ≤ start_of segments events (suc g)) × (start_of segments events g ≤ length events)

-- what the events of an operand have touched, and what those behind it
abbrev pub operand_has : Sought → List Segment → List Logged → List Item → ℕ → Item → Bool
operand_has sought segments events items g =
    range_has events items sought (start_of segments events g) (start_of segments events (suc g) - start_of segments events g)

abbrev pub behind_has : Sought → List Segment → List Logged → List Item → ℕ → Item → Bool
behind_has sought segments events items g =
    range_has events items sought (start_of segments events (suc g)) (length events - start_of segments events (suc g))

-- no operand, of those from `at` on, clashes with what stands behind it
abbrev pub NoneBehind : Sought → List Row → List Segment → List Logged → List Item → ℕ → Type 0
NoneBehind sought rows segments events items at = (g : ℕ) → at ≤ g →
    NoClash sought rows (operand_has sought segments events items g) (behind_has sought segments events items g)

-- no two operands, of those from `at` on, clash
abbrev pub NoneBetween : Sought → List Row → List Segment → List Logged → List Item → ℕ → Type 0
NoneBetween sought rows segments events items at = (g h : ℕ) → at ≤ g → at ≤ h → g ≢ h →
    NoClash sought rows (operand_has sought segments events items g) (operand_has sought segments events items h)
