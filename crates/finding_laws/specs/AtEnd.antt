-- Where the run ends each event that is due has the item `any` behind its own (own).
use Rattle.std.specs.Prelude.{◌≡◌, Bool, ◌||◌, List, [], ◌∷◌, ◌++◌}
use Rattle.ub_base.specs.declared.names.Item.{Item}
use Rattle.ub_base.specs.declared.names.Item.TheVariants.{Any}
use Rattle.addr_map.specs.declared.map.Row.{Row}
use Rattle.addr_map.specs.Conflict.{some_conflict}
use Rattle.footprint.specs.Holds.{stands_for}
use Rattle.c_model.specs.Findings.{accesses, has_ending}
use Rattle.finding_laws.specs.Forgotten.{AreAsked, HasItemsBut}
use Rattle.finding_laws.specs.LeastPairs.{HasItems}

-- the items of an event as the run ends
abbrev pub with_any : List Item → List Item
with_any is = is ++ (Any ∷ [])

-- what has the items of a list, and besides what stands for every event, has the items of that list with `any`
abbrev pub AnyIsHad : Type 0
AnyIsHad = (f : Item → Bool) (is : List Item) → HasItems f is → HasItems (λ i. f i || stands_for Any i) (with_any is)

-- so it is where accesses are forgotten
abbrev pub AnyIsHadBesides : Type 0
AnyIsHadBesides = (f : Item → Bool) (is : List Item) → HasItemsBut f is → HasItemsBut (λ i. f i || stands_for Any i) (with_any is)

-- and each access still stands with the question whether its object lives
abbrev pub AnyIsAsked : Type 0
AnyIsAsked = (is : List Item) → AreAsked is → AreAsked (with_any is)

-- two events then conflict where their own items do, or where one of them ends the run
abbrev pub OnlyEndsMeet : Type 0
OnlyEndsMeet = (rows : List Row) (is js : List Item) →
    some_conflict rows (with_any is) (with_any js) ≡ (some_conflict rows is js || (has_ending is || has_ending js))

-- and race where their own accesses do
abbrev pub RacesAsBefore : Type 0
RacesAsBefore = (is : List Item) → accesses (with_any is) ≡ accesses is
