-- Where a cursor stands in the listing of a full expression (own).
use Rattle.std.specs.Prelude.{◌≡◌, ◌⊎◌, true, List, [], ◌∷◌, ◌++◌}
use Rattle.c_typed.specs.declared.tree.Place.{Place}
use Rattle.c_typed.specs.Tree.{Tree}
use Rattle.c_typed.specs.Order.{Taken, events, has}
use Rattle.run_layout.specs.declared.steps.Due.{Due}
use Rattle.run_layout.specs.declared.steps.Listed.{Listed}
use Rattle.run_layout.specs.declared.steps.Listed.TheVariants as listed
use Rattle.run_layout.specs.OfTrees.{IsListingOf}
use Rattle.run_listing.specs.Along.{events_of, IsListed}

-- these entries are none, or the last one is an event that is listed by the operands that are chosen
abbrev pub EndAtEvent : Taken → List Listed → Type 0
EndAtEvent taken entries =
    (entries ≡ []) ⊎
    ((es : List Listed) × (d : Due) × (entries ≡ es ++ listed.Event d ∷ []) × (has (events_of taken entries) d.place ≡ true))

-- a listing has the events of its tree, in the canonical order, whatever operands are chosen
abbrev pub ListsTree : Type 0
ListsTree = (entries : List Listed) (tree : Tree) → IsListingOf entries tree → (taken : Taken) → events_of taken entries ≡ events taken 0 tree

-- each of them has an entry
abbrev pub HasEntries : Type 0
HasEntries =
    (entries : List Listed) (tree : Tree) → IsListingOf entries tree → (taken : Taken) (u : Place) → has (events taken 0 tree) u ≡ true
    → (d : Due) × IsListed entries d × (d.place ≡ u)

-- it parts where its first part ends at an event
abbrev pub PartsAtEvent : Type 0
PartsAtEvent =
    (before behind : List Listed) (tree : Tree) → IsListingOf (before ++ behind) tree → (taken : Taken) → EndAtEvent taken before
    → events_of taken before ++ events_of taken behind ≡ events taken 0 tree

-- and parts alike wherever the same events are due
abbrev pub PartsAlike : Type 0
PartsAlike =
    (before behind : List Listed) (tree : Tree) → IsListingOf (before ++ behind) tree → (taken other : Taken) → EndAtEvent taken before
    → events other 0 tree ≡ events taken 0 tree
    → (events_of other before ≡ events_of taken before) × (events_of other behind ≡ events_of taken behind)

-- Behind any event that is listed it parts, whatever operands are chosen.
abbrev pub PartsFurther : Type 0
PartsFurther =
    (before between behind : List Listed) (due : Due) (tree : Tree) → IsListingOf (before ++ (between ++ listed.Event due ∷ behind)) tree
    → (taken : Taken) (passed next : List Place) → events taken 0 tree ≡ passed ++ due.place ∷ next
    → (events_of taken (before ++ (between ++ listed.Event due ∷ [])) ≡ passed ++ due.place ∷ []) × (events_of taken behind ≡ next) ×
    EndAtEvent taken (before ++ (between ++ listed.Event due ∷ []))
