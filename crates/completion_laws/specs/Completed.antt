-- What an event completes, told by the event that is listed behind it (own).
use Rattle.std.specs.Prelude.{◌≡◌, ℕ, Bool, true, false, ◌==◌, List, [], ◌∷◌, ◌++◌, Option, Some, None, if◌then◌else◌}
use Rattle.c_typed.specs.declared.tree.Place.{Place}
use Rattle.c_typed.specs.Tree.{Tree}
use Rattle.c_typed.specs.Order.{Taken, events, has}
use Rattle.elaborate.specs.Formed.{is_formed}
use Rattle.c_model.specs.Completions.{Completed, Incomplete, Own_node, Operands_of, completed_by, parent_in}

-- the first of the events that are ahead is one of this node
abbrev pub comes_next : ℕ → List Place → Bool
comes_next n [] = false
comes_next n (u ∷ us) = u.node == n

-- with its node, below this one, an event completes all operands of this one where its own events come next
abbrev pub with_above : Option ℕ → List Place → Completed
with_above None ahead = Own_node
with_above (Some p) ahead = if comes_next p ahead then Operands_of p else Own_node

abbrev pub completed_next : Tree → ℕ → List Place → Completed
completed_next root n ahead = if comes_next n ahead then Incomplete else with_above (parent_in 0 root n) ahead

-- Where the canonical listing was followed up to an event, which is the last that is done, what it completes is told by what is ahead. Nodes have the
-- operands that their operators take.
abbrev pub CompletesByNext : Type 0
CompletesByNext =
    (root : Tree) (taken : Taken) (passed ahead : List Place) (u : Place) → is_formed root ≡ true → events taken 0 root ≡ passed ++ u ∷ ahead
    → completed_by root taken (has (passed ++ u ∷ [])) u.node ≡ completed_next root u.node ahead
