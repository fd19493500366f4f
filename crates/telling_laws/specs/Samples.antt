-- The sum of two values, and `&&` of two values, along their listings, worked out by hand.
use Rattle.std.specs.Prelude.{◌≡◌, ℕ, ◌==◌, true, false, [], ◌∷◌, Some, None, if◌then◌else◌}
use Rattle.ub_base.specs.declared.clause.Kind.TheVariants.{Val}
use Rattle.c_typed.specs.declared.tree.Place.{Place}
use Rattle.c_typed.specs.declared.class.Class.TheVariants.{Plain, Choice}
use Rattle.c_typed.specs.Tree.{Tree, Trees, node, none, more}
use Rattle.c_typed.specs.Order.{Taken, place, events, has}
use Rattle.c_model.specs.Completions.{Own_node, Operands_of, completed_by}
use Rattle.c_model.specs.Moments.{has_shown}
use Rattle.run_evaluations.specs.Told.{Opened, begun, chosen_by, entered, evaluation, told}
use Rattle.telling_laws.specs.Standing.{completed_in, with_completed}

-- two values, numbered 1 and 2
abbrev pub two_values : Trees
two_values = more (node Plain none) (more (node Plain none) none)

abbrev pub sum : Tree
sum = node Plain two_values

abbrev pub conjunction : Tree
conjunction = node Choice two_values

abbrev pub none_chosen : Taken
none_chosen n = None

abbrev pub second_chosen : Taken
second_chosen n = if n == 0 then Some 1 else None

abbrev pub value : ℕ → Place
value n = place n Val

-- a full expression begins
abbrev pub begun_with : Tree → Opened
begun_with t = begun 0 (record { tree = t; taken = none_chosen }) (entered (record { 0 = 0 }))

-- the value of this node is told, and what it completes
abbrev pub after_value : ℕ → Opened → Opened
after_value n t = let next = told (evaluation n Val []) t in with_completed (completed_in next n) next

-- ---- the sum
-- the second operand completes the operands, with which the two show; the sum shows with its operands once it is done itself
abbrev pub SumShows : Type 0
SumShows = (completed_by sum none_chosen (has (value 1 ∷ [])) 1 ≡ Own_node)
    × (completed_by sum none_chosen (has (value 1 ∷ value 2 ∷ [])) 2 ≡ Operands_of 0)
    × (completed_by sum none_chosen (has (value 1 ∷ value 2 ∷ value 0 ∷ [])) 0 ≡ Own_node)
    × (has_shown sum none_chosen (has (value 1 ∷ [])) (value 1) (value 2) ≡ false)
    × (has_shown sum none_chosen (has (value 1 ∷ value 2 ∷ [])) (value 1) (value 2) ≡ true)
    × (has_shown sum none_chosen (has (value 1 ∷ value 2 ∷ [])) (value 0) (value 1) ≡ false)
    × (has_shown sum none_chosen (has (value 1 ∷ value 2 ∷ value 0 ∷ [])) (value 0) (value 1) ≡ true)

-- the first operand stands together once it is done, and both in the sum once the second one is
abbrev pub SumIsTold : Type 0
SumIsTold = ((after_value 1 (begun_with sum)).parts 1 ≡ true)
    × ((after_value 1 (begun_with sum)).parts 0 ≡ false)
    × ((after_value 2 (after_value 1 (begun_with sum))).parts 0 ≡ true)
    × ((after_value 2 (after_value 1 (begun_with sum))).parts 1 ≡ false)
    × ((after_value 2 (after_value 1 (begun_with sum))).parts 2 ≡ false)

-- ---- `&&` (6.5.13p4)
-- with its first operand it goes on to the second one, if that is chosen; else its operands are complete
abbrev pub BothShow : Type 0
BothShow = (events none_chosen 0 conjunction ≡ value 1 ∷ value 0 ∷ [])
    × (events second_chosen 0 conjunction ≡ value 1 ∷ value 2 ∷ value 0 ∷ [])
    × (completed_by conjunction none_chosen (has (value 1 ∷ [])) 1 ≡ Operands_of 0)
    × (completed_by conjunction second_chosen (has (value 1 ∷ [])) 1 ≡ Own_node)
    × (completed_by conjunction second_chosen (has (value 1 ∷ value 2 ∷ [])) 2 ≡ Operands_of 0)

abbrev pub BothAreTold : Type 0
BothAreTold = ((after_value 1 (begun_with conjunction)).parts 0 ≡ true)
    × ((after_value 1 (chosen_by second_chosen (begun_with conjunction))).parts 0 ≡ false)
    × ((after_value 1 (chosen_by second_chosen (begun_with conjunction))).parts 1 ≡ true)
    × ((after_value 2 (after_value 1 (chosen_by second_chosen (begun_with conjunction)))).parts 0 ≡ true)
