-- The turn of two events in an order (own).
use Rattle.std.specs.Prelude.{◌≡◌, ◌<◌, ◌^◌, ◌++◌, ℕ, suc, Bool, false, true, ◌&&◌, ◌||◌, ◌==◌, List, [], ◌∷◌, map, drop, slice_get, Option, Some}
use Rattle.std.specs.Prelude.{if◌then◌else◌}
use Rattle.ub_base.specs.declared.names.Event.{Event}
use Rattle.ub_base.specs.declared.names.Frame.{Frame}
use Rattle.c_typed.specs.declared.tree.Place.{Place}
use Rattle.c_typed.specs.declared.tree.Typed.{Typed}
use Rattle.c_typed.specs.Tree.{Tree, tree_of, size}
use Rattle.c_typed.specs.Order.{same_place, place}
use Rattle.c_typed.specs.Decide.{is_permitted}
use Rattle.seq_order.specs.Marked.{taken_in}
use Rattle.order_swap.specs.declared.set.Pair.{Pair}
use Rattle.order_swap.specs.Sets.{places, in_order, waits, next_of}

-- an event that was taken, and before it the full expression that was open and its choices of operands, by node
pub record Step : Type 0 where
  pub place : Place
  pub root : Typed
  pub choices : List (Option ℕ)

abbrev pub place_of : Event → Place
place_of e = place e.node e.kind

-- the events that were taken before, of which the last one stands first
abbrev pub done_by : List Step → Place → Bool
done_by [] u = false
done_by (s ∷ ss) u = same_place s.place u || done_by ss u

-- something of each event, where those before it are done
abbrev pub AllSteps : ((Place → Bool) → Step → Type 0) → List Step → Type 0
AllSteps P steps = (i : ℕ) (s : Step) → slice_get steps i ≡ Some s → P (done_by (drop (suc i) steps)) s

-- the two events, the one that is earlier in post-order first
abbrev pub pair_in : Tree → Place → Place → Pair
pair_in root event against = in_order (places 0 root) event against

abbrev pub tree_in : Step → Tree
tree_in s = tree_of s.root

-- the event is the one that comes next where the second of the two comes first
abbrev pub IsChosen : (event against : Place) → (Place → Bool) → Step → Type 0
IsChosen event against done s =
    size (tree_in s) < 2 ^ 32 → Some s.place ≡ next_of (taken_in s.choices) done (tree_in s) (pair_in (tree_in s) event against)

-- the event may be taken: what is sequenced before it is done, and it is no body between the halves of an update (6.5.2.4p2, 6.5.16.2p3)
abbrev pub MayBeTaken : (Place → Bool) → Step → Type 0
MayBeTaken done s = size (tree_in s) < 2 ^ 32 → is_permitted (tree_in s) (taken_in s.choices) done s.place ≡ true

-- the event isn't the first of the two while the second is evaluated and not done
abbrev pub IsFair : (event against : Place) → (Place → Bool) → Step → Type 0
IsFair event against done s =
    size (tree_in s) < 2 ^ 32 → waits (taken_in s.choices) done (tree_in s) (pair_in (tree_in s) event against).second ≡ true →
    same_place s.place (pair_in (tree_in s) event against).first ≡ false

abbrev pub is_in_turn : Frame → ℕ → Event → Bool
is_in_turn frame turn e = (e.frame.0 == frame.0) && (e.turn == turn)

-- the places of those events that stand in this turn
abbrev pub places_in : Frame → ℕ → List Event → List Place
places_in frame turn [] = []
places_in frame turn (e ∷ es) = (if is_in_turn frame turn e then place_of e ∷ [] else []) ++ places_in frame turn es

abbrev pub step_place : Step → Place
step_place s = s.place

-- these are the events of the trail that stand in the turn of the event
abbrev pub IsTurnOf : Event → List Event → List Step → Type 0
IsTurnOf event trail steps = places_in event.frame event.turn trail ≡ map step_place steps
