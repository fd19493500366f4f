-- The least pair of events that passes a test, and the finding that it makes (own).
use Rattle.std.specs.Prelude.{◌≡◌, ◌<◌, ◌+◌, ◌*◌, ℕ, Bool, true, false, nat_lt, List, [], ◌∷◌, Some, None}
use Rattle.std.specs.Ordering.{is_lt}
use Rattle.ub_base.specs.declared.names.Event.{Event}
use Rattle.ub_base.specs.Frames.{Row}
use Rattle.c_names.specs.Orders.{event_cmp}
use Rattle.c_typed.specs.declared.tree.Place.{Place}
use Rattle.c_typed.specs.Tree.{size}
use Rattle.c_typed.specs.Order.{place, is_due}
use Rattle.c_model.specs.World.{World}
use Rattle.c_model.specs.Runs.{Entry}
use Rattle.c_model.specs.Keys.{kind_key, least_items}
use Rattle.c_model.specs.Moments.{Open, places_from}
use Rattle.c_model.specs.FirstFinding.{Pair, Finding, Raced, Order_dependent, races, quarrels, pair_among, due_only, found_in}

-- the order of the places of a full expression: by node, and then `val`, `eff`, `body`
abbrev pub place_key : Place → ℕ
place_key u = 3 * u.node + kind_key u.kind

abbrev pub precedes : Place → Place → Bool
precedes u v = nat_lt (place_key u) (place_key v)

-- a due event of the full expression
pub record IsDue (o : Open) (u : Place) : Type 0 where
  pub due : is_due o.tree o.taken u ≡ true
  pub within : u.node < size o.tree

-- two due events, the first of which comes first, pass the test, and no lesser pair does
pub record IsFirstPair (o : Open) (test : Place → Place → Bool) (u v : Place) : Type 0 where
  pub first : IsDue o u
  pub second : IsDue o v
  pub order : precedes u v ≡ true
  pub passes : test u v ≡ true
  pub least : (x y : Place) → IsDue o x → IsDue o y → precedes x y ≡ true → test x y ≡ true → (precedes x u ≡ false) × (x ≡ u → precedes y v ≡ false)

-- no pair passes it
abbrev pub NoPair : Open → (Place → Place → Bool) → Type 0
NoPair o test = (x y : Place) → IsDue o x → IsDue o y → precedes x y ≡ true → test x y ≡ false

-- such a pair is the one that the definition takes, and where there is none it takes none
abbrev pub FirstPairIsTaken : Type 0
FirstPairIsTaken = (o : Open) (test : Place → Place → Bool) (u v : Place) → IsFirstPair o test u v →
    pair_among test (due_only o (places_from 0 (size o.tree))) ≡ Some (u, v)

abbrev pub NoPairIsTaken : Type 0
NoPairIsTaken = (o : Open) (test : Place → Place → Bool) → NoPair o test → pair_among test (due_only o (places_from 0 (size o.tree))) ≡ None

-- a pair of a full expression as it is told, with its lines and its least items
abbrev pub pair_told : World → List Entry → Open → Place → Place → Pair
pair_told world trace o u v = record {
  path = o.path;
  turn = o.turn;
  event = u;
  line = o.line u.node;
  other = v;
  other_line = o.line v.node;
  items = least_items world trace (o.items u) (o.items v);
}

-- what is found in one full expression: the first race, or else the first quarrel, or else what comes besides
abbrev pub FirstIsFound : Type 0
FirstIsFound = (world : World) (trace : List Entry) (o : Open) (u v : Place) (picks : ℕ) (otherwise : Finding) →
    (IsFirstPair o (races world.rows o) u v → found_in world trace (o ∷ []) picks otherwise ≡ Raced (pair_told world trace o u v) picks) ×
    (NoPair o (races world.rows o) → IsFirstPair o (quarrels world.rows o) u v →
    found_in world trace (o ∷ []) picks otherwise ≡ Order_dependent (pair_told world trace o u v) picks) ×
    (NoPair o (races world.rows o) → NoPair o (quarrels world.rows o) → found_in world trace (o ∷ []) picks otherwise ≡ otherwise)

-- two events of one full expression stand as their places do
abbrev pub EventsByPlaces : Type 0
EventsByPlaces = (rows : List Row) (d e : Event) → d.frame ≡ e.frame → d.turn ≡ e.turn →
    is_lt (event_cmp rows d e) ≡ precedes (place d.node d.kind) (place e.node e.kind)
