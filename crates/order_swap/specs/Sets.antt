-- The events that are taken so that one comes before another (own).
use Rattle.std.specs.Prelude.{◌≡◌, ◌++◌, ◌+◌, ℕ, suc, Bool, not, ◌&&◌, ◌||◌, List, [], ◌∷◌, Option, if◌then◌else◌}
use Rattle.ub_base.specs.Names.{same_kind}
use Rattle.ub_base.specs.declared.clause.Kind.TheVariants.{Val, Eff, Body}
use Rattle.c_typed.specs.declared.tree.Place.{Place}
use Rattle.c_typed.specs.Tree.{Tree, node, Trees, none, more, size}
use Rattle.c_typed.specs.Order.{Taken, same_place, place}
use Rattle.c_typed.specs.Decide.{due_in, is_before, is_permitted, first_place, canonical}
use Rattle.order_swap.specs.declared.set.Pair.{Pair}

-- the places that an event of the node may have: the body, the val, the eff
abbrev pub node_places : ℕ → List Place
node_places k = place k Body ∷ place k Val ∷ place k Eff ∷ []

abbrev mutual
  -- those of the tree whose root has the number k, in post-order
  pub places : ℕ → Tree → List Place
  places k (node class ts) = operand_places (suc k) ts ++ node_places k

  -- those of operands, the first of which has the number k
  pub operand_places : ℕ → Trees → List Place
  operand_places k none = []
  operand_places k (more t ts) = places k t ++ operand_places (k + size t) ts

-- two events, the one that stands earlier in the list first
abbrev pub in_order : List Place → (event against : Place) → Pair
in_order [] event against = record { first = event; second = against }
in_order (p ∷ ps) event against =
    if same_place p event then record { first = event; second = against }
    else (if same_place p against then record { first = against; second = event } else in_order ps event against)

-- the event is the second one, or evaluated and sequenced before it
abbrev pub needs : Taken → Tree → Place → Place → Bool
needs taken root p second = due_in taken 0 root p && (same_place p second || is_before taken 0 root p second)

-- the store of an update whose value is such an event (6.5.2.4p2, 6.5.16.2p3)
abbrev pub stores_needed : Taken → Tree → Place → Place → Bool
stores_needed taken root p second = same_kind p.kind Eff && (is_before taken 0 root (place p.node Val) p && needs taken root (place p.node Val) second)

-- the value of an update whose store is the first event, and whose value is such an event
abbrev pub is_kept : Taken → Tree → Pair → Place → Bool
is_kept taken root pair p =
    same_place p (place pair.first.node Val) && (stores_needed taken root pair.first pair.second && not (same_place p pair.first))

-- any other event that is needed, but the first one
abbrev pub is_put : Taken → Tree → Pair → Place → Bool
is_put taken root pair p =
    not (same_place p pair.first) && (not (is_kept taken root pair p) && (needs taken root p pair.second || stores_needed taken root p pair.second))

abbrev pub put_of : Taken → Tree → Pair → List Place → List Place
put_of taken root pair [] = []
put_of taken root pair (p ∷ ps) = (if is_put taken root pair p then p ∷ [] else []) ++ put_of taken root pair ps

-- the one that is kept back
abbrev pub kept_of : Taken → Tree → Pair → List Place
kept_of taken root pair = if is_kept taken root pair (place pair.first.node Val) then place pair.first.node Val ∷ [] else []

-- those of a list of events that are taken, and behind them the one that is kept back
abbrev pub wanted_of : Taken → Tree → Pair → List Place → List Place
wanted_of taken root pair ps = put_of taken root pair ps ++ kept_of taken root pair

-- the second event is evaluated and not done
abbrev pub waits : Taken → (Place → Bool) → Tree → Place → Bool
waits taken done root second = due_in taken 0 root second && not (done second)

-- the event that comes next: while the second one waits, the first permitted one of those that are wanted, and else the canonical one
abbrev pub next_of : Taken → (Place → Bool) → Tree → Pair → Option Place
next_of taken done root pair =
    if waits taken done root pair.second then first_place (is_permitted root taken done) (wanted_of taken root pair (places 0 root))
    else canonical root taken done
