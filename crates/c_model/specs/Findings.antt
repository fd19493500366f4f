-- Races and quarrels of a trace, and which clauses it meets.
use Rattle.std.specs.Prelude.{◌≡◌, ℕ, Bool, true, false, not, ◌&&◌, ◌||◌, ◌==◌, List, [], ◌∷◌, ◌++◌, Option, Some, None, if◌then◌else◌, IsTrue}
use Rattle.ub_base.specs.declared.clause.Clause.{Clause}
use Rattle.ub_base.specs.declared.clause.Clause.TheVariants.{Unsequenced}
use Rattle.ub_base.specs.declared.names.Item.{Item}
use Rattle.ub_base.specs.declared.names.Item.TheVariants.{Ending}
use Rattle.ub_base.specs.Frames.{Path}
use Rattle.c_typed.specs.declared.tree.Place.{Place}
use Rattle.c_typed.specs.Tree.{Tree}
use Rattle.c_typed.specs.Order.{Taken, same_place, is_body, is_due, IsApart}
use Rattle.addr_map.specs.declared.map.Row.{Row}
use Rattle.addr_map.specs.Conflict.{items_conflict, stands_at, is_access, some_conflict}
use Rattle.c_model.specs.World.{World}
use Rattle.c_model.specs.Runs.{Entry, Outcome, Raises, trace_of}

-- two items conflict (own; 6.5p2 for accesses)
abbrev pub clash : List Row → Item → Item → Bool
clash rows i j = items_conflict (stands_at rows) i j

abbrev pub accesses : List Item → List Item
accesses [] = []
accesses (i ∷ is) = if is_access i then i ∷ accesses is else accesses is

abbrev pub same_path : Path → Path → Bool
same_path [] [] = true
same_path (a ∷ f) (b ∷ g) = (a.0 == b.0) && ((a.1 == b.1) && same_path f g)
same_path _ _ = false

-- the frame is this one or was started from it
abbrev pub is_under : Path → Path → Bool
is_under [] g = same_path [] g
is_under (a ∷ f) g = same_path (a ∷ f) g || is_under f g

abbrev pub items_under : Path → List Entry → List Item
items_under g [] = []
items_under g (e ∷ es) = (if is_under e.path g then e.items else []) ++ items_under g es

-- an event's own items, and for a body those of all frames that it started, so far
abbrev pub items_of : List Entry → Entry → Place → List Item
items_of trace e u = e.items ++ (if is_body u.kind then items_under ((e.turn, u.node) ∷ e.path) trace else [])

abbrev pub has_ending : List Item → Bool
has_ending [] = false
has_ending (Ending ∷ is) = true
has_ending (i ∷ is) = has_ending is

-- an event of the trace
pub data Has : List Entry → Entry → Place → Type 0 where
  first : (e : Entry) (es : List Entry) (u : Place) → e.place ≡ Some u → Has (e ∷ es) e u
  later : (d e : Entry) (es : List Entry) (u : Place) → Has es e u → Has (d ∷ es) e u

-- two events of one full expression, the newer one first
pub data Both : List Entry → Entry → Place → Entry → Place → Type 0 where
  newest : (d e : Entry) (es : List Entry) (u v : Place) → d.place ≡ Some u → Has es e v
      → IsTrue (same_path d.path e.path) → d.turn ≡ e.turn → Both (d ∷ es) d u e v
  older : (c d e : Entry) (es : List Entry) (u v : Place) → Both es d u e v → Both (c ∷ es) d u e v

-- neither is sequenced before the other, under the choices that stood as the newer one was picked
abbrev pub AreApart : Option (Tree × Taken) → Place → Place → Type 0
AreApart None u v = ⊥
AreApart (Some e) u v = IsApart e.0 e.1 u v

-- two unsequenced accesses of one byte, one of them a write (6.5p2); a body is only indeterminately sequenced (6.5.2.2p10)
pub record Race (world : World) (trace : List Entry) (d : Entry) (u : Place) (e : Entry) (v : Place) : Type 0 where
  pub both : Both trace d u e v
  pub apart : AreApart d.begun u v
  pub bodiless : (is_body u.kind || is_body v.kind) ≡ false
  pub clash : IsTrue (some_conflict world.rows (accesses d.items) (accesses e.items))

-- an order meets a clause where its last pick raises it, or where it is 6.5p2 and its trace holds a race
pub data Meets (world : World) : Outcome → Clause → Type 0 where
  raised : (c : Clause) (trace : List Entry) → Meets world (Raises c trace) c
  raced : (o : Outcome) (d e : Entry) (u v : Place) → Race world (trace_of o) d u e v → Meets world o Unsequenced

-- two evaluations that may come in either order and whose items conflict, without being a race (own)
pub record Quarrel (world : World) (trace : List Entry) (d : Entry) (u : Place) (e : Entry) (v : Place) : Type 0 where
  pub both : Both trace d u e v
  pub apart : AreApart d.begun u v
  pub clash : IsTrue (some_conflict world.rows (items_of trace d u) (items_of trace e v))
  pub no_race : Race world trace d u e v → ⊥

abbrev pub is_due_in : Option (Tree × Taken) → Place → Bool
is_due_in None v = false
is_due_in (Some e) v = is_due e.0 e.1 v

-- beside an evaluation that ends the run, another event of its full expression that is due, done or pending, and neither before nor
-- after it: the end has the item `end` and the other event the item `any` (own)
pub record EndQuarrel (trace : List Entry) (d : Entry) (u v : Place) : Type 0 where
  pub here : Has trace d u
  pub ends : IsTrue (has_ending (items_of trace d u))
  pub due : IsTrue (is_due_in d.begun v)
  pub other : same_place u v ≡ false
  pub apart : AreApart d.begun u v
