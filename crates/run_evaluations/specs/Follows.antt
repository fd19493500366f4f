-- The evaluations follow what was told of the open frames (own).
use Rattle.std.specs.Prelude.{◌≡◌, ◌≤◌, ◌<◌, ◌+◌, ◌-◌, ◌==◌, ℕ, suc, true, List, [], ◌∷◌, ◌++◌, Option, Some, None, slice_get, length, if◌then◌else◌}
use Rattle.ub_base.specs.declared.names.Frame.{Frame}
use Rattle.ub_base.specs.declared.names.Item.{Item}
use Rattle.c_typed.specs.declared.tree.Place.{Place}
use Rattle.c_typed.specs.Order.{Taken, place}
use Rattle.evaluation_log.specs.Kept.{Cut, cut_of}
use Rattle.evaluation_log.specs.declared.level.Level.{Level}
use Rattle.evaluation_log.specs.declared.log.Logged.{Logged}
use Rattle.evaluation_log.specs.Touched.{touched, body_has}
use Rattle.evaluation_log.specs.Ways.{node_of}
use Rattle.run_evaluations.specs.declared.open.Evaluations.{Evaluations}
use Rattle.run_evaluations.specs.Kept.{IsKept}
use Rattle.run_evaluations.specs.Listed.{IsOpenIn, ListedIn, AnyEvent, NotLastEffect}
use Rattle.run_evaluations.specs.Loose.{IsLooseKept, EndsAt}
use Rattle.run_evaluations.specs.Scopes.{Scope}
use Rattle.run_evaluations.specs.Told.{Evaluation, Opened, no_scope, chosen_by, Grows, IsBeside}

-- all that is done, that of the outermost frame first; the frame on top comes first in what was told
abbrev pub all_done : List Opened → List Evaluation
all_done [] = []
all_done (t ∷ ts) = all_done ts ++ t.done

-- the full expression of the frame d
abbrev pub scopes_of : List Opened → ℕ → Scope
scopes_of [] d = no_scope
scopes_of (t ∷ ts) d = if d == length ts then t.scope else scopes_of ts d

-- an event of the log as an evaluation
abbrev pub seen : List Item → Option Logged → Option Evaluation
seen items None = None
seen items (Some e) = Some (record { place = place e.node e.kind; own = touched items e.from (e.to - e.from); body = body_has e.foot })

-- the frame and the turn of a level
abbrev pub name_of : Option Level → Option (Frame × ℕ)
name_of None = None
name_of (Some l) = Some (l.frame, l.turn)

-- the open frame d is this one, with what is done of its full expression from one place of the log on
pub record IsFrame (o : Evaluations) (d : ℕ) (t : Opened) (from : ℕ) : Type 0 where
  pub named : name_of (slice_get o.levels.items d) ≡ Some (t.frame, t.turn)
  pub begins : (c : Cut) → cut_of (slice_get o.levels.items d) ≡ Some c → c.events ≡ from
  -- each of its segments is of a node of which what is done stands together
  pub parts : (g m : ℕ) → IsOpenIn o.levels.items d g → node_of (slice_get o.segments.items g) ≡ Some m → t.parts m ≡ true
  -- segments are of operands of nodes above those of the later ones
  pub beside : (g h m n : ℕ) → IsOpenIn o.levels.items d g → IsOpenIn o.levels.items d h → g < h → node_of (slice_get o.segments.items g) ≡ Some m →
      node_of (slice_get o.segments.items h) ≡ Some n → IsBeside t.scope m n

abbrev pub AreFrames : Evaluations → List Opened → Type 0
AreFrames o [] = Unit {0}
AreFrames o (t ∷ ts) = IsFrame o (length ts) t (length (all_done ts)) × AreFrames o ts

-- what is kept is right, and of these frames as was told: those of the events that are asked for are listed that come before no value of a node above
pub record Holds (os : List Opened) (o : Evaluations) (asked : ℕ → Place → Type 0) : Type 0 where
  pub kept : IsKept o
  pub loose : IsLooseKept o
  pub events : (k : ℕ) → k < length (all_done os) → seen o.items.items (slice_get o.events.items k) ≡ slice_get (all_done os) k
  pub full : (d : ℕ) → d < length os →
      ListedIn o.segments.items o.events.items o.loose.items o.levels.items d (scopes_of os d) asked
  pub frames : AreFrames o os

-- these are the frames that are open, and nothing else is logged
pub record AreAll (os : List Opened) (o : Evaluations) : Type 0 where
  pub count : length o.levels.items ≡ length os
  pub events : length o.events.items ≡ length (all_done os)

-- the evaluations are as was told of the open frames, of which the one on top comes first
pub record Follows (os : List Opened) (o : Evaluations) : Type 0 where
  pub holds : Holds os o AnyEvent
  pub all : AreAll os o

-- and an event of this node was told last, which isn't listed yet if it is a side effect
pub record FollowsBut (os : List Opened) (n : ℕ) (o : Evaluations) : Type 0 where
  pub holds : Holds os o (NotLastEffect o.events.items)
  pub all : AreAll os o
  pub last : EndsAt o n

-- they are as was told of the frames below the one on top
pub record FollowsBelow (os : List Opened) (o : Evaluations) : Type 0 where
  pub holds : Holds os o AnyEvent
  pub count : length o.levels.items ≡ suc (length os)
  pub begins : (c : Cut) → cut_of (slice_get o.levels.items (length os)) ≡ Some c → c.events ≡ length (all_done os)

-- an evaluation of the frame started the one above it, or nothing at all is logged
abbrev pub HasStarted : Opened → List Opened → Type 0
HasStarted t ts = t.done ≡ [] → all_done ts ≡ []

-- ---- what stays
-- the frame on top has this name
abbrev pub IsNamed : Evaluations → Opened → Type 0
IsNamed o t = name_of (slice_get o.levels.items (length o.levels.items - 1)) ≡ Some (t.frame, t.turn)

-- the frames have the names that they had
abbrev pub AreNamed : Evaluations → Evaluations → Type 0
AreNamed old new = (d : ℕ) → name_of (slice_get new.levels.items d) ≡ name_of (slice_get old.levels.items d)

-- but for the turn of the one on top
pub record IsTurned (old new : Evaluations) (turn : ℕ) : Type 0 where
  pub count : length new.levels.items ≡ length old.levels.items
  pub others : (d : ℕ) → suc d < length old.levels.items → name_of (slice_get new.levels.items d) ≡ name_of (slice_get old.levels.items d)
  pub top : (t : Opened) → IsNamed old t → name_of (slice_get new.levels.items (length old.levels.items - 1)) ≡ Some (t.frame, turn)

-- of events from one place on bodies may be gone, and frames may have touched more
pub record IsSameBefore (old new : Evaluations) (from : ℕ) : Type 0 where
  pub segments : new.segments.items ≡ old.segments.items
  pub items : new.items.items ≡ old.items.items
  pub loose : new.loose.items ≡ old.loose.items
  pub names : AreNamed old new
  pub cuts : (d : ℕ) → cut_of (slice_get new.levels.items d) ≡ cut_of (slice_get old.levels.items d)
  pub count : length new.events.items ≡ length old.events.items
  pub events : (k : ℕ) → k < from → slice_get new.events.items k ≡ slice_get old.events.items k

-- ---- what is so of all evaluations
-- what was told is followed as nodes choose further operands
abbrev pub ChoicesGrow : Type 0
ChoicesGrow = (o : Evaluations) (t : Opened) (ts : List Opened) (taken : Taken) → Grows t.scope.taken taken → Follows (t ∷ ts) o →
    Follows (chosen_by taken t ∷ ts) o
