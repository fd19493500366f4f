-- How the cursor of a run stands in the listing of a full expression for what the definitions have done of it (own).
use Rattle.std.specs.Prelude.{◌≡◌, ◌↔◌, ℕ, suc, ◌+◌, ◌≤◌, Bool, true, List, Option, Some, None, is_none}
use Rattle.std.specs.Borrow.{Bor}
use Rattle.ub_base.specs.declared.clause.Kind.TheVariants.{Body}
use Rattle.c_typed.specs.declared.tree.Place.{Place}
use Rattle.c_typed.specs.Order.{Taken, has}
use Rattle.c_typed.specs.Decide.{canonical, is_permitted}
use Rattle.c_model.specs.Program.{tree_of}
use Rattle.c_model.specs.Values.{Value}
use Rattle.c_model.specs.World.{World}
use Rattle.c_model.specs.Steps.{Scene, Local, Begun, Ev, MayPick, taken_by, is_done, is_settled, with_given}
use Rattle.c_model.specs.Runs.{canonical_pick, chosen_pick}
use Rattle.listing_laws.specs.Along.{StandsAlong}
use Rattle.listing_laws.specs.Due.{AgreeWhereDue}
use Rattle.run_layout.specs.declared.steps.Due.{Due}
use Rattle.run_layout.specs.declared.steps.Listed.{Listed}
use Rattle.run_layout.specs.OfTrees.{IsListingOf}
use Rattle.run_listing.specs.Along.{part_of, events_of, Next}
use Rattle.run_listing.specs.Straight.{EndAtEvent}

-- The cursor stands at the first entry, or straight behind an event that was passed. What it has passed is done, and the body that waits; this,
-- followed by what it still lists, is the canonical listing.
pub record StandsStraight (world : World) (f : Scene) (listing : List Listed) (first cursor end : ℕ) (e : Begun) (waiting : Option Place) : Type 0 where
  pub order : (first ≤ cursor) × (cursor ≤ end)
  pub behind : EndAtEvent (taken_by world f e) (part_of listing first cursor)
  pub along : StandsAlong world f e waiting (events_of (taken_by world f e) (part_of listing first cursor))
      (events_of (taken_by world f e) (part_of listing cursor end))

abbrev pub placed : Option (ℕ × Bor Due) → Option Place
placed None = None
placed (Some next) = Some next.1.now.place

-- the listing of the full expression stands there, and these are its choices, of the nodes that are evaluated
abbrev pub IsListed : World → Scene → List Listed → (first end : ℕ) → Begun → Taken → Type 0
IsListed world f listing first end e taken =
    IsListingOf (part_of listing first end) (tree_of e.root) × AgreeWhereDue (tree_of e.root) (taken_by world f e) taken

-- the next event that is listed is the canonical pick; where none is, it is settled, and the control step is
abbrev pub NextIsCanonical : Type 0
NextIsCanonical =
    (world : World) (f : Local) (listing : List Listed) (first cursor end : ℕ) (e : Begun) (taken : Taken) (found : Option (ℕ × Bor Due))
    → StandsStraight world f.scene listing first cursor end e None → IsListed world f.scene listing first end e taken
    → Next taken (part_of listing cursor end) found
    → (canonical_pick world f (Some e) ≡ chosen_pick world (placed found)) × (is_settled world f e ≡ is_none (placed found))

-- what may come next by what the cursor has passed may by the definitions
abbrev pub PermitsPicks : Type 0
PermitsPicks =
    (world : World) (f : Local) (listing : List Listed) (first cursor end : ℕ) (e : Begun) (taken : Taken) (u : Place)
    → StandsStraight world f.scene listing first cursor end e None → IsListed world f.scene listing first end e taken
    → (is_permitted (tree_of e.root) taken (has (events_of taken (part_of listing first cursor))) u ≡ true) ↔ MayPick world f (Some e) (Ev u)

-- what it has passed is what is done
abbrev pub PassedIsDone : Type 0
PassedIsDone =
    (world : World) (f : Scene) (listing : List Listed) (first cursor end : ℕ) (e : Begun) (taken : Taken) (u : Place)
    → StandsStraight world f listing first cursor end e None → IsListed world f listing first end e taken
    → has (events_of taken (part_of listing first cursor)) u ≡ is_done e u

-- as a full expression begins, the cursor stands at its first entry
abbrev pub StandsAtBegin : Type 0
StandsAtBegin =
    (world : World) (f : Scene) (listing : List Listed) (first end : ℕ) (e : Begun) → first ≤ end
    → IsListingOf (part_of listing first end) (tree_of e.root) → ((u : Place) → e.given u ≡ None)
    → StandsStraight world f listing first first end e None

-- it stands behind the next event as that is done
abbrev pub StandsBehind : Type 0
StandsBehind =
    (world : World) (f : Scene) (listing : List Listed) (first cursor end : ℕ) (e : Begun) (taken : Taken) (next : ℕ × Bor Due) (v : Value)
    → StandsStraight world f listing first cursor end e None → IsListed world f listing first end e taken
    → Next taken (part_of listing cursor end) (Some next)
    → StandsStraight world f listing first (suc (cursor + next.0)) end (with_given e next.1.now.place v) None

-- so it does as the event's body starts
abbrev pub StandsAtStart : Type 0
StandsAtStart =
    (world : World) (f : Scene) (listing : List Listed) (first cursor end : ℕ) (e : Begun) (taken : Taken) (next : ℕ × Bor Due)
    → StandsStraight world f listing first cursor end e None → IsListed world f listing first end e taken
    → Next taken (part_of listing cursor end) (Some next)
    → StandsStraight world f listing first (suc (cursor + next.0)) end e (Some next.1.now.place)

-- and as that ends it stands still
abbrev pub StandsAtEnd : Type 0
StandsAtEnd =
    (world : World) (f : Scene) (listing : List Listed) (first cursor end : ℕ) (e : Begun) (u : Place) (v : Value) → u.kind ≡ Body
    → StandsStraight world f listing first cursor end e (Some u) → StandsStraight world f listing first cursor end (with_given e u v) None

-- Off the straight way, where done events are noted one by one, the canonical order takes the canonical pick,
abbrev pub TakesByDone : Type 0
TakesByDone =
    (world : World) (f : Local) (e : Begun) (taken : Taken) (done : Place → Bool) → AgreeWhereDue (tree_of e.root) (taken_by world f.scene e) taken
    → ((u : Place) → done u ≡ is_done e u)
    → canonical_pick world f (Some e) ≡ chosen_pick world (canonical (tree_of e.root) taken done)

-- and what is permitted by them may come next.
abbrev pub PermitsByDone : Type 0
PermitsByDone =
    (world : World) (f : Local) (e : Begun) (taken : Taken) (done : Place → Bool) (u : Place)
    → AgreeWhereDue (tree_of e.root) (taken_by world f.scene e) taken → ((v : Place) → done v ≡ is_done e v)
    → (is_permitted (tree_of e.root) taken done u ≡ true) ↔ MayPick world f (Some e) (Ev u)
