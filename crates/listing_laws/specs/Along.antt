-- How a full expression stands along its canonical order (own).
use Rattle.std.specs.Prelude.{◌≡◌, Bool, false, ◌||◌, List, [], ◌∷◌, ◌++◌, Option, Some, None, is_none}
use Rattle.ub_base.specs.declared.clause.Kind.TheVariants.{Body}
use Rattle.c_typed.specs.declared.tree.Place.{Place}
use Rattle.c_typed.specs.Order.{has, events, same_place}
use Rattle.c_model.specs.Program.{tree_of}
use Rattle.c_model.specs.Values.{Value}
use Rattle.c_model.specs.World.{World}
use Rattle.c_model.specs.Steps.{Scene, Local, Begun, taken_by, is_done, is_settled, with_given}
use Rattle.c_model.specs.Runs.{canonical_pick, chosen_pick}

-- the body of this event has started, and its frame hasn't ended
abbrev pub waits : Option Place → Place → Bool
waits None u = false
waits (Some w) u = same_place w u

-- what was passed is done, but for the body that waits, and nothing else is; this and what is ahead are the canonical listing
pub record StandsAlong (world : World) (f : Scene) (e : Begun) (waiting : Option Place) (passed ahead : List Place) : Type 0 where
  pub done : (u : Place) → has passed u ≡ (is_done e u || waits waiting u)
  pub listed : passed ++ ahead ≡ events (taken_by world f e) 0 (tree_of e.root)

abbrev pub first_of : List Place → Option Place
first_of [] = None
first_of (u ∷ us) = Some u

-- the canonical pick is the first event ahead, and the control step where none is
abbrev pub TakesFirst : Type 0
TakesFirst =
    (world : World) (f : Local) (e : Begun) (passed ahead : List Place) → StandsAlong world f.scene e None passed ahead
    → canonical_pick world f (Some e) ≡ chosen_pick world (first_of ahead)

-- it is settled where none is ahead
abbrev pub SettlesAtEnd : Type 0
SettlesAtEnd =
    (world : World) (f : Local) (e : Begun) (passed ahead : List Place) → StandsAlong world f.scene e None passed ahead
    → is_settled world f e ≡ is_none (first_of ahead)

-- as it begins, nothing was passed
abbrev pub BeginsAlong : Type 0
BeginsAlong =
    (world : World) (f : Scene) (e : Begun) → ((u : Place) → e.given u ≡ None)
    → StandsAlong world f e None [] (events (taken_by world f e) 0 (tree_of e.root))

-- the first event ahead goes to what was passed, and what it chooses is all ahead of it
abbrev pub GoesFurther : Type 0
GoesFurther =
    (world : World) (f : Scene) (e : Begun) (passed ahead : List Place) (u : Place) (v : Value) → StandsAlong world f e None passed (u ∷ ahead)
    → (next : List Place) × StandsAlong world f (with_given e u v) None (passed ++ u ∷ []) next

-- so does a body that starts
abbrev pub StartsAlong : Type 0
StartsAlong =
    (world : World) (f : Scene) (e : Begun) (passed ahead : List Place) (u : Place) → StandsAlong world f e None passed (u ∷ ahead)
    → StandsAlong world f e (Some u) (passed ++ u ∷ []) ahead

-- and as it ends it chooses nothing
abbrev pub EndsAlong : Type 0
EndsAlong =
    (world : World) (f : Scene) (e : Begun) (passed ahead : List Place) (u : Place) (v : Value) → u.kind ≡ Body → StandsAlong world f e (Some u) passed ahead
    → StandsAlong world f (with_given e u v) None passed ahead × (taken_by world f (with_given e u v) ≡ taken_by world f e)
