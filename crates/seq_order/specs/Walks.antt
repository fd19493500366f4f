-- Walks over the due events of a tree, up to the first that a test takes.
use Rattle.std.specs.Prelude.{ℕ, Bool, not, ◌&&◌, List, [], ◌∷◌, Option, Some, None, Result, Ok, Err, if◌then◌else◌}
use Rattle.c_typed.specs.declared.tree.Place.{Place}
use Rattle.c_typed.specs.Tree.{Tree}
use Rattle.c_typed.specs.Order.{Taken, is_body, events}
use Rattle.c_typed.specs.Decide.{is_before, earlier_done}

-- the number after the walk, or where it stopped
abbrev pub walked : ℕ → Option Place → Result ℕ Place
walked n None = Ok n
walked n (Some u) = Err u

abbrev pub listed : Option Place → List Place
listed None = []
listed (Some u) = u ∷ []

-- the due events of an operand, of which an operand that isn't evaluated has none
abbrev pub events_if : Bool → Taken → ℕ → Tree → List Place
events_if evaluated taken k t = if evaluated then events taken k t else []

-- the event isn't done
abbrev pub is_left : (Place → Bool) → Place → Bool
is_left done u = not (done u)

-- the event isn't done, and comes before u
abbrev pub hinders : Tree → Taken → (Place → Bool) → Place → Place → Bool
hinders root taken done u v = not (done v) && is_before taken 0 root v u

-- the event isn't done, and what comes before it is
abbrev pub is_free : Tree → Taken → (Place → Bool) → Place → Bool
is_free root taken done u = not (done u) && earlier_done root taken done u (events taken 0 root)

-- the same, and no body
abbrev pub is_free_beside : Tree → Taken → (Place → Bool) → Place → Bool
is_free_beside root taken done u = not (is_body u.kind) && is_free root taken done u
