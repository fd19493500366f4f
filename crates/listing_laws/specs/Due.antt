-- Choices matter only of nodes that are evaluated; and what may come next is decided by going down the tree.
use Rattle.std.specs.Prelude.{◌≡◌, ◌↔◌, ℕ, Bool, true}
use Rattle.ub_base.specs.declared.clause.Kind.TheVariants.{Val}
use Rattle.c_typed.specs.declared.tree.Place.{Place}
use Rattle.c_typed.specs.Tree.{Tree}
use Rattle.c_typed.specs.Order.{Taken, place, events, is_due, IsPermitted}
use Rattle.c_typed.specs.Decide.{canonical, is_permitted}

-- the same operands are chosen by nodes that are evaluated
abbrev pub AgreeWhereDue : Tree → (taken other : Taken) → Type 0
AgreeWhereDue root taken other = (n : ℕ) → is_due root taken (place n Val) ≡ true → other n ≡ taken n

-- then the same events are due, in the same order
abbrev pub ListsAlike : Type 0
ListsAlike = (root : Tree) (taken other : Taken) → AgreeWhereDue root taken other → events other 0 root ≡ events taken 0 root

-- and the same ones may come next
abbrev pub PermitsAlike : Type 0
PermitsAlike =
    (root : Tree) (taken other : Taken) (done : Place → Bool) (u : Place) → AgreeWhereDue root taken other
    → is_permitted root other done u ≡ is_permitted root taken done u

-- of which the canonical order takes the same
abbrev pub TakesAlike : Type 0
TakesAlike =
    (root : Tree) (taken other : Taken) (done : Place → Bool) → AgreeWhereDue root taken other → canonical root other done ≡ canonical root taken done

-- the test says of each event whether it is permitted
abbrev pub DecidesPermitted : Type 0
DecidesPermitted = (root : Tree) (taken : Taken) (done : Place → Bool) (u : Place) → (is_permitted root taken done u ≡ true) ↔ IsPermitted root taken done u
