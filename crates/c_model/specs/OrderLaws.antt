-- Laws of the decision of sequenced before and of the canonical order within a full expression.
use Rattle.std.specs.Prelude.{◌≡◌, ℕ, suc, IsTrue, ◌↔◌, Bool, false, is_some, List, ◌∷◌, ◌++◌, Some, None}
use Rattle.c_typed.specs.declared.tree.Place.{Place}
use Rattle.ub_base.specs.declared.clause.Kind.TheVariants.{Val}
use Rattle.c_typed.specs.Tree.{Tree}
use Rattle.c_typed.specs.Order.{Taken, Before, place, is_due, events, has}
use Rattle.c_typed.specs.Decide.{is_before, canonical}

-- of due events, going down to the operands that hold them finds exactly what the closure of the rules has
abbrev pub IsDecided : Type 0
IsDecided =
    (root : Tree) (taken : Taken) (u v : Place) → IsTrue (is_due root taken u) → IsTrue (is_due root taken v) →
    IsTrue (is_before taken 0 root u v) ↔ Before root taken u v

-- the listing has no event twice
abbrev pub ListsOnce : Type 0
ListsOnce = (root : Tree) (taken : Taken) (us vs : List Place) (v : Place) → events taken 0 root ≡ us ++ v ∷ vs → has us v ≡ false

-- what is sequenced before an event stands before it in the listing
abbrev pub RespectsOrder : Type 0
RespectsOrder =
    (root : Tree) (taken : Taken) (us vs : List Place) (v : Place) → events taken 0 root ≡ us ++ v ∷ vs →
    (u : Place) → Before root taken u v → IsTrue (has us u)

-- where exactly the events before one of the listing are done, the canonical order takes that one
abbrev pub GoesAlong : Type 0
GoesAlong = (root : Tree) (taken : Taken) (us vs : List Place) (v : Place) → events taken 0 root ≡ us ++ v ∷ vs → canonical root taken (has us) ≡ Some v

-- where all due events are done, it takes none
abbrev pub EndsWithDue : Type 0
EndsWithDue =
    (root : Tree) (taken : Taken) (done : Place → Bool) → ((u : Place) → IsTrue (is_due root taken u) → IsTrue (done u)) → canonical root taken done ≡ None

-- later choices: those that were made stay, and a due node that chooses only now has a first operand whose value is due and
-- isn't done
pub record IsLater (root : Tree) (taken : Taken) (done : Place → Bool) (later : Taken) : Type 0 where
  pub kept : (n j : ℕ) → taken n ≡ Some j → later n ≡ Some j
  pub fresh :
      (n : ℕ) → taken n ≡ None → IsTrue (is_some (later n)) → IsTrue (is_due root taken (place n Val)) → IsTrue (is_due root taken (place (suc n) Val)) ×
      (done (place (suc n) Val) ≡ false)

-- a due event that was reached: all that is sequenced before it is done
pub record IsReached (root : Tree) (taken : Taken) (done : Place → Bool) (v : Place) : Type 0 where
  pub due : IsTrue (is_due root taken v)
  pub earlier : (u : Place) → Before root taken u v → IsTrue (done u)

-- a later choice puts nothing new before an event that was reached
abbrev pub AddsNothing : Type 0
AddsNothing =
    (root : Tree) (taken : Taken) (done : Place → Bool) (later : Taken) (v : Place) → IsLater root taken done later → IsReached root taken done v
    → (u : Place) → Before root later u v → Before root taken u v
