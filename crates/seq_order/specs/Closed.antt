-- What is done along an order: all that comes before a done event is done. Then the canonical order ends only with the
-- last due event.
use Rattle.std.specs.Prelude.{◌≡◌, Bool, true, None}
use Rattle.std.specs.List.{list_all}
use Rattle.c_typed.specs.declared.tree.Place.{Place}
use Rattle.c_typed.specs.Tree.{Tree}
use Rattle.c_typed.specs.Order.{Taken, events}
use Rattle.c_typed.specs.Decide.{due_in, is_before, canonical}

abbrev pub IsClosed : Tree → Taken → (Place → Bool) → Type 0
IsClosed root taken done =
    (u v : Place) → due_in taken 0 root u ≡ true → due_in taken 0 root v ≡ true → is_before taken 0 root u v ≡ true → done v ≡ true → done u ≡ true

abbrev pub EndsOnlyWithDue : Type 0
EndsOnlyWithDue = (root : Tree) (taken : Taken) (done : Place → Bool) → IsClosed root taken done → canonical root taken done ≡ None →
    list_all done (events taken 0 root) ≡ true
