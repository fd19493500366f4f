-- What may be told along the canonical order: what is done is a beginning of the listing of the full expression's events (own).
use Rattle.std.specs.Prelude.{◌≡◌, ◌-◌, ℕ, true, Some, slice_get, length}
use Rattle.c_typed.specs.declared.tree.Place.{Place}
use Rattle.c_typed.specs.Order.{events}
use Rattle.c_typed.specs.Decide.{due_in}
use Rattle.run_evaluations.specs.First.{IsOnce}
use Rattle.run_evaluations.specs.Shows.{OwnAreLast}
use Rattle.run_evaluations.specs.Told.{Evaluation, Opened}

-- what is done is a beginning of the listing, by the operands that are chosen
abbrev pub IsBeginning : Opened → Type 0
IsBeginning t = (i : ℕ) (e : Evaluation) → slice_get t.done i ≡ Some e → slice_get (events t.scope.taken 0 t.scope.tree) i ≡ Some e.place

-- the listing lists this event next
abbrev pub IsListedNext : Opened → Place → Type 0
IsListedNext t u = slice_get (events t.scope.taken 0 t.scope.tree) (length t.done) ≡ Some u

-- an evaluation of this node is the last that is done
abbrev pub EndsWith : Opened → ℕ → Type 0
EndsWith t n = (e : Evaluation) × (slice_get t.done (length t.done - 1) ≡ Some e) × (e.place.node ≡ n)

-- each evaluation is then done once, the next one that is listed is due, and those of the node of the last one are the last two at most
abbrev pub ListingsTell : Type 0
ListingsTell = (t : Opened) → IsBeginning t → IsOnce t ×
    ((u : Place) → IsListedNext t u → due_in t.scope.taken 0 t.scope.tree u ≡ true) × ((n : ℕ) → EndsWith t n → OwnAreLast t n)
