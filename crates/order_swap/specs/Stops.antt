-- What stops an order (own).
use Rattle.std.specs.Prelude.{◌≡◌, ◌+◌, ℕ, Option, Some, None}
use Rattle.order_swap.specs.declared.course.Stop.{Stop}
use Rattle.order_swap.specs.declared.course.Stop.TheVariants.{Ended, Raised, Outside, Unplaced, Budget}

abbrev pub stops_budget : Stop → Type 0
stops_budget (Ended status) = ⊥
stops_budget (Raised clause) = ⊥
stops_budget (Outside cause number) = ⊥
stops_budget Unplaced = ⊥
stops_budget Budget = Unit {0}

-- a stop at the pick after so many
abbrev pub StopsAt : ℕ → Option (Stop × ℕ) → Type 0
StopsAt n None = Unit {0}
StopsAt n (Some s) = (s.1 ≡ n + 1) × (stops_budget s.0 → ⊥)
