-- How orders end (own).
use Rattle.order_swap.specs.declared.end.End.{End}
use Rattle.order_swap.specs.declared.end.End.TheVariants.{Ended, Raised, OutOfSteps, Outside, Unplaced}

abbrev pub IsOutOfSteps : End → Type 0
IsOutOfSteps (Ended status output errors) = ⊥
IsOutOfSteps (Raised clause) = ⊥
IsOutOfSteps OutOfSteps = Unit {0}
IsOutOfSteps (Outside cause number) = ⊥
IsOutOfSteps Unplaced = ⊥
