-- How many picks a run took, and how many of them were told.
use Rattle.std.specs.Prelude.{ℕ, ◌-◌}
use Rattle.core_run.specs.declared.watch.Ran.{Ran}
use Rattle.core_run.specs.declared.watch.Ran.TheVariants.{Ended, Raised, Stopped, OutOfSteps, Outside}

abbrev pub picks_of : Ran → ℕ
picks_of (Ended status picks) = picks
picks_of (Raised event line clause picks) = picks
picks_of (Stopped picks) = picks
picks_of (OutOfSteps picks) = picks
picks_of (Outside cause number picks) = picks

-- all but one that raised
abbrev pub told_of : Ran → ℕ
told_of (Ended status picks) = picks
told_of (Raised event line clause picks) = picks - 1
told_of (Stopped picks) = picks
told_of (OutOfSteps picks) = picks
told_of (Outside cause number picks) = picks

abbrev pub IsOutOfSteps : Ran → Type 0
IsOutOfSteps (Ended status picks) = ⊥
IsOutOfSteps (Raised event line clause picks) = ⊥
IsOutOfSteps (Stopped picks) = ⊥
IsOutOfSteps (OutOfSteps picks) = Unit {0}
IsOutOfSteps (Outside cause number picks) = ⊥
