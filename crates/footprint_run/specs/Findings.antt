-- What holds of findings.
use Rattle.std.specs.Prelude.{◌≡◌, ℕ, Option, Some, None}
use Rattle.ub_base.specs.declared.clause.Clause.{Clause}
use Rattle.ub_base.specs.declared.clause.Clause.TheVariants.{Unsequenced}
use Rattle.ub_base.specs.declared.names.Event.{Event}
use Rattle.footprint.specs.Conflicts.{MayConflict}
use Rattle.evaluation_log.specs.FoundItems.{IsUnsequencedPair}
use Rattle.footprint_run.specs.declared.finding.Finding.{Finding}
use Rattle.footprint_run.specs.declared.finding.Finding.TheVariants.{Clean, Undefined, OrderDependent, OutOfSteps, Outside}
use Rattle.footprint_run.specs.declared.finding.Race.{Race}
use Rattle.core_run.specs.declared.watch.Ran.{Ran}
use Rattle.core_run.specs.declared.watch.Ran.TheVariants as ran

abbrev pub picks_of : Finding → ℕ
picks_of (Clean status picks) = picks
picks_of (Undefined clause event line race picks) = picks
picks_of (OrderDependent event line against other items picks) = picks
picks_of (OutOfSteps picks) = picks
picks_of (Outside cause number picks) = picks

abbrev pub IsOutOfSteps : Finding → Type 0
IsOutOfSteps (Clean status picks) = ⊥
IsOutOfSteps (Undefined clause event line race picks) = ⊥
IsOutOfSteps (OrderDependent event line against other items picks) = ⊥
IsOutOfSteps (OutOfSteps picks) = Unit {0}
IsOutOfSteps (Outside cause number picks) = ⊥

-- a race is undefined by 6.5p2, its two items conflict, and they are accesses by events of which neither is a body
abbrev pub IsRace : Clause → Event → Option Race → Type 0
IsRace clause event None = Unit {0}
IsRace clause event (Some race) = (clause ≡ Unsequenced) × MayConflict race.items.0 race.items.1 × IsUnsequencedPair event race.against race.items

-- the two items of a race or of a dependence on the order conflict, wherever the objects stand that they name
abbrev pub ItemsConflict : Finding → Type 0
ItemsConflict (Clean status picks) = Unit {0}
ItemsConflict (Undefined clause event line race picks) = IsRace clause event race
ItemsConflict (OrderDependent event line against other items picks) = MayConflict items.0 items.1
ItemsConflict (OutOfSteps picks) = Unit {0}
ItemsConflict (Outside cause number picks) = Unit {0}

-- a race, or a dependence on the order
abbrev pub IsConflict : Finding → Type 0
IsConflict (Clean status picks) = ⊥
IsConflict (Undefined clause event line None picks) = ⊥
IsConflict (Undefined clause event line (Some race) picks) = Unit {0}
IsConflict (OrderDependent event line against other items picks) = Unit {0}
IsConflict (OutOfSteps picks) = ⊥
IsConflict (Outside cause number picks) = ⊥

-- what is found where a run ended so: what ended it, with its values; a race or a dependence on the order, at its pick, where the watch stopped it
abbrev pub Tells : Ran → Finding → Type 0
Tells (ran.Ended status picks) f = f ≡ Clean status picks
Tells (ran.Raised event line clause picks) f = f ≡ Undefined clause event line None picks
Tells (ran.Stopped picks) f = IsConflict f × (picks_of f ≡ picks)
Tells (ran.OutOfSteps picks) f = f ≡ OutOfSteps picks
Tells (ran.Outside cause number picks) f = f ≡ Outside cause number picks
