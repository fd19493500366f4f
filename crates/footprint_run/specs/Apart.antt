-- How the two evaluations of what is found stand to one another.
use Rattle.std.specs.Prelude.{true, false, List, Option, Some, None}
use Rattle.ub_base.specs.declared.names.Event.{Event}
use Rattle.c_typed.specs.Tree.{Tree}
use Rattle.conflict_detector.specs.Apart.{AreApart}
use Rattle.footprint_run.specs.declared.finding.Finding.{Finding}
use Rattle.footprint_run.specs.declared.finding.Finding.TheVariants.{Clean, Undefined, OrderDependent, OutOfSteps, Outside}
use Rattle.footprint_run.specs.declared.finding.Race.{Race}

abbrev pub RaceApart : List Tree → Event → Option Race → Type 0
RaceApart trees event None = Unit {0}
RaceApart trees event (Some race) = AreApart trees true event race.against

-- the two events of a race or of a dependence on the order
abbrev pub StandsApart : List Tree → Finding → Type 0
StandsApart trees (Clean status picks) = Unit {0}
StandsApart trees (Undefined clause event line race picks) = RaceApart trees event race
StandsApart trees (OrderDependent event line against other items picks) = AreApart trees false event against
StandsApart trees (OutOfSteps picks) = Unit {0}
StandsApart trees (Outside cause number picks) = Unit {0}
