-- What a watch answers, and what it has seen where a run ended.
use Rattle.std.specs.Prelude.{◌≡◌, List, Option, IsSome}
use Rattle.c_typed.specs.Tree.{Tree}
use Rattle.core_run.specs.declared.watch.Go.{Go}
use Rattle.core_run.specs.declared.watch.Go.TheVariants.{On, Stop}
use Rattle.core_run.specs.declared.watch.Ran.{Ran}
use Rattle.core_run.specs.declared.watch.Ran.TheVariants as ran
use Rattle.conflict_detector.specs.Apart.{SeenApart}
use Rattle.conflict_detector.specs.declared.seen.Seen.{Seen}

-- a call goes on where it has seen nothing more, and stops where it has seen a conflict whose two evaluations stand apart
abbrev pub Sees : List Tree → Option Seen → Option Seen → Go → Type 0
Sees trees before after On = after ≡ before
Sees trees before after Stop = IsSome after × SeenApart trees after

-- a run that the watch stopped has seen a conflict
abbrev pub HasSeen : Ran → Option Seen → Type 0
HasSeen (ran.Ended status picks) seen = Unit {0}
HasSeen (ran.Raised event line clause picks) seen = Unit {0}
HasSeen (ran.Stopped picks) seen = IsSome seen
HasSeen (ran.OutOfSteps picks) seen = Unit {0}
HasSeen (ran.Outside cause number picks) seen = Unit {0}
