-- What one pick adds to the counts of a run.
use Rattle.std.specs.Prelude.{◌≡◌, ℕ, ◌+◌, List, [], ◌∷◌, ◌++◌, Option, ◌⊎◌}
use Rattle.ub_base.specs.Frames.{Row}
use Rattle.run_answers.specs.declared.pick.Pick.{Pick}
use Rattle.run_answers.specs.declared.pick.Pick.TheVariants.{Step, Starts, Event}
use Rattle.core_run.specs.Calls.{Heard, GoesOn, AnswersEnd, row_by}
use Rattle.core_run.specs.declared.watch.Ran.{Ran}
use Rattle.core_run.specs.declared.watch.Ran.TheVariants.{Ended, Raised, Stopped, OutOfSteps, Outside}
use Rattle.core_run.specs.declared.canonical.Next.{Next}
use Rattle.core_run.specs.declared.canonical.Next.TheVariants.{On, End}

-- the picks that are told
abbrev pub told_at_end : Ran → ℕ
told_at_end (Ended status picks) = 1
told_at_end (Raised event line clause picks) = 0
told_at_end (Stopped picks) = 1
told_at_end (OutOfSteps picks) = 0
told_at_end (Outside cause number picks) = 0

abbrev pub told_by : Next → ℕ
told_by On = 1
told_by (End ran) = told_at_end ran

-- the picks that are taken
abbrev pub taken_at_end : Ran → ℕ
taken_at_end (Ended status picks) = 1
taken_at_end (Raised event line clause picks) = 1
taken_at_end (Stopped picks) = 1
taken_at_end (OutOfSteps picks) = 0
taken_at_end (Outside cause number picks) = 0

abbrev pub taken_by : Next → ℕ
taken_by On = 1
taken_by (End ran) = taken_at_end ran

-- an end after so many picks and this one
abbrev pub EndsRun : Ran → ℕ → Type 0
EndsRun (Ended status picks) n = picks ≡ n + 1
EndsRun (Raised event line clause picks) n = picks ≡ n + 1
EndsRun (Stopped picks) n = picks ≡ n + 1
EndsRun (OutOfSteps picks) n = ⊥
EndsRun (Outside cause number picks) n = picks ≡ n

abbrev pub EndsAfter : Next → ℕ → Type 0
EndsAfter On n = Unit {0}
EndsAfter (End ran) n = EndsRun ran n

abbrev pub AnswersNext : Next → Option Heard → Type 0
AnswersNext On heard = GoesOn heard
AnswersNext (End ran) heard = AnswersEnd ran heard

-- no watch has stopped it
abbrev pub IsUnstopped : Ran → Type 0
IsUnstopped (Ended status picks) = Unit {0}
IsUnstopped (Raised event line clause picks) = Unit {0}
IsUnstopped (Stopped picks) = ⊥
IsUnstopped (OutOfSteps picks) = Unit {0}
IsUnstopped (Outside cause number picks) = Unit {0}

abbrev pub GoesUnstopped : Next → Type 0
GoesUnstopped On = Unit {0}
GoesUnstopped (End ran) = IsUnstopped ran

-- a body that starts a frame adds its row, where it isn't there yet
abbrev pub Grows : Pick → List Row → List Row → Type 0
Grows (Step status) old new = new ≡ old
Grows (Starts e) old new = (new ≡ old) ⊎ (new ≡ old ++ row_by e ∷ [])
Grows (Event e completed status) old new = new ≡ old
