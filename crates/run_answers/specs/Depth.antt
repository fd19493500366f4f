-- How many frames of functions may be open at once (own).
use Rattle.std.specs.Prelude.{◌≡◌, ℕ, ◌+◌, ◌-◌, ◌^◌, ◌<◌, ◌≤◌, min, Result, Ok, Err}
use Rattle.ub_base.specs.declared.clause.Cause.TheVariants.{Depth}
use Rattle.run_answers.specs.declared.outcome.Outcome.{Outcome}
use Rattle.run_answers.specs.declared.outcome.Outcome.TheVariants.{Done, Started, End}
use Rattle.run_answers.specs.declared.fault.Fault.{Fault}
use Rattle.run_answers.specs.declared.fault.Fault.TheVariants.{Raise, Over, Unplaced, NoMemory}

-- a frame starts where fewer than 100,000 are open; otherwise it is one too many, by the number that would be reached
abbrev pub StartsWithin : Result Outcome Fault → ℕ → ℕ → Type 0
StartsWithin (Ok Started) old new = (old < 100000) × (new ≡ old + 1)
StartsWithin (Ok Done) old new = ⊥
StartsWithin (Ok (End status)) old new = ⊥
StartsWithin (Err (Over cause number)) old new = (100000 ≤ old) × (cause ≡ Depth) × (number ≡ min (old + 1) (2 ^ 64 - 1))
StartsWithin (Err NoMemory) old new = Unit {0}
StartsWithin (Err (Raise clause)) old new = ⊥
StartsWithin (Err Unplaced) old new = ⊥
