use Rattle.std.proofs.Common.{◌≡◌, ◌++◌, drop}
use Rattle.static_seq.specs.Verdicts.{ProgramCounts, verdicts_of, verdicts}
use Rattle.static_seq.proofs.examined.examine.Given as goal

-- the verdicts so far, and those on the functions that are left
abbrev pub invariant-loop-function : goal.invariant-loop-function
invariant-loop-function l =
    ProgramCounts l.p → l.said ++ verdicts_of l.p l.number (drop l.function-index l.function-items) ≡ verdicts l.p
