use Rattle.std.proofs.Common.{◌≡◌, ◌<◌, ◌-◌, ◌^◌, min, max, map, drop}
use Rattle.c_typed.specs.Height.{program_height, function_height, greatest}
use Rattle.c_typed.proofs.heights.height.Given as goal

-- what is seen and what is left give the height
abbrev pub invariant-loop-function : goal.invariant-loop-function
invariant-loop-function l =
    (l.most < 2 ^ 32) × (min (max l.most (greatest (map function_height (drop l.function-index l.function-items)))) (2 ^ 32 - 1) ≡ min (program_height l.p)
    (2 ^ 32 - 1))
