use Rattle.std.proofs.Common.{◌≡◌, map, drop}
use Rattle.static_places.specs.Private.{any_of, function_takes}
use Rattle.static_places.proofs.privacy.functions_take.Given as goal

abbrev pub invariant-loop-function : goal.invariant-loop-function
invariant-loop-function l = any_of (map (function_takes l.slot) (drop l.function-index l.functions)) ≡ any_of (map (function_takes l.slot) l.functions)
