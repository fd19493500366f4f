use Rattle.std.proofs.Common.{◌≡◌, ◌<◌, ◌-◌, ◌^◌, min, max, map, drop}
use Rattle.c_typed.specs.Height.{block_height, entry_height, greatest}
use Rattle.c_typed.proofs.heights.+body_height.Given as goal

-- what is seen and what is left give the height
abbrev pub invariant-block_height-loop-entry : goal.invariant-block_height-loop-entry
invariant-block_height-loop-entry l =
    (l.most < 2 ^ 32) × (min (max l.most (greatest (map entry_height (drop l.entry-index l.entry-items)))) (2 ^ 32 - 1) ≡ min (block_height l.block)
    (2 ^ 32 - 1))
