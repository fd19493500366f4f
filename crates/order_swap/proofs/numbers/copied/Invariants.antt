use Rattle.std.proofs.Common.{◌≡◌, take}
use Rattle.ub_base.specs.Frames.{IsFrameList}
use Rattle.order_swap.proofs.numbers.copied.Given as goal

-- the rows so far
abbrev pub invariant-loop-number : goal.invariant-loop-number
invariant-loop-number l = record {
  rows : IsFrameList l.frames;
  front : l.copy ≡ take l.number l.frames;
}
