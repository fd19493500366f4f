use Rattle.std.proofs.Common.{◌≡◌, ◌≤◌, ◌-◌, length, drop}
use Rattle.ub_base.specs.Frames.{IsFrameList, path_of}
use Rattle.trace_story.proofs.named.reached.Given as goal

-- the last steps so far lead to this frame
abbrev pub invariant-loop-i : goal.invariant-loop-i
invariant-loop-i l = record {
  rows : IsFrameList l.frames;
  there : l.frame.0 ≤ length l.frames;
  path : path_of l.frames l.frame.0 ≡ drop (length l.steps - l.i) l.steps;
}
