use Rattle.std.proofs.Common.{◌≡◌, ◌≤◌, ◌+◌, length, take, reverse}
use Rattle.ub_base.specs.Frames.{IsFrameList, path_of}
use Rattle.c_names.specs.Ways.{Reaches}
use Rattle.c_names.proofs.ways.entered.Given as goal

-- the steps so far lead to this frame, and what is new is on its way
abbrev pub invariant-loop-step : goal.invariant-loop-step
invariant-loop-step l = record {
  rows : IsFrameList l.frames;
  path : path_of l.frames l.frame.0 ≡ reverse (take l.step-index l.steps);
  reached : Reaches l.initial.frames l.frames l.frame.0;
  few : length l.frames ≤ length l.initial.frames + l.step-index;
}
