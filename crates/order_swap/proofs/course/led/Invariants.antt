use Rattle.std.proofs.Common.{◌≡◌}
use Rattle.order_swap.specs.Trails.{all_noted}
use Rattle.order_swap.proofs.course.led.Given as goal

-- the guide was told what was taken so far
abbrev pub invariant-loop-picks : goal.invariant-loop-picks
invariant-loop-picks g l = record {
  told : g.G.Guide.heard l.guide ≡ all_noted l.trail (g.G.Guide.heard l.initial.guide);
  given : g.G.Guide.given l.guide ≡ g.G.Guide.given l.initial.guide;
}
