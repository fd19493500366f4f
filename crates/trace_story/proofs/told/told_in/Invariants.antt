use Rattle.std.proofs.Common.{◌≡◌, drop}
use Rattle.trace_story.specs.Told.{told_in, told_with}
use Rattle.trace_story.proofs.told.told_in.Given as goal

-- what is told so far, with what the rest tells
abbrev pub invariant-loop-item : goal.invariant-loop-item
invariant-loop-item l = told_with l.frames l.sought l.told.items (drop l.item-index l.items) ≡ told_in l.frames l.sought l.items
