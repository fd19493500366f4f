use Rattle.std.proofs.Common.{◌≡◌, take, map}
use Rattle.trace_story.specs.Stories.{mark_of, mark_at}
use Rattle.trace_story.proofs.tell.entries_of.Given as goal

abbrev pub invariant-loop-item : goal.invariant-loop-item
invariant-loop-item l = map mark_of l.entries.items ≡ map (mark_at l.pick l.event) (take l.item-index l.told)
