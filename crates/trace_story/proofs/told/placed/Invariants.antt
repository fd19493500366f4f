use Rattle.std.proofs.Common.{◌≡◌, ◌++◌, drop}
use Rattle.trace_story.specs.Told.{placed, left}
use Rattle.trace_story.proofs.told.placed.Given as goal

-- what is passed and what is left make the whole
abbrev pub invariant-loop-next : goal.invariant-loop-next
invariant-loop-next l = l.out.items ++ left l.frames l.waiting (drop l.next-index l.told) ≡ placed l.frames l.fn.item l.told
