use Rattle.std.proofs.Common.{◌≡◌, ◌++◌, drop}
use Rattle.trace_story.specs.Texts.{lines_text}
use Rattle.trace_story.proofs.text.put_lines.Given as goal

-- the lines so far and those that are left
abbrev pub invariant-loop-entry : goal.invariant-loop-entry
invariant-loop-entry l = l.out ++ lines_text l.frames (drop l.entry-index l.entries) ≡ l.fn.out ++ lines_text l.frames l.entries
