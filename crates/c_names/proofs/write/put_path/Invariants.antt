use Rattle.std.proofs.Common.{◌≡◌, ◌++◌, ◌-◌, length, drop}
use Rattle.c_names.specs.Texts.{frame_text}
use Rattle.c_names.proofs.write.put_path.Given as goal

-- the steps so far, from `main` on
abbrev pub invariant-loop-i : goal.invariant-loop-i
invariant-loop-i l = l.out.items ≡ l.fn.out.items ++ frame_text (drop (length l.path - l.i) l.path)
