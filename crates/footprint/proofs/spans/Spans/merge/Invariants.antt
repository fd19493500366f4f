use Rattle.std.proofs.Common.{◌≡◌, ◌||◌, ℕ}
use Rattle.ub_base.specs.declared.names.ObjName.{ObjName}
use Rattle.footprint.specs.Ranges.{has_byte}
use Rattle.footprint.proofs.spans.Spans.merge.Given as goal

abbrev pub invariant-loop-key : goal.invariant-loop-key
invariant-loop-key l = record {
  whole : (x : ObjName) (i : ℕ) → (has_byte l.self.ends.entries x i || has_byte l.key-iterator x i)
      ≡ (has_byte l.fn.self.ends.entries x i || has_byte l.other.ends.entries x i);
  grown : (x : ObjName) (i : ℕ) → (has_byte l.fn.self.ends.entries x i || has_byte l.self.ends.entries x i) ≡ has_byte l.self.ends.entries x i;
}
