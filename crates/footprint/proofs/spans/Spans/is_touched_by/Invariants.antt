use Rattle.std.proofs.Common.{◌≡◌, true, ℕ}
use Rattle.ub_base.specs.declared.names.ObjName.{ObjName}
use Rattle.footprint.specs.Ranges.{has_byte}
use Rattle.footprint.proofs.spans.Spans.is_touched_by.Given as goal

abbrev pub invariant-loop-key : goal.invariant-loop-key
invariant-loop-key l = record {
  left : (x : ObjName) (i : ℕ) → has_byte l.self.ends.entries x i ≡ true → has_byte l.other.ends.entries x i ≡ true → has_byte l.key-iterator x i ≡ true;
  part : (x : ObjName) (i : ℕ) → has_byte l.key-iterator x i ≡ true → has_byte l.self.ends.entries x i ≡ true;
}
