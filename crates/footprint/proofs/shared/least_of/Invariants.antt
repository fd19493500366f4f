use Rattle.std.proofs.Common.{◌≡◌, ◌⊎◌, true, ℕ, IfSome}
use Rattle.ub_base.specs.declared.names.ObjName.{ObjName}
use Rattle.footprint.specs.Ranges.{has_byte}
use Rattle.footprint.specs.Least.{Reaches}
use Rattle.footprint.proofs.shared.least_of.Given as goal

abbrev pub invariant-loop-key : goal.invariant-loop-key
invariant-loop-key l = record {
  shared : IfSome l.best (λ b. (has_byte l.few.ends.entries b.object b.at ≡ true) × (has_byte l.many.ends.entries b.object b.at ≡ true));
  left : (x : ObjName) (i : ℕ) → has_byte l.few.ends.entries x i ≡ true → has_byte l.many.ends.entries x i ≡ true →
      (has_byte l.key-iterator x i ≡ true) ⊎ Reaches l.frames l.best x i;
  part : (x : ObjName) (i : ℕ) → has_byte l.key-iterator x i ≡ true → has_byte l.few.ends.entries x i ≡ true;
}
