-- What is looked for among ranges of bytes (own).
use Rattle.std.specs.Prelude.{◌≡◌, ◌<◌, ◌≤◌, ℕ, Option, Some, None}
use Rattle.std.specs.BTreeMap.{BTreeMap}
use Rattle.ub_base.specs.declared.names.ObjName.{ObjName}
use Rattle.footprint.specs.declared.span.Span.{Span}
use Rattle.footprint.specs.Ranges.{end_at, Held}

-- the range of the object that begins last at or before that byte
pub record IsLast (ends : BTreeMap (ObjName × ℕ) ℕ) (x : ObjName) (i : ℕ) (s : Span) : Type 0 where
  pub own : s.object ≡ x
  pub early : s.from ≤ i
  pub found : end_at ends x s.from ≡ Some s.end
  pub last : (f e : ℕ) → f ≤ i → end_at ends x f ≡ Some e → f ≤ s.from

abbrev pub IsLastUpTo : BTreeMap (ObjName × ℕ) ℕ → ObjName → ℕ → Option Span → Type 0
IsLastUpTo ends x i None = (f : ℕ) → f ≤ i → end_at ends x f ≡ None
IsLastUpTo ends x i (Some s) = IsLast ends x i s

-- the range of the object that begins first at or behind that byte
pub record IsNext (ends : BTreeMap (ObjName × ℕ) ℕ) (x : ObjName) (i : ℕ) (s : Span) : Type 0 where
  pub own : s.object ≡ x
  pub late : i ≤ s.from
  pub found : end_at ends x s.from ≡ Some s.end
  pub first : (f e : ℕ) → i ≤ f → end_at ends x f ≡ Some e → s.from ≤ f

abbrev pub IsFirstFrom : BTreeMap (ObjName × ℕ) ℕ → ObjName → ℕ → Option Span → Type 0
IsFirstFrom ends x i None = (f : ℕ) → i ≤ f → end_at ends x f ≡ None
IsFirstFrom ends x i (Some s) = IsNext ends x i s

-- where the joined range of the bytes from one up to another begins: nothing new lies before them, and no range that begins earlier comes near
pub record IsJoinedStart (ends : BTreeMap (ObjName × ℕ) ℕ) (x : ObjName) (from start : ℕ) : Type 0 where
  pub early : start ≤ from
  pub held : (i : ℕ) → start ≤ i → i < from → Held ends x i
  pub clear : (f e : ℕ) → end_at ends x f ≡ Some e → f < start → e < start

-- where it ends: nothing new lies behind them, and no range that begins up to there goes on
pub record IsJoinedEnd (ends : BTreeMap (ObjName × ℕ) ℕ) (x : ObjName) (to end : ℕ) : Type 0 where
  pub late : to ≤ end
  pub held : (i : ℕ) → to ≤ i → i < end → Held ends x i
  pub clear : (f e : ℕ) → end_at ends x f ≡ Some e → f ≤ end → e ≤ end
