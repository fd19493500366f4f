-- Counts that a watch may keep.
use Rattle.std.specs.Prelude.{ℕ, ◌+◌, Option, Some, None}

-- so many more, where there is a count
abbrev pub more : ℕ → Option ℕ → Option ℕ
more k None = None
more k (Some n) = Some (n + k)
