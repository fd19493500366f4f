-- Enumeration constants (6.7.2.2).
use Rattle.std.specs.Prelude.{ℤ, pos, ◌+ℤ◌, Option, Some, None, if◌then◌else◌}
use Rattle.c_types.specs.declared.kind.IntKind.TheVariants.{Int}
use Rattle.c_types.specs.Kinds.{holds}

-- the value: that of its expression, otherwise one more than the one before it; the first has 0 (6.7.2.2p3)
abbrev pub value_behind : Option ℤ → Option ℤ → ℤ
value_behind (Some value) before = value
value_behind None (Some before) = before +ℤ pos 1
value_behind None None = pos 0

-- it is one of `int` (6.7.2.2p2)
abbrev pub enumerator : Option ℤ → Option ℤ → Option ℤ
enumerator value before =
    if holds Int (value_behind value before) then Some (value_behind value before) else None
