-- Columns and carets.
use Rattle.std.specs.Prelude.{ℕ, ◌+◌, ◌*◌, ◌/◌, ◌&&◌, ◌==◌, nat_le, nat_lt, if◌then◌else◌}
use Rattle.explain_page.specs.declared.page.Stretch.{Stretch}

-- the column behind a byte, from 0: a tab goes to the next multiple of 8 (own)
abbrev pub column_behind : ℕ → ℕ → ℕ
column_behind column byte = if byte == 9 then 8 * (column / 8 + 1) else column + 1

-- what stands under the byte at an offset: nothing before a stretch, `^` under its operator, `~` under the rest (own)
abbrev pub caret_under : Stretch → ℕ → ℕ
caret_under stretch at =
    if nat_lt at stretch.start then 32
    else if nat_le stretch.operator at && nat_lt at stretch.operator_end then 94
    else 126
