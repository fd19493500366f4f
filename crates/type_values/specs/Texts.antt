-- The string of an array of characters (6.7.9p14).
use Rattle.std.specs.Prelude.{ℕ, ◌+◌, ◌==◌, nat_le, List, length, take, Option, Some, None, if◌then◌else◌}

-- the bytes that a string, with its closing zero, gives an array of so many characters, or of unknown size: all of them where there
-- is room; without the zero where it alone has no room; none where the string is longer (6.7.9p2, 6.7.9p14)
abbrev pub text_in : List ℕ → Option ℕ → Option (List ℕ)
text_in bytes None = Some bytes
text_in bytes (Some count) =
    if nat_le (length bytes) count then Some bytes
    else if length bytes == count + 1 then Some (take count bytes) else None
