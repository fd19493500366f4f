-- A numbering of frames.
use Rattle.std.specs.Prelude.{ℕ, suc, ◌+◌, ◌*◌, ◌/◌, [], ◌∷◌}
use Rattle.ub_base.specs.Frames.{Path}

-- a number for each pair of numbers
abbrev pub pair_number : ℕ → ℕ → ℕ
pair_number a b = (a + b) * suc (a + b) / 2 + b

-- a number for each path
abbrev pub frame_number : Path → ℕ
frame_number [] = 0
frame_number (s ∷ f) = suc (pair_number (pair_number s.0 s.1) (frame_number f))
