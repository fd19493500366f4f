-- The number of a frame by the bodies that led to it, in a list of the frames of a run (own).
use Rattle.std.specs.Prelude.{◌≡◌, ◌≤◌, ◌+◌, ◌==◌, ℕ, suc, Bool, ◌&&◌, if◌then◌else◌, List, [], ◌∷◌, ◌++◌, length, slice_get, Option, Some, None, option_map}
use Rattle.ub_base.specs.Frames.{Row, Path, IsFrameList, path_of}
use Rattle.c_model.specs.Numbering.{frame_number}
use Rattle.c_model.specs.World.{NumbersFrames}

-- the row is that of this frame, turn and node
abbrev pub is_row : Row → (frame turn node : ℕ) → Bool
is_row r frame turn node = (r.0.0 == frame) && ((r.1 == turn) && (r.2 == node))

-- where the first such row stands
abbrev pub place_in : List Row → (frame turn node : ℕ) → Option ℕ
place_in [] frame turn node = None
place_in (r ∷ rs) frame turn node = if is_row r frame turn node then Some 0 else option_map suc (place_in rs frame turn node)

-- the frame that a body started, in a frame of this number, has the number behind that of its row
abbrev pub started_in : List Row → (step : ℕ × ℕ) → Option ℕ → Option ℕ
started_in rows s None = None
started_in rows s (Some frame) = option_map suc (place_in rows frame s.0 s.1)

-- the number of a frame that is listed; `main` has 0
abbrev pub number_in : List Row → Path → Option ℕ
number_in rows [] = Some 0
number_in rows (s ∷ f) = started_in rows s (number_in rows f)

-- others have numbers of their own behind those
abbrev pub number_else : List Row → Path → Option ℕ → ℕ
number_else rows f None = suc (length rows) + frame_number f
number_else rows f (Some n) = n

abbrev pub number_by : List Row → Path → ℕ
number_by rows f = number_else rows f (number_in rows f)

-- 1. Numbers stay as the list grows.
abbrev pub NumbersStay : Type 0
NumbersStay = (rows more : List Row) (f : Path) (n : ℕ) → number_in rows f ≡ Some n → number_in (rows ++ more) f ≡ Some n

-- 2. A frame that is started in a frame that is listed has the number of its row.
abbrev pub StartedIsNumbered : Type 0
StartedIsNumbered = (rows : List Row) (i : ℕ) (r : Row) (f : Path) → IsFrameList rows → slice_get rows i ≡ Some r → number_in rows f ≡ Some r.0.0
    → number_in rows ((r.1, r.2) ∷ f) ≡ Some (suc i)

-- 3. Numbers are those of rows.
abbrev pub NumbersAreWithin : Type 0
NumbersAreWithin = (rows : List Row) (f : Path) (n : ℕ) → number_in rows f ≡ Some n → n ≤ length rows

-- 4. No two paths have one number, and `main` has 0.
abbrev pub ListNumbersFrames : Type 0
ListNumbersFrames = (rows : List Row) → NumbersFrames (number_by rows)

-- 5. The path of each frame of the list has its number.
abbrev pub PathIsNumbered : Type 0
PathIsNumbered = (rows : List Row) (n : ℕ) → IsFrameList rows → n ≤ length rows → number_in rows (path_of rows n) ≡ Some n
