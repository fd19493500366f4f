-- The frames of a run, as a list of rows.
use Rattle.std.specs.Prelude.{◌≡◌, ◌≤◌, ◌<◌, ℕ, zero, suc, List, [], ◌∷◌, slice_get, length, ◌^◌, Option, None, Some, ⊤}
use Rattle.ub_base.specs.declared.names.Frame.{Frame}
use Rattle.ub_base.specs.declared.names.ObjName.{ObjName}
use Rattle.ub_base.specs.declared.names.ObjName.TheVariants.{Auto, Heap}

-- a frame that a body started: the frame of that body, its turn and its node (own)
abbrev pub Row : Type 0
Row = Frame × ℕ × ℕ

-- what every list of frames keeps: a frame is started from an earlier one, and no two frames are one (own)
pub record IsFrameList (rows : List Row) : Type 0 where
  pub few : length rows < 2 ^ 32
  pub earlier : (i : ℕ) (row : Row) → slice_get rows i ≡ Some row → row.0.0 ≤ i
  pub distinct : (i j : ℕ) (row : Row) → slice_get rows i ≡ Some row → slice_get rows j ≡ Some row → i ≡ j

-- what a frame is whatever its number: the turns and nodes of the bodies that led to it from `main`, the newest first (own)
abbrev pub Path : Type 0
Path = List (ℕ × ℕ)

-- the row of a frame; `main` has none
abbrev pub row_of : List Row → ℕ → Option Row
row_of rows zero = None
row_of rows (suc i) = slice_get rows i

-- the step that started a frame, before those of the frame where it stands
abbrev pub with_step : Option Row → (ℕ → Path) → Path
with_step None rest = []
with_step (Some row) rest = (row.1, row.2) ∷ rest row.0.0

-- the steps to a frame, at most so many
abbrev pub path_within : ℕ → List Row → ℕ → Path
path_within zero rows frame = []
path_within (suc n) rows frame = with_step (row_of rows frame) (path_within n rows)

-- the path of a frame, which has no more steps than its number, since each frame was started from an earlier one
abbrev pub path_of : List Row → ℕ → Path
path_of rows frame = path_within frame rows frame

-- the frame of an object is one of these
abbrev pub HasFrame : List Row → ObjName → Type 0
HasFrame rows (Auto f turn decl) = f.0 ≤ length rows
HasFrame rows (Heap f turn node) = f.0 ≤ length rows
HasFrame rows _ = ⊤
