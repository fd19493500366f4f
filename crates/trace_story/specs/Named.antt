-- One object in two lists of frames (own).
use Rattle.std.specs.Prelude.{◌≡◌, ◌≢◌, ◌≤◌, ℕ, List, length, Option, Some, None}
use Rattle.ub_base.specs.Frames.{Row, Path, path_of, HasFrame}
use Rattle.ub_base.specs.declared.names.Frame.{Frame}
use Rattle.ub_base.specs.declared.names.ObjName.{ObjName}
use Rattle.c_names.specs.Names.{object_name}

-- the object of that name in the second list, none only where no frame of it has the name's path
abbrev pub IsNamed : List Row → ObjName → List Row → Option ObjName → Type 0
IsNamed given x rows None = (y : ObjName) → HasFrame rows y → object_name rows y ≢ object_name given x
IsNamed given x rows (Some y) = object_name rows y ≡ object_name given x

-- the frame of that path, none only where no frame has it
abbrev pub IsFrameOf : List Row → Path → Option Frame → Type 0
IsFrameOf rows path None = (f : ℕ) → f ≤ length rows → path_of rows f ≢ path
IsFrameOf rows path (Some f) = path_of rows f.0 ≡ path
