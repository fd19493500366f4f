-- What reading a name adds to the frames (own).
use Rattle.std.specs.Prelude.{◌≡◌, ◌<◌, ◌≤◌, ◌+◌, ℕ, List, ◌∷◌, ◌++◌, length}
use Rattle.ub_base.specs.declared.names.ObjName.{ObjName}
use Rattle.ub_base.specs.declared.names.ObjName.TheVariants.{Auto, Heap}
use Rattle.ub_base.specs.Frames.{Row, Path, IsFrameList, path_of}

-- the new rows come after the old ones
abbrev pub Extends : List Row → List Row → Type 0
Extends old new = (more : List Row) × (new ≡ old ++ more)

-- the way from `main` to g leads over f, or ends there
abbrev pub LeadsOver : List Row → ℕ → ℕ → Type 0
LeadsOver rows f g = (steps : Path) × (path_of rows g ≡ steps ++ path_of rows f)

-- the frame is there, and each frame that came with it is on its way from `main`
pub record Reaches (old new : List Row) (frame : ℕ) : Type 0 where
  pub kept : Extends old new
  pub there : frame ≤ length new
  pub needed : (f : ℕ) → length old < f → f ≤ length new → LeadsOver new f frame

-- the same of the frame of an object, if it has one
abbrev pub ReachesObject : List Row → List Row → ObjName → Type 0
ReachesObject old new (Auto f turn k) = Reaches old new f.0
ReachesObject old new (Heap f turn node) = Reaches old new f.0
ReachesObject old new _ = new ≡ old

-- the frame of one more step, with at most one new row, that frame's own
pub record IsNext (old new : List Row) (frame : ℕ) (step : ℕ × ℕ) (next : ℕ) : Type 0 where
  pub rows : IsFrameList new
  pub kept : Extends old new
  pub there : next ≤ length new
  pub few : length new ≤ length old + 1
  pub path : path_of new next ≡ step ∷ path_of old frame
  pub own : (f : ℕ) → length old < f → f ≤ length new → f ≡ next
