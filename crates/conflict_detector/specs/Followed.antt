-- The frames that are recorded are as was told (own).
use Rattle.std.specs.Prelude.{◌≡◌, ◌≢◌, ℕ, List, [], ◌∷◌, ◌++◌}
use Rattle.ub_base.specs.declared.clause.Kind.{Kind}
use Rattle.ub_base.specs.declared.clause.Kind.TheVariants.{Eff}
use Rattle.ub_base.specs.declared.names.Frame.{Frame}
use Rattle.run_evaluations.specs.Follows.{Follows, FollowsBelow, FollowsBut}
use Rattle.run_evaluations.specs.Told.{Opened}
use Rattle.conflict_detector.specs.declared.frames.RecordedFrames.{RecordedFrames}

-- the names of the frames, that of the one on top last
abbrev pub names_of : List Opened → List Frame
names_of [] = []
names_of (t ∷ ts) = names_of ts ++ (t.frame ∷ [])

pub record AreFollowed (os : List Opened) (r : RecordedFrames) : Type 0 where
  pub follows : Follows os r.open
  pub names : r.names.items ≡ names_of os

-- an event of this node and kind was told last; a side effect is listed only as its node is complete
pub record AreFollowedBut (os : List Opened) (n : ℕ) (kind : Kind) (r : RecordedFrames) : Type 0 where
  pub but : FollowsBut os n r.open
  pub now : kind ≢ Eff → Follows os r.open
  pub names : r.names.items ≡ names_of os

-- the frames below the one on top are as was told, and that one is open still
pub record AreFollowedBelow (t : Opened) (ts : List Opened) (r : RecordedFrames) : Type 0 where
  pub below : FollowsBelow ts r.open
  pub names : r.names.items ≡ names_of (t ∷ ts)
