-- What the detector has recorded (own).
use Rattle.std.specs.Borrow.{Bor}
use Rattle.std.specs.Prelude.{◌≡◌, ◌≢◌, ◌⊎◌, ◌<◌, ℕ, true, false, List, [], ◌∷◌, Option, Some, None, slice_get}
use Rattle.ub_base.specs.declared.names.Event.{Event}
use Rattle.ub_base.specs.declared.names.Frame.{Frame}
use Rattle.ub_base.specs.declared.names.Item.{Item}
use Rattle.ub_base.specs.Frames.{Row as FrameRow}
use Rattle.ub_base.specs.declared.clause.Kind.{Kind}
use Rattle.ub_base.specs.declared.clause.Kind.TheVariants.{Body, Eff}
use Rattle.c_typed.specs.declared.tree.Typed.{Typed}
use Rattle.c_typed.specs.Order.{place}
use Rattle.seq_order.specs.Marked.{taken_in}
use Rattle.run_state.specs.declared.watch.Begun.{Begun}
use Rattle.evaluation_log.specs.declared.found.Found.{Found}
use Rattle.evaluation_search.specs.First.{IsFirst}
use Rattle.quiet_trees.specs.Items.{is_noted}
use Rattle.run_evaluations.specs.Scopes.{Scope}
use Rattle.run_evaluations.specs.Told.{Opened, Grows, chosen_by, entered, evaluation, told}
use Rattle.conflict_detector.specs.declared.detector.Detector.{Detector}
use Rattle.conflict_detector.specs.declared.detector.Recording.{Recording}
use Rattle.conflict_detector.specs.declared.detector.Recording.TheVariants.{Closes, Items, Event as Logs, Begins}
use Rattle.conflict_detector.specs.declared.seen.Seen.{Seen}
use Rattle.conflict_detector.specs.Examined.{AreRight, HasRules, IsNumbered, IsQuietRoot}
use Rattle.conflict_detector.specs.Followed.{AreFollowed, AreFollowedBut}
use Rattle.conflict_detector.specs.Shown.{IsLast, IsShown}
use Rattle.conflict_detector.specs.Telling.{AreStarted, IsBare, IsReached, TellsEvent, fresh}

-- nothing is recorded
pub record IsIdle (roots : List (Bor Typed)) (d : Detector) : Type 0 where
  pub known : AreRight roots d.known
  pub none : d.recorded ≡ 0
  pub main : Opened
  pub bare : main.done ≡ []
  pub follows : AreFollowed (main ∷ []) d.open

-- what was told is recorded of these frames, the one on top first, each of which was started by an evaluation of the one below it
pub record IsRecording (roots : List (Bor Typed)) (os : List Opened) (d : Detector) : Type 0 where
  pub known : AreRight roots d.known
  pub some : 0 < d.recorded
  pub started : AreStarted os
  pub follows : AreFollowed os d.open

-- and an event of this node and kind was told last, of this full expression, whose rules are known; a side effect is listed only as its node is complete
pub record IsTelling (roots : List (Bor Typed)) (b : Begun) (os : List Opened) (n : ℕ) (kind : Kind) (d : Detector) : Type 0 where
  pub known : AreRight roots d.known
  pub rules : HasRules d.known b.tree b.root.now
  pub some : 0 < d.recorded
  pub logged : d.logged ≡ true
  pub started : AreStarted os
  pub follows : AreFollowedBut os n kind d.open

-- ---- what an event tells
-- the event may be told of this full expression, whose nodes have chosen by now what the view shows
pub record CanTell (roots : List (Bor Typed)) (b : Begun) (t : Opened) (e : Event) : Type 0 where
  pub grows : Grows t.scope.taken (taken_in b.taken)
  pub shown : IsShown roots b (chosen_by (taken_in b.taken) t)
  pub tells : TellsEvent (chosen_by (taken_in b.taken) t) (place e.node e.kind)

-- whichever frames are left before, and whatever they touched
abbrev pub MayTell : List (Bor Typed) → Begun → List Opened → Event → Type 0
MayTell roots b os e = (fs : List Opened) (r : IsReached e.frame os fs) → CanTell roots b r.top e

-- with these items the event is done of it
abbrev pub done_by : Begun → Event → List Item → Opened → Opened
done_by b e items t = told (evaluation e.node e.kind items) (chosen_by (taken_in b.taken) t)

-- the frames above that of the event were left, and the event was told, which has started a frame unless this one is its own
pub record HasTold (roots : List (Bor Typed)) (b : Begun) (os : List Opened) (e : Event) (items : List Item) (top : Frame) (d : Detector) : Type 0 where
  pub frames : List Opened
  pub reached : IsReached e.frame os frames
  pub stays : top ≡ e.frame → IsTelling roots b (done_by b e items reached.top ∷ reached.below) e.node e.kind d
  pub enters : top ≢ e.frame → e.kind ≢ Eff → IsRecording roots (entered top ∷ done_by b e items reached.top ∷ reached.below) d

-- none of these items is noted
abbrev pub NoneNoted : List Item → Type 0
NoneNoted items = (p : ℕ) (x : Item) → slice_get items p ≡ Some x → is_noted x ≡ false

-- the frames above that of the event were left, and what it touched is kept for the body in which its full expression stands, which is quiet
pub record HasPassed (roots : List (Bor Typed)) (b : Begun) (os : List Opened) (e : Event) (items : List Item) (d : Detector) : Type 0 where
  pub quiet : IsQuietRoot b.root.now
  pub bodiless : e.kind ≢ Body
  pub none : NoneNoted items
  pub frames : List Opened
  pub reached : IsReached e.frame os frames
  pub stays : IsRecording roots frames d

-- a body of a quiet full expression, with which recording began, ends it
pub record HasClosed (roots : List (Bor Typed)) (b : Begun) (e : Event) (d : Detector) : Type 0 where
  pub quiet : IsQuietRoot b.root.now
  pub body : e.kind ≡ Body
  pub idle : IsIdle roots d

-- what becomes of an event where something is recorded
pub data IsFollowed (roots : List (Bor Typed)) (b : Begun) (os : List Opened) (e : Event) (items : List Item) (top : Frame) (d : Detector) : Type 0 where
  is_told : HasTold roots b os e items top d → IsFollowed roots b os e items top d
  is_passed : HasPassed roots b os e items d → IsFollowed roots b os e items top d
  is_closed : HasClosed roots b e d → IsFollowed roots b os e items top d

-- recording begins with this full expression
abbrev pub HasBegun : List (Bor Typed) → Begun → Detector → Type 0
HasBegun roots b d = (s : Scope) → (bottom : List Opened) × IsBare bottom × IsRecording roots (fresh b.frame b.turn s ∷ bottom) d

-- or the full expression is quiet
abbrev pub MayBegin : List (Bor Typed) → Begun → Detector → Type 0
MayBegin roots b d = HasBegun roots b d ⊎ (IsIdle roots d × IsQuietRoot b.root.now)

-- where nothing is recorded, a body or an event without noted items changes nothing, and recording begins with any other event
abbrev pub IsFollowedIdle : List (Bor Typed) → Begun → Event → List Item → Frame → Detector → Type 0
IsFollowedIdle roots b e items top d = (IsIdle roots d × (e.kind ≢ Body → NoneNoted items)) ⊎
    ((s : Scope) → ((bottom : List Opened) → IsBare bottom → MayTell roots b (fresh b.frame b.turn s ∷ bottom) e) →
    (bottom : List Opened) × IsBare bottom × HasTold roots b (fresh b.frame b.turn s ∷ bottom) e items top d)

-- ---- how it is decided
-- the full expression on top is quiet
abbrev pub IsQuietTop : List Begun → Detector → Type 0
IsQuietTop bs d = (roots : List (Bor Typed)) (b : Begun) → AreRight roots d.known → IsLast bs b → IsNumbered roots b.tree b.root.now → IsQuietRoot b.root.now

abbrev pub IsDecided : List Begun → Event → List Item → Detector → Recording → Type 0
IsDecided bs e items d Closes = (0 < d.recorded) × (e.kind ≡ Body) × IsQuietTop bs d
IsDecided bs e items d Items = (0 < d.recorded) × (e.kind ≢ Body) × NoneNoted items × IsQuietTop bs d
IsDecided bs e items d Logs = 0 < d.recorded
IsDecided bs e items d Begins = d.recorded ≡ 0

-- ---- what is seen
-- the first one of these conflicts is seen, or this holds
abbrev pub SeesFirst : List FrameRow → (Found → Type 0) → Type 0 → Option Seen → Type 0
SeesFirst frames Q none None = none
SeesFirst frames Q none (Some s) = IsFirst frames Q s.found

-- the first one of these conflicts is seen
abbrev pub IsSeen : List FrameRow → (Found → Type 0) → Option Seen → Type 0
IsSeen frames Q None = ⊥
IsSeen frames Q (Some s) = IsFirst frames Q s.found
