-- Which conflicts newly show as a node is complete, and which have both sides where the run ends (own; 6.5p2 for races).
use Rattle.std.specs.Borrow.{Bor}
use Rattle.std.specs.Prelude.{◌≡◌, ◌⊎◌, ◌≤◌, ◌+◌, ◌-◌, ℕ, zero, suc, Bool, true, false, List, [], ◌∷◌, Option, Some, None, slice_get, length}
use Rattle.ub_base.specs.Frames.{Row as FrameRow}
use Rattle.ub_base.specs.declared.names.Item.{Item}
use Rattle.ub_base.specs.declared.names.Event.{Event}
use Rattle.addr_map.specs.declared.map.Row.{Row}
use Rattle.c_typed.specs.declared.tree.Typed.{Typed}
use Rattle.c_typed.specs.Decide.{due_in}
use Rattle.run_state.specs.declared.watch.Begun.{Begun}
use Rattle.evaluation_log.specs.Sides.{last_in}
use Rattle.evaluation_log.specs.declared.found.Found.{Found}
use Rattle.run_evaluations.specs.First.{AreOfNode, AreOfOperands, IsConflictIn, IsOnce}
use Rattle.run_evaluations.specs.FirstAtEnd.{IsConflictAtEnd}
use Rattle.run_evaluations.specs.Listing.{IsBeginning}
use Rattle.run_evaluations.specs.Shows.{EndsTop, IsAmong, IsStill}
use Rattle.run_evaluations.specs.Told.{Evaluation, Opened, given}
use Rattle.conflict_detector.specs.declared.seen.Seen.{Seen}
use Rattle.conflict_detector.specs.Examined.{IsQuietRoot}
use Rattle.conflict_detector.specs.Recorded.{SeesFirst, done_by}
use Rattle.conflict_detector.specs.Shown.{IsShown}
use Rattle.conflict_detector.specs.Telling.{IsReached, TellsAt}

-- each evaluation that is done is due, and is done once
pub record AreDone (t : Opened) : Type 0 where
  pub due : (e : Evaluation) → IsAmong t e → due_in t.scope.taken 0 t.scope.tree e.place ≡ true
  pub once : IsOnce t

-- so it is where what is done is a beginning of the listing
abbrev pub BeginningsDone : Type 0
BeginningsDone = (t : Opened) → IsBeginning t → AreDone t

-- ---- a node
-- the node above, if no operand of it behind this one has a value: then its operands are complete with this one
abbrev pub above_of : Opened → ℕ → Option ℕ
above_of t n = last_in 0 t.scope.tree n

-- of that node may be told then, and what is done of it doesn't stand together yet
abbrev pub MayGather : Opened → Option ℕ → Type 0
MayGather t None = Unit {0}
MayGather t (Some m) = TellsAt t m × (t.parts m ≡ false)

-- the conflict is of two of its operands
abbrev pub IsConflictAbove : List FrameRow → List Row → Opened → Option ℕ → Found → Type 0
IsConflictAbove frames rows t None f = ⊥
IsConflictAbove frames rows t (Some m) f = IsConflictIn frames rows t (AreOfOperands t m) f

-- it is of the node and of what stands below, or of two operands of the node above that are complete with it
abbrev pub IsConflictDone : List FrameRow → List Row → Opened → ℕ → Found → Type 0
IsConflictDone frames rows t n f = IsConflictIn frames rows t (AreOfNode t n) f ⊎ IsConflictAbove frames rows t (above_of t n) f

-- ---- where the run ends
-- the run may end in the body that was told last of this full expression, or in a frame that it started
pub record CanEnd (t : Opened) : Type 0 where
  pub last : Evaluation
  pub top : EndsTop t last
  pub still : IsStill t.scope
  pub done : AreDone t

-- the full expression at this place is that of the frame, in which the run may end
pub record EndsShown (roots : List (Bor Typed)) (bs : List Begun) (at : ℕ) (t : Opened) : Type 0 where
  pub begun : Begun
  pub there : slice_get bs at ≡ Some begun
  pub shown : IsShown roots begun t
  pub can : CanEnd t

-- so it is of so many of the first of these frames, of which the last one's full expression stands at this place
abbrev pub AllEnd : List (Bor Typed) → List Begun → (from count : ℕ) → List Opened → Type 0
AllEnd roots bs from zero ts = Unit {0}
AllEnd roots bs from (suc k) [] = ⊥
AllEnd roots bs from (suc k) (t ∷ ts) = EndsShown roots bs (from + k) t × AllEnd roots bs from k ts

-- each of these frames, but the first, has been given what the frame above it touched, as that one was left
pub data AreEnded : List Opened → List Opened → Type 0 where
  one : (t : Opened) (ts : List Opened) → AreEnded (t ∷ ts) (t ∷ [])
  more : (t u : Opened) (us es : List Opened) (body : Item → Bool) → AreEnded (given body u ∷ us) es → AreEnded (t ∷ u ∷ us) (t ∷ es)

-- the conflict has both sides in this full expression, where the evaluation that was told last ends the run
abbrev pub IsConflictAtTop : List FrameRow → List Row → Opened → Found → Type 0
IsConflictAtTop frames rows t f =
    (last : Evaluation) × (slice_get t.done (length t.done - 1) ≡ Some last) × IsConflictAtEnd frames rows t last f

-- in one of these
abbrev pub IsConflictOfAll : List FrameRow → List Row → List Opened → Found → Type 0
IsConflictOfAll frames rows [] f = ⊥
IsConflictOfAll frames rows (t ∷ ts) f = IsConflictAtTop frames rows t f ⊎ IsConflictOfAll frames rows ts f

abbrev pub NoneOfAll : List FrameRow → List Row → List Opened → Type 0
NoneOfAll frames rows ts = (f : Found) → IsConflictOfAll frames rows ts f → ⊥

-- the first conflict of all frames up to the outermost one that is recorded is seen, and none only where there is none; there are so many of them
pub record SeesEnd (frames : List FrameRow) (rows : List Row) (count : ℕ) (os : List Opened) (seen : Option Seen) : Type 0 where
  pub ended : List Opened
  pub are : AreEnded os ended
  pub all : length ended ≡ count
  pub first : SeesFirst frames (IsConflictOfAll frames rows ended) (NoneOfAll frames rows ended) seen

-- the event may end the run, whichever frames are left before, and whatever they touched; so many full expressions are open up to the outermost one
-- that is recorded
abbrev pub MayEnd : List (Bor Typed) → List Begun → ℕ → Begun → List Opened → Event → List Item → Type 0
MayEnd roots bs recorded b os e items = (recorded ≤ length bs) × ((fs : List Opened) (r : IsReached e.frame os fs) →
    AllEnd roots bs (recorded - 1) (length bs - (recorded - 1)) (done_by b e items r.top ∷ r.below))

-- the frames above that of the event are left, the event is told, and the first conflict is seen of those of all frames
pub record EndsTold (frames : List FrameRow) (rows : List Row) (count : ℕ) (b : Begun) (os : List Opened) (e : Event) (items : List Item)
    (seen : Option Seen) : Type 0 where
  pub left : List Opened
  pub reached : IsReached e.frame os left
  pub sees : SeesEnd frames rows count (done_by b e items reached.top ∷ reached.below) seen

-- where the outermost full expression that is recorded is on top, and quiet, nothing is seen
abbrev pub IsEnded : List FrameRow → List Row → ℕ → Begun → List Opened → Event → List Item → Option Seen → Type 0
IsEnded frames rows count b os e items seen = (IsQuietRoot b.root.now × (seen ≡ None)) ⊎ EndsTold frames rows count b os e items seen
