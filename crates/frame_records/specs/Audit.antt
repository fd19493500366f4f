-- As long as no call sees a conflict nothing was found, and a conflict that is seen is the first finding (own; 6.5p2 for races).
use Rattle.std.specs.Prelude.{◌≡◌, ◌+◌, ℕ, suc, List, [], ◌∷◌, Option, Some, None}
use Rattle.ub_base.specs.Frames.{Row as FrameRow}
use Rattle.ub_base.specs.declared.names.Item.{Item}
use Rattle.addr_map.specs.declared.map.Row.{Row}
use Rattle.c_typed.specs.declared.tree.Place.{Place}
use Rattle.c_model.specs.FirstFinding.{found_from}
use Rattle.c_model.specs.Runs.{Entry, Outcome, Running, State, canonical_pick, start, step, trace_of}
use Rattle.c_model.specs.Steps.{Begun, Control, Ev, taken_by}
use Rattle.c_model.specs.Values.{Value}
use Rattle.c_model.specs.World.{NumbersFrames, World}
use Rattle.conflict_detector.specs.Telling.{IsBare}
use Rattle.evaluation_log.specs.declared.found.Found.{Found}
use Rattle.finding_laws.specs.Forgotten.{AllAsked}
use Rattle.run_evaluations.specs.Told.{Opened}
use Rattle.detector_laws.specs.Along.{AreClear}
use Rattle.detector_laws.specs.Frames.{IsFormedIn}
use Rattle.detector_laws.specs.Looked.{GoesFree, finding_of, looked_at}
use Rattle.detector_laws.specs.Records.{TellsItems}
use Rattle.detector_laws.specs.Shown.{all_begun}
use Rattle.frame_records.specs.Answers.{Answers}
use Rattle.frame_records.specs.Frames.{AllRecorded}
use Rattle.frame_records.specs.Told.{Steps, TellsOf, completed_at, tells, enters, told_with}

-- what the calls answer that tell of an event: those of what it completes, and none where it starts a frame
abbrev pub AnswersOf : (frames : List FrameRow) (rows : List Row) (world : World) (st next : State) (u : Place) (items : List Item) (os ps : List Opened)
    → TellsOf world st next u items os ps → Option Found → Type 0
AnswersOf frames rows world st next u items os _ (tells f now fs r name all same begins) a =
    Answers frames rows (told_with (taken_by world next.top.scene now) u items r.top) u.node (completed_at world next.top (Some now) u) a
AnswersOf frames rows world st next u items os _ (enters f g e fs r name all other number begins) a = a ≡ None

-- the items that are told are those of the newest entry
abbrev pub TellsNewest : List Item → State → Type 0
TellsNewest items next = (x : Entry) (xs : List Entry) → next.trace ≡ x ∷ xs → TellsItems items x.items

-- Of so many picks of the canonical order was told, and no call saw a conflict: up to so many full expressions are open at the outermost one that is
-- recorded, and this is recorded. Conflicts are those by the rows of the world.
pub data Walks (world : World) (first : State) : ℕ → State → ℕ → List Opened → Type 0 where
  begins : (os : List Opened) → IsBare os → Walks world first 0 first 0 os
  steps : (k : ℕ) (st next : State) (n m : ℕ) (os ps : List Opened) → Walks world first k st n os
      → canonical_pick world st.top st.top.begun ≡ Control → step world st (canonical_pick world st.top st.top.begun) ≡ Running next
      → Steps world st next n os m ps → Walks world first (suc k) next m ps
  tells_of : (k : ℕ) (st next : State) (n : ℕ) (os ps : List Opened) (u : Place) (items : List Item) (frames : List FrameRow) → Walks world first k st n os
      → canonical_pick world st.top st.top.begun ≡ Ev u → step world st (canonical_pick world st.top st.top.begun) ≡ Running next
      → TellsNewest items next → (told : TellsOf world st next u items os ps) → AnswersOf frames world.rows world st next u items os ps told None
      → Walks world first (suc k) next n ps

-- full expressions that begin have nodes with the operands that their operators take
abbrev pub AreFormed : World → State → Type 0
AreFormed world first = (m : ℕ) (st next : State) → GoesFree world first m st
    → step world st (canonical_pick world st.top st.top.begun) ≡ Running next → IsFormedIn next.top.begun

-- behind each pick, be it that the run goes on or ends, each access of the trace stands with the question whether its object lives (6.2.4p2)
abbrev pub AsksAll : World → State → Type 0
AsksAll world first = (m : ℕ) (st : State) (o : Outcome) → GoesFree world first m st → step world st (canonical_pick world st.top st.top.begun) ≡ o
    → AllAsked (trace_of o)

-- as a run starts nothing is open
abbrev pub StartsBare : Type 0
StartsBare = (world : World) (input : List ℕ) (vs : List Value) (st : State) → start world input vs ≡ Running st → all_begun st ≡ []

-- nothing was found then, and all is recorded that is open
abbrev pub AuditGoesFree : Type 0
AuditGoesFree = (world : World) (first st : State) (k n : ℕ) (os : List Opened) → NumbersFrames world.number → AreClear world first → all_begun first ≡ []
    → AreFormed world first → AsksAll world first → Walks world first k st n os → GoesFree world first k st × AllRecorded world st [] n os

-- a conflict that the calls of the next pick see is the first finding
abbrev pub AuditSeesFirst : Type 0
AuditSeesFirst = (world : World) (first st next : State) (k n left : ℕ) (os ps : List Opened) (u : Place) (items : List Item) (frames : List FrameRow)
    (now : Begun) (f : Found) → NumbersFrames world.number → AreClear world first → all_begun first ≡ [] → AreFormed world first
    → AsksAll world first → Walks world first k st n os → canonical_pick world st.top st.top.begun ≡ Ev u
    → step world st (canonical_pick world st.top st.top.begun) ≡ Running next → TellsNewest items next → (told : TellsOf world st next u items os ps)
    → AnswersOf frames world.rows world st next u items os ps told (Some f) → next.top.begun ≡ Some now →
    found_from world (k + suc left) 0 first ≡ finding_of world next.trace (looked_at world next.trace next.top.scene now) (suc k) f
