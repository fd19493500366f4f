-- What was told of an open full expression is what the definitions have of it (own).
use Rattle.std.specs.Prelude.{◌≡◌, ℕ, Bool, true, List, [], ◌∷◌, ◌++◌, Option, length}
use Rattle.ub_base.specs.declared.clause.Kind.TheVariants.{Body}
use Rattle.ub_base.specs.declared.names.Item.{Item}
use Rattle.ub_base.specs.Frames.{Row as FrameRow}
use Rattle.c_typed.specs.declared.tree.Place.{Place}
use Rattle.c_typed.specs.Order.{has, is_body}
use Rattle.c_model.specs.Findings.{is_under, items_under}
use Rattle.c_model.specs.Moments.{items_by}
use Rattle.c_model.specs.Program.{tree_of}
use Rattle.c_model.specs.Runs.{Entry}
use Rattle.c_model.specs.Steps.{Begun, Local, Scene, taken_by, with_given}
use Rattle.c_model.specs.World.{World}
use Rattle.evaluation_log.specs.Touched.{touched}
use Rattle.evaluation_log.specs.declared.found.Found.{Found}
use Rattle.evaluation_search.specs.First.{IsFirstOf}
use Rattle.finding_laws.specs.Forgotten.{AllAsked, HasItemsBut, HasItemsOf}
use Rattle.finding_laws.specs.LeastPairs.{HasItems}
use Rattle.run_evaluations.specs.First.{IsConflictIn}
use Rattle.run_evaluations.specs.Shows.{IsAmong}
use Rattle.run_evaluations.specs.Told.{Evaluation, Opened, begun, chosen_by, evaluation, gathered, given, told, has as has_item}
use Rattle.telling_laws.specs.FirstFound.{ByPlaces, IsFoundIn, ToldPairs}
use Rattle.telling_laws.specs.Newly.{completed_with}
use Rattle.telling_laws.specs.Standing.{StandsBehind, StandsTold, places}
use Rattle.detector_laws.specs.Bare.{IsBareStore}
use Rattle.detector_laws.specs.Looked.{looked_at, scope_of}
use Rattle.detector_laws.specs.Frames.{IsEntryOf, StandsFree, TakesEvent}

-- ---- one full expression
-- These events of it were told, with the tree and the choices that it has by the definitions; each of those that are closed has its items, as the trace has
-- them, a body all but forgotten accesses of objects of which it has the birth and the death. One that isn't closed is the body for which the frame waits.
pub record Records (world : World) (trace : List Entry) (f : Scene) (e : Begun) (closed done : List Place) (t : Opened) : Type 0 where
  pub frame : t.frame.0 ≡ world.number f.path
  pub turn : t.turn ≡ f.turn
  pub tree : t.scope.tree ≡ tree_of e.root
  pub taken : t.scope.taken ≡ taken_by world f e
  pub places : places t.done ≡ done
  pub items : (d : Evaluation) → IsAmong t d → has closed d.place ≡ true →
      HasItemsOf (is_body d.place.kind) (has_item d) (items_by trace trace f.path f.turn d.place)

-- the items that were told of an entry are its own, byte by byte
abbrev pub TellsItems : (told own : List Item) → Type 0
TellsItems told own = HasItems (touched told 0 (length told)) own

-- ---- what is told
-- a full expression begins
abbrev pub BeginsRecorded : Type 0
BeginsRecorded = (world : World) (trace : List Entry) (f : Scene) (e : Begun) (t : Opened) → t.frame.0 ≡ world.number f.path
    → Records world trace f e [] [] (begun f.turn (scope_of world f e) t) × StandsTold (begun f.turn (scope_of world f e) t)

-- an event of it, that stays in its frame: no frame was started by it, so the trace has nothing of one
abbrev pub TellsRecorded : Type 0
TellsRecorded = (world : World) (trace : List Entry) (x : Entry) (f : Scene) (e : Begun) (u : Place) (top : Local) (t : Opened) (items : List Item)
    → (took : TakesEvent world trace (x ∷ trace) f e u top) → IsEntryOf f u x → TellsItems items x.items
    → (u.kind ≡ Body → items_under ((f.turn, u.node) ∷ f.path) trace ≡ []) → Records world trace f e took.passed took.passed t → StandsTold t →
    Records world (x ∷ trace) f (with_given e u took.value) (took.passed ++ u ∷ []) (took.passed ++ u ∷ [])
    (told (evaluation u.node u.kind items) (chosen_by (taken_by world f (with_given e u took.value)) t)) ×
    StandsBehind (told (evaluation u.node u.kind items) (chosen_by (taken_by world f (with_given e u took.value)) t)) (evaluation u.node u.kind items)

-- a body that starts a frame
abbrev pub StartsRecorded : Type 0
StartsRecorded = (world : World) (trace : List Entry) (x : Entry) (f : Scene) (e : Begun) (u : Place) (passed ahead : List Place) (t : Opened)
    (items : List Item) → StandsFree world trace f e passed (u ∷ ahead) → IsEntryOf f u x → Records world trace f e passed passed t → StandsTold t →
    Records world (x ∷ trace) f e passed (passed ++ u ∷ []) (told (evaluation u.node u.kind items) (chosen_by (taken_by world f e) t)) ×
    StandsBehind (told (evaluation u.node u.kind items) (chosen_by (taken_by world f e) t)) (evaluation u.node u.kind items)

-- a pick of a frame above changes nothing of it
abbrev pub StaysRecorded : Type 0
StaysRecorded = (world : World) (trace : List Entry) (x : Entry) (f : Scene) (e : Begun) (u : Place) (passed ahead : List Place) (t : Opened) → u.kind ≡ Body
    → StandsFree world trace f e passed (u ∷ ahead) → is_under x.path ((f.turn, u.node) ∷ f.path) ≡ true
    → Records world trace f e passed (passed ++ u ∷ []) t → Records world (x ∷ trace) f e passed (passed ++ u ∷ []) t

-- the frame ends, and what it touched is given to the body that started it: all that the trace has of the body, but for forgotten accesses
abbrev pub EndsRecorded : Type 0
EndsRecorded = (world : World) (trace later : List Entry) (f : Scene) (e : Begun) (u : Place) (top : Local) (t : Opened) (last : Evaluation)
    (body : Item → Bool) → u.kind ≡ Body → (took : TakesEvent world trace later f e u top)
    → Records world later f e took.passed (took.passed ++ u ∷ []) t → StandsBehind t last
    → HasItemsBut (has_item (record last { body = body })) (items_by later later f.path f.turn u)
    → Records world later f (with_given e u took.value) (took.passed ++ u ∷ []) (took.passed ++ u ∷ []) (given body t) ×
    StandsBehind (given body t) (record last { body = body })

-- operands of a node are complete
abbrev pub GathersRecorded : Type 0
GathersRecorded = (world : World) (trace : List Entry) (f : Scene) (e : Begun) (closed done : List Place) (t : Opened) (n : ℕ)
    → Records world trace f e closed done t → Records world trace f e closed done (gathered n t)

-- ---- what is answered
-- behind an event, the first conflict of the pairs of which the calls tell is what c_model finds there, and where they have none nothing is found; in the
-- trace each access stands with the question whether its object lives
abbrev pub AnswersAreFound : Type 0
AnswersAreFound = (world : World) (trace later : List Entry) (f : Scene) (e : Begun) (u : Place) (top : Local) (t : Opened) (frames : List FrameRow)
    (r : Option Found) → (took : TakesEvent world trace later f e u top)
    → Records world later f (with_given e u took.value) (took.passed ++ u ∷ []) (took.passed ++ u ∷ []) t
    → IsBareStore world later f (with_given e u took.value) u.node → AllAsked later
    → IsFirstOf frames (IsConflictIn frames world.rows t (ByPlaces (ToldPairs t.scope u.node (completed_with t.scope took.passed u)))) r
    → IsFoundIn world.rows (looked_at world later f (with_given e u took.value)) r
