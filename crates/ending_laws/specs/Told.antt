-- What was told where the run ends is what the definitions have (own).
use Rattle.std.specs.Prelude.{◌≡◌, Bool, List, [], ◌∷◌, ◌++◌}
use Rattle.ub_base.specs.declared.names.Item.{Item}
use Rattle.c_typed.specs.declared.tree.Place.{Place}
use Rattle.c_typed.specs.Order.{is_body}
use Rattle.c_model.specs.Findings.{items_under}
use Rattle.c_model.specs.Moments.{items_by}
use Rattle.c_model.specs.Runs.{Entry}
use Rattle.c_model.specs.Steps.{Begun, Scene, taken_by}
use Rattle.c_model.specs.World.{World}
use Rattle.finding_laws.specs.Forgotten.{HasItemsOf}
use Rattle.run_evaluations.specs.Told.{Evaluation, Opened, chosen_by, evaluation, given, told, has as has_item}
use Rattle.telling_laws.specs.Standing.{StandsBehind, StandsTold}
use Rattle.detector_laws.specs.Frames.{IsEntryOf, StandsFree}
use Rattle.detector_laws.specs.Records.{Records, TellsItems}

-- the body that ended the run: no frame was started by it, so the trace has nothing of one
abbrev pub TellsEnding : Type 0
TellsEnding = (world : World) (trace : List Entry) (x : Entry) (f : Scene) (e : Begun) (u : Place) (passed ahead : List Place) (t : Opened)
    (items : List Item) → StandsFree world trace f e passed (u ∷ ahead) → IsEntryOf f u x → TellsItems items x.items
    → items_under ((f.turn, u.node) ∷ f.path) trace ≡ [] → Records world trace f e passed passed t → StandsTold t →
    Records world (x ∷ trace) f e (passed ++ u ∷ []) (passed ++ u ∷ []) (told (evaluation u.node u.kind items) (chosen_by (taken_by world f e) t)) ×
    StandsBehind (told (evaluation u.node u.kind items) (chosen_by (taken_by world f e) t)) (evaluation u.node u.kind items)

-- a frame is left, and what it touched is given to the body that started it: all that the trace has of the body, but for forgotten accesses
abbrev pub GivesEnding : Type 0
GivesEnding = (world : World) (later : List Entry) (f : Scene) (e : Begun) (u : Place) (passed : List Place) (t : Opened) (last : Evaluation)
    (body : Item → Bool) → Records world later f e passed (passed ++ u ∷ []) t → StandsBehind t last
    → HasItemsOf (is_body u.kind) (has_item (record last { body = body })) (items_by later later f.path f.turn u)
    → Records world later f e (passed ++ u ∷ []) (passed ++ u ∷ []) (given body t) × StandsBehind (given body t) (record last { body = body })
