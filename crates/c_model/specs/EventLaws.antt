-- Two events of one frame that may both come next (own).
use Rattle.std.specs.Prelude.{◌≡◌, ◌≢◌, Some}
use Rattle.c_typed.specs.declared.tree.Place.{Place}
use Rattle.c_model.specs.Values.{Value}
use Rattle.c_model.specs.World.{World}
use Rattle.c_model.specs.Steps.{Local, Begun, Ev, with_given, does, move, next}
use Rattle.c_model.specs.ChoiceLaws.{IsNext}

-- the acts of the second are those that it has without the first
abbrev pub SameAct : Type 0
SameAct =
    (world : World)
    (f : Local) (e : Begun) (u v : Place) (w : Value) → IsNext world f.scene e u → IsNext world f.scene e v
    → u ≢ v → does world f (Some (with_given e u w)) (Ev v) ≡ does world f (Some e) (Ev v)

-- and so is what it does to the frames
abbrev pub SameMove : Type 0
SameMove =
    (world : World)
    (f : Local) (e : Begun) (u v : Place) (w : Value) → IsNext world f.scene e u → IsNext world f.scene e v
    → u ≢ v → move world f (Some (with_given e u w)) (Ev v) ≡ move world f (Some e) (Ev v)

-- and the frame is the same after both, whichever comes first
abbrev pub SameFrame : Type 0
SameFrame =
    (world : World)
    (f : Local) (e : Begun) (u v : Place) (w x : Value) → u ≢ v
    → next world (next world f (Some e) (Ev u) w) (Some (with_given e u w)) (Ev v) x
    ≡ next world (next world f (Some e) (Ev v) x) (Some (with_given e v x)) (Ev u) w
