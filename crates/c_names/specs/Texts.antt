-- The texts of frames, events and objects (own).
use Rattle.std.specs.Prelude.{◌≡◌, ◌≢◌, ◌≤◌, ℕ, List, [], ◌∷◌, ◌++◌, length, codes, decimal}
use Rattle.ub_base.specs.declared.clause.Kind.{Kind}
use Rattle.ub_base.specs.declared.clause.Kind.TheVariants.{Val, Eff, Body}
use Rattle.ub_base.specs.declared.names.Event.{Event}
use Rattle.ub_base.specs.declared.names.ObjName.{ObjName}
use Rattle.ub_base.specs.Frames.{Row, Path, IsFrameList, HasFrame}
use Rattle.c_names.specs.Names.{EventName, ObjectName, StaticName, LitName, ArgvName, ArgName, AutoName, HeapName, IsEvent, IsObject, event_name, object_name}

-- the step from a frame to one that it started: its turn and its node
abbrev pub step_text : ℕ × ℕ → List ℕ
step_text s = codes "/" ++ (decimal s.0 ++ (codes ":" ++ decimal s.1))

-- a frame: `main`, or a frame followed by the step that started it
abbrev pub frame_text : Path → List ℕ
frame_text [] = codes "main"
frame_text (s ∷ f) = frame_text f ++ step_text s

abbrev pub kind_text : Kind → List ℕ
kind_text Val = codes "val"
kind_text Eff = codes "eff"
kind_text Body = codes "body"

-- two numbers, each after a space
abbrev pub numbers_text : ℕ → ℕ → List ℕ
numbers_text m n = codes " " ++ (decimal m ++ (codes " " ++ decimal n))

abbrev pub event_name_text : EventName → List ℕ
event_name_text e = frame_text e.frame ++ (numbers_text e.turn e.node ++ (codes " " ++ kind_text e.kind))

abbrev pub object_name_text : ObjectName → List ℕ
object_name_text (StaticName k) = codes "static " ++ decimal k
object_name_text (LitName k) = codes "lit " ++ decimal k
object_name_text ArgvName = codes "argv"
object_name_text (ArgName k) = codes "arg " ++ decimal k
object_name_text (AutoName f turn k) = codes "auto " ++ (frame_text f ++ numbers_text turn k)
object_name_text (HeapName f turn node) = codes "heap " ++ (frame_text f ++ numbers_text turn node)

abbrev pub event_text : List Row → Event → List ℕ
event_text rows e = event_name_text (event_name rows e)

abbrev pub object_text : List Row → ObjName → List ℕ
object_text rows o = object_name_text (object_name rows o)

-- no event has this text
abbrev pub IsNoEventText : List ℕ → Type 0
IsNoEventText text = (e : EventName) → IsEvent e → event_name_text e ≢ text

-- no object has this text
abbrev pub IsNoObjectText : List ℕ → Type 0
IsNoObjectText text = (o : ObjectName) → IsObject o → object_name_text o ≢ text

-- a text names at most one thing: different names have different texts, and none is both an event's and an object's
pub record TextsNameOneThing : Type 0 where
  pub events : (d e : EventName) → IsEvent d → IsEvent e → event_name_text d ≡ event_name_text e → d ≡ e
  pub objects : (o p : ObjectName) → IsObject o → IsObject p → object_name_text o ≡ object_name_text p → o ≡ p
  pub apart : (e : EventName) (o : ObjectName) → IsEvent e → IsObject o → event_name_text e ≢ object_name_text o

-- over one list of frames, events and objects that differ, be it in the number of a frame alone, have different names
pub record NumbersNameOneFrame : Type 0 where
  pub events : (rows : List Row) (d e : Event) → IsFrameList rows → d.frame.0 ≤ length rows → e.frame.0 ≤ length rows
      → event_name rows d ≡ event_name rows e → d ≡ e
  pub objects : (rows : List Row) (o p : ObjName) → IsFrameList rows → HasFrame rows o → HasFrame rows p
      → object_name rows o ≡ object_name rows p → o ≡ p
