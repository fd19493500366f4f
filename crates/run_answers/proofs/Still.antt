-- A machine stands as it stood where nothing changes but its frames and what is left to do: what is said of a frame names none of these.
use Rattle.std.proofs.Common.{◌≡◌, ℕ, ◌+◌, Bool, true, false, refl, sym, ap, ◌∙◌, subst, List, [], ◌∷◌, length, map, reverse, Option, Some, None}
use Rattle.std.specs.Prelude.{is_some, if◌then◌else◌}
use Rattle.ub_base.specs.declared.names.Item.{Item}
use Rattle.ub_base.specs.declared.clause.Kind.TheVariants.{Body}
use Rattle.c_typed.specs.Order.{place}
use Rattle.c_typed.specs.declared.tree.Place.{Place}
use Rattle.mem_objects.specs.declared.value.Value.{Value as Kept_value}
use Rattle.c_model.specs.Control.{Todo}
use Rattle.c_model.specs.Runs.{Entry, State, depth_of}
use Rattle.c_model.specs.Steps.{Scene, Local, Begun}
use Rattle.c_model.specs.World.{World}
use Rattle.run_control.specs.declared.work.Work.{Work}
use Rattle.run_control.specs.View.{Meaning}
use Rattle.run_state.specs.declared.machine.Machine.{Machine}
use Rattle.run_state.specs.declared.machine.Open.{Open}
use Rattle.run_state.specs.declared.machine.Stage.{Stage}
use Rattle.run_state.specs.Stands.{
  IsAbove,
  SeesLocals,
  StandFrames,
  StandLocals,
  Stands,
  StandsBegun,
  StandsControl,
  StandsDone,
  StandsExpression,
  StandsFrame,
  StandsOn,
  StandsTables,
  StandsValues,
  frames_of,
}

-- the one machine with the frames, the result and the items of the other, and what is left to do there
abbrev pub with_frames : (m n : Machine) → Machine
with_frames m n = record m {
  below = n.below;
  top = n.top;
  work = n.work;
  entered = n.entered;
  depth = n.depth;
  left = n.left;
  items = n.items;
  spare = n.spare;
  streams = n.streams;
}

-- ---- what is said of a machine beside its frames
pub tables_aside : (m n : Machine) → StandsTables m → StandsTables (with_frames m n)
tables_aside m n t = record { places = t.places; vias = t.vias; fillings = t.fillings }

-- ---- what is said of a frame
straight_aside : (world : World) (m n : Machine) (straight : Bool) (height first cursor end : ℕ) (f : Scene) (e : Begun) (waiting : Option Place) →
    StandsDone straight world m height first cursor end f e waiting → StandsDone straight world (with_frames m n) height first cursor end f e waiting
straight_aside world m n true height first cursor end f e waiting d = d
straight_aside world m n false height first cursor end f e waiting d = d

values_aside : (world : World) (m n : Machine) (base first end : ℕ) (f : Scene) (e : Begun) → StandsValues world m base first end f e →
    StandsValues world (with_frames m n) base first end f e
values_aside world m n base first end f e v = record { val = v.val; body = v.body; update = v.update }

expression_aside : (world : World) (meaning : Meaning) (m n : Machine) (height : ℕ) (o : Open) (stage : Stage) (f : Scene) (e : Begun)
    (waiting : Option Place) → StandsExpression world meaning m height o stage f e waiting →
    StandsExpression world meaning (with_frames m n) height o stage f e waiting
expression_aside world meaning m n height o stage f e waiting x = record {
  laid = x.laid;
  at = x.at;
  root = x.root;
  first = x.first;
  end = x.end;
  value = x.value;
  rooms = x.rooms;
  what = x.what;
  shown = x.shown;
  shows = x.shows;
  frame = x.frame;
  turn = x.turn;
  tree = x.tree;
  tree_root = x.tree_root;
  taken = x.taken;
  done = straight_aside world m n stage.straight height x.laid.first stage.cursor x.laid.end f e waiting x.done;
  values = values_aside world m n o.base x.laid.first x.laid.end f e x.values;
}

begun_aside : (world : World) (meaning : Meaning) (m n : Machine) (height : ℕ) (o : Open) (stage : Option Stage) (f : Scene) (e : Option Begun)
    (waiting : Option Place) → StandsBegun world meaning m height o stage f e waiting →
    StandsBegun world meaning (with_frames m n) height o stage f e waiting
begun_aside world meaning m n height o None f None waiting b = b
begun_aside world meaning m n height o None f (Some e) waiting b = absurd b
begun_aside world meaning m n height o (Some stage) f None waiting b = absurd b
begun_aside world meaning m n height o (Some stage) f (Some e) waiting b = expression_aside world meaning m n height o stage f e waiting b

locals_aside : (world : World) (m n : Machine) (o : Open) (f : Scene) (bs : List (ℕ × ℕ)) → StandLocals world m o f bs →
    StandLocals world (with_frames m n) o f bs
locals_aside world m n o f [] l = tt
locals_aside world m n o f (b ∷ bs) l = (l.0, locals_aside world m n o f bs l.1)

pub frame_aside : (world : World) (meaning : Meaning) (m n : Machine) (height : ℕ) (o : Open) (ws : List Work) (left : Option Kept_value) (f : Local)
    (waiting : Option Place) → StandsFrame world meaning m height o ws left f waiting →
    StandsFrame world meaning (with_frames m n) height o ws left f waiting
frame_aside world meaning m n height o ws left f waiting s = record {
  number = s.number;
  turn = s.turn;
  function = s.function;
  arguments = s.arguments;
  locals = locals_aside world m n o f.scene f.scene.blocks s.locals;
  result = s.result;
  control = s.control;
  begun = begun_aside world meaning m n height o o.stage f.scene f.begun waiting s.begun;
}

-- ---- the frames
pub frames_aside : (world : World) (meaning : Option ℕ → Meaning) (m n : Machine) (left : Option Kept_value) (os : List Open) (wss : List (List Work))
    (fs : List (Local × Option Place)) → StandFrames world meaning m left os wss fs → StandFrames world meaning (with_frames m n) left os wss fs
frames_aside world meaning m n left [] wss [] s = s
frames_aside world meaning m n left [] wss (f ∷ fs) s = absurd s
frames_aside world meaning m n left (o ∷ os) [] fs s = absurd s
frames_aside world meaning m n left (o ∷ os) (ws ∷ wss) [] s = absurd s
frames_aside world meaning m n left (o ∷ os) (ws ∷ wss) (f ∷ fs) s =
    (frame_aside world (meaning o.function) m n (length os) o ws left f.0 f.1 s.0, s.1, frames_aside world meaning m n None os wss fs s.2)

abbrev body_place : ℕ → Place
body_place k = place k Body

-- ---- a frame on those below it: they know it by its path, its home and its open blocks
pub record SameScene (f g : Scene) : Type 0 where
  pub path : g.path ≡ f.path
  pub home : g.home ≡ f.home
  pub blocks : g.blocks ≡ f.blocks

-- .. and the machine's by where its values and its objects begin
pub record SamePlace (o p : Open) : Type 0 where
  pub base : p.base ≡ o.base
  pub node : p.node ≡ o.node
  pub function : p.function ≡ o.function
  pub locals : p.locals ≡ o.locals
  pub above : p.above ≡ o.above
  pub first_block : p.blocks ≡ o.blocks

sees_same : (n : Option ℕ) (o p : Open) (f g : Local) (below : Open) (h : Local) → SamePlace o p → SameScene f.scene g.scene → SeesLocals n o f below h →
    SeesLocals n p g below h
sees_same (Some n) o p f g below h place scene s = (place.locals ∙ s.0, scene.home ∙ s.1 ∙ sym scene.path)
sees_same None o p f g below h place scene s =
    (place.locals ∙ s.0, place.above ∙ s.1, place.first_block ∙ s.2, scene.home ∙ s.3, scene.blocks ∙ s.4)

on_same : (o p : Open) (f g : Local) (below : Open) (h : Local) (waiting : Option Place) → SamePlace o p → SameScene f.scene g.scene →
    StandsOn o f below h waiting → StandsOn p g below h waiting
on_same o p f g below h waiting place scene s = record {
  waits = s.waits ∙ ap (λ (k : ℕ). Some (body_place k)) (sym place.node);
  path = scene.path ∙ s.path ∙ ap (λ (k : ℕ). (h.scene.turn, k) ∷ h.scene.path) (sym place.node);
  rooms = place.base ∙ s.rooms;
  locals = subst (λ (n : Option ℕ). SeesLocals n p g below h) (sym place.function) (sees_same o.function o p f g below h place scene s.locals);
}

pub above_same : (o p : Open) (f g : Local) (os : List Open) (fs : List (Local × Option Place)) → SamePlace o p → SameScene f.scene g.scene →
    IsAbove o f os fs → IsAbove p g os fs
above_same o p f g [] [] place scene a = (scene.path ∙ a.0, scene.home ∙ a.1)
above_same o p f g [] (h ∷ hs) place scene a = absurd a
above_same o p f g (below ∷ os) [] place scene a = absurd a
above_same o p f g (below ∷ os) (h ∷ hs) place scene a = on_same o p f g below h.0 h.1 place scene a

-- ---- nothing changes but what is left to do in the top frame
-- of that frame
frame_left : (world : World) (meaning : Meaning) (m : Machine) (height : ℕ) (o : Open) (ws vs : List Work) (left : Option Kept_value) (f : Local)
    (todo : Todo) (waiting : Option Place) → StandsControl meaning vs (record f { todo = todo }) →
    StandsFrame world meaning m height o ws left f waiting → StandsFrame world meaning m height o vs left (record f { todo = todo }) waiting
frame_left world meaning m height o ws vs left f todo waiting control s = record {
  number = s.number;
  turn = s.turn;
  function = s.function;
  arguments = s.arguments;
  locals = s.locals;
  result = s.result;
  control = control;
  begun = s.begun;
}

same_place : (o : Open) → SamePlace o o
same_place o = record { base = refl; node = refl; function = refl; locals = refl; above = refl; first_block = refl }

same_scene : (f : Local) → SameScene f.scene f.scene
same_scene f = record { path = refl; home = refl; blocks = refl }

pub frames_left : (world : World) (meaning : Option ℕ → Meaning) (m : Machine) (left : Option Kept_value) (o : Open) (os : List Open)
    (ws vs : List Work) (wss : List (List Work)) (f : Local) (todo : Todo) (fs : List (Local × Option Place)) →
    StandsControl (meaning o.function) vs (record f { todo = todo }) →
    StandFrames world meaning m left (o ∷ os) (ws ∷ wss) ((f, None) ∷ fs) →
    StandFrames world meaning m left (o ∷ os) (vs ∷ wss) ((record f { todo = todo }, None) ∷ fs)
frames_left world meaning m left o os ws vs wss f todo fs control s = (
  frame_left world (meaning o.function) m (length os) o ws vs left f todo None control s.0,
  above_same o o f (record f { todo = todo }) os fs (same_place o) (same_scene f) s.1,
  s.2,
)

-- as many frames are open
pub depth_same : (f g : Local) (hs : List (Local × Place)) → g.function ≡ f.function → depth_of g hs ≡ depth_of f hs
depth_same f g [] e = ap (λ (n : Option ℕ). if is_some n then 1 else 0) e
depth_same f g (h ∷ hs) e = ap (λ (n : Option ℕ). (if is_some n then 1 else 0) + depth_of h.0 hs) e

-- ---- all together
-- a machine with this left to do in its top frame, which has touched these
abbrev pub with_left : Machine → List Work → (items spare : List Item) → Machine
with_left m ws items spare = record m { work = record m.work { now = ws }; items = items; spare = spare }

abbrev pub with_todo : State → Todo → List Entry → State
with_todo st todo trace = record { top = record st.top { todo = todo }; held = st.held; store = st.store; trace = trace }

pub left_stands : (world : World) (meaning : Option ℕ → Meaning) (m : Machine) (ws : List Work) (items spare : List Item) (st : State) (todo : Todo)
    (trace : List Entry) → StandsControl (meaning m.top.function) ws (record st.top { todo = todo }) → Stands world meaning m st →
    Stands world meaning (with_left m ws items spare) (with_todo st todo trace)
left_stands world meaning m ws items spare st todo trace control s =
    let n = with_left m ws items spare in
    record {
      program = s.program;
      code = s.code;
      listed = s.listed;
      memory = s.memory;
      tables = tables_aside m n s.tables;
      frames = frames_left world meaning n m.left m.top (reverse m.below.items) m.work.now ws m.work.below st.top todo
          (map (λ h. (h.0, Some h.1)) st.held) control
          (frames_aside world meaning m n m.left (m.top ∷ reverse m.below.items) (m.work.now ∷ m.work.below) (frames_of st) s.frames);
      result = s.result;
      depth = s.depth ∙ sym (depth_same st.top (record st.top { todo = todo }) st.held refl);
    }

-- what was touched says nothing of what it stands for
pub items_stand : (world : World) (meaning : Option ℕ → Meaning) (m : Machine) (items spare : List Item) (st : State) → Stands world meaning m st →
    Stands world meaning (record m { items = items; spare = spare }) st
items_stand world meaning m items spare st s =
    left_stands world meaning m m.work.now items spare st st.top.todo st.trace (s.frames.0.control) s
