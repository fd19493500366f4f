-- A machine stands as it stood where there are more places for objects: those that were there are still there.
use Rattle.std.proofs.Common.{◌≡◌, ℕ, ◌+◌, Bool, true, false, List, [], ◌∷◌, length, Option, Some, None, slice_get}
use Rattle.c_typed.specs.declared.tree.Place.{Place}
use Rattle.mem_objects.specs.declared.value.Value.{Value as Kept_value}
use Rattle.c_model.specs.Steps.{Scene, Local, Begun}
use Rattle.c_model.specs.World.{World}
use Rattle.run_control.specs.declared.work.Work.{Work}
use Rattle.run_control.specs.View.{Meaning}
use Rattle.run_state.specs.declared.machine.Local.{Local as Object}
use Rattle.run_state.specs.declared.machine.Machine.{Machine}
use Rattle.run_state.specs.declared.machine.Open.{Open}
use Rattle.run_state.specs.declared.machine.Stage.{Stage}
use Rattle.run_state.specs.Stands.{StandFrames, StandLocals, StandsBegun, StandsDone, StandsExpression, StandsFrame, StandsValues}

-- the one machine with the objects of the other
abbrev pub with_locals : (m n : Machine) → Machine
with_locals m n = record m { locals = n.locals }

straight_more : (world : World) (m n : Machine) (straight : Bool) (height first cursor end : ℕ) (f : Scene) (e : Begun) (waiting : Option Place) →
    StandsDone straight world m height first cursor end f e waiting → StandsDone straight world (with_locals m n) height first cursor end f e waiting
straight_more world m n true height first cursor end f e waiting d = d
straight_more world m n false height first cursor end f e waiting d = d

values_more : (world : World) (m n : Machine) (base first end : ℕ) (f : Scene) (e : Begun) → StandsValues world m base first end f e →
    StandsValues world (with_locals m n) base first end f e
values_more world m n base first end f e v = record { val = v.val; body = v.body; update = v.update }

expression_more : (world : World) (meaning : Meaning) (m n : Machine) (height : ℕ) (o : Open) (stage : Stage) (f : Scene) (e : Begun)
    (waiting : Option Place) → StandsExpression world meaning m height o stage f e waiting →
    StandsExpression world meaning (with_locals m n) height o stage f e waiting
expression_more world meaning m n height o stage f e waiting x = record {
  laid = x.laid;
  at = x.at;
  root = x.root;
  first = x.first;
  end = x.end;
  value = x.value;
  rooms = x.rooms;
  what = x.what;
  shown = x.shown;
  shows = x.shows;
  frame = x.frame;
  turn = x.turn;
  tree = x.tree;
  tree_root = x.tree_root;
  taken = x.taken;
  done = straight_more world m n stage.straight height x.laid.first stage.cursor x.laid.end f e waiting x.done;
  values = values_more world m n o.base x.laid.first x.laid.end f e x.values;
}

begun_more : (world : World) (meaning : Meaning) (m n : Machine) (height : ℕ) (o : Open) (stage : Option Stage) (f : Scene) (e : Option Begun)
    (waiting : Option Place) → StandsBegun world meaning m height o stage f e waiting →
    StandsBegun world meaning (with_locals m n) height o stage f e waiting
begun_more world meaning m n height o None f None waiting b = b
begun_more world meaning m n height o None f (Some e) waiting b = absurd b
begun_more world meaning m n height o (Some stage) f None waiting b = absurd b
begun_more world meaning m n height o (Some stage) f (Some e) waiting b = expression_more world meaning m n height o stage f e waiting b

module _ (world : World) (m n : Machine)
    (kept : (j : ℕ) (l : Object) → slice_get m.locals.items j ≡ Some l → slice_get n.locals.items j ≡ Some l) where
  locals_more : (o : Open) (f : Scene) (bs : List (ℕ × ℕ)) → StandLocals world m o f bs → StandLocals world (with_locals m n) o f bs
  locals_more o f [] l = tt
  locals_more o f (b ∷ bs) l = (
    (l.0.0, l.0.1, λ k lt. (kept (o.locals + (l.0.0.first + k)) _ (l.0.2 k lt).0, (l.0.2 k lt).1)),
    locals_more o f bs l.1,
  )

  frame_more : (meaning : Meaning) (height : ℕ) (o : Open) (ws : List Work) (left : Option Kept_value) (f : Local) (waiting : Option Place) →
      StandsFrame world meaning m height o ws left f waiting → StandsFrame world meaning (with_locals m n) height o ws left f waiting
  frame_more meaning height o ws left f waiting s = record {
    number = s.number;
    turn = s.turn;
    function = s.function;
    arguments = s.arguments;
    locals = locals_more o f.scene f.scene.blocks s.locals;
    result = s.result;
    control = s.control;
    begun = begun_more world meaning m n height o o.stage f.scene f.begun waiting s.begun;
  }

  pub frames_more : (meaning : Option ℕ → Meaning) (left : Option Kept_value) (os : List Open) (wss : List (List Work)) (fs : List (Local × Option Place)) →
      StandFrames world meaning m left os wss fs → StandFrames world meaning (with_locals m n) left os wss fs
  frames_more meaning left [] wss [] s = s
  frames_more meaning left [] wss (f ∷ fs) s = absurd s
  frames_more meaning left (o ∷ os) [] fs s = absurd s
  frames_more meaning left (o ∷ os) (ws ∷ wss) [] s = absurd s
  frames_more meaning left (o ∷ os) (ws ∷ wss) (f ∷ fs) s =
      (frame_more (meaning o.function) (length os) o ws left f.0 f.1 s.0, s.1, frames_more meaning None os wss fs s.2)
