-- A room gets a value, and an event is noted of one frame: the frames below it stand as they stood.
use Rattle.std.proofs.Common.{
  ◌≡◌,
  ◌≢◌,
  ℕ,
  ◌+◌,
  ◌<◌,
  ◌≤◌,
  Bool,
  true,
  false,
  sym,
  ap,
  ◌∙◌,
  subst,
  arith,
  List,
  [],
  ◌∷◌,
  length,
  map,
  Option,
  Some,
  None,
  slice_get,
}
use Rattle.std.specs.Prelude.{is_some}
use Rattle.ub_base.specs.declared.clause.Kind.TheVariants.{Val, Body}
use Rattle.c_typed.specs.declared.tree.Place.{Place}
use Rattle.c_typed.specs.Order.{place}
use Rattle.mem_objects.specs.declared.value.Value.{Value as Kept_value}
use Rattle.mem_objects.specs.Memory.{Kept}
use Rattle.c_model.specs.Steps.{Scene, Local, Begun}
use Rattle.c_model.specs.Values.{Value}
use Rattle.c_model.specs.World.{World}
use Rattle.run_layout.specs.declared.steps.Listed.{Listed}
use Rattle.run_layout.specs.declared.whole.Code.{Code}
use Rattle.run_control.specs.declared.work.Work.{Work}
use Rattle.run_control.specs.View.{Meaning}
use Rattle.run_listing.specs.Along.{part_of}
use Rattle.run_state.specs.declared.machine.Machine.{Machine}
use Rattle.run_state.specs.declared.machine.Open.{Open}
use Rattle.run_state.specs.declared.machine.Stage.{Stage}
use Rattle.run_state.specs.Stands.{Holds, HoldsAll, IsAbove, StandFrames, StandLocals, StandsBegun, StandsDone, StandsExpression, StandsFrame, StandsValues}
use Rattle.run_answers.specs.Ending.{IsInRooms, KeepsTo, KeepToRooms, stage_part}

-- the one machine with the values of another, and what is noted in a third
abbrev pub with_rooms : (m n z : Machine) → Machine
with_rooms m n z = record m { values = n.values; strayed = z.strayed }

-- the same value elsewhere
pub holds_apart : (k : Kept) (xs ys : List Kept_value) (at room : ℕ) (v : Value) →
    ((j : ℕ) → j ≢ at → slice_get ys j ≡ slice_get xs j) → room ≢ at → Holds k xs room v → Holds k ys room v
holds_apart k xs ys at room v others ne h = (h.0, others room ne ∙ h.1, h.2, h.3)

below_room : (base n rooms at : ℕ) → n < rooms → base + rooms ≤ at → base + n ≢ at
below_room base n rooms at lt le = λ e. omega (arith, lt, le, e)

pub part_same : (listing : List Listed) (a b c d : ℕ) → a ≡ b → c ≡ d → part_of listing a c ≡ part_of listing b d
part_same listing a b c d first end = ap (λ (i : ℕ). part_of listing i c) first ∙ ap (part_of listing b) end

some_there : {A : Type 0} (o : Option A) (x : A) → o ≡ Some x → is_some o ≡ true
some_there o x e = ap is_some e

-- a frame in which a body waits has handed on its arguments
no_arguments : (world : World) (meaning : Meaning) (m : Machine) (height : ℕ) (o : Open) (stage : Option Stage) (f : Scene) (e : Option Begun)
    (u : Place) (g : Local) (code : Code) (rooms : ℕ) → StandsBegun world meaning m height o stage f e (Some u) → KeepsTo code rooms stage g e →
    g.arguments ≡ []
no_arguments world meaning m height o None f None u g code rooms b keeps = absurd (cc)
no_arguments world meaning m height o None f (Some e) u g code rooms b keeps = absurd b
no_arguments world meaning m height o (Some stage) f None u g code rooms b keeps = absurd b
no_arguments world meaning m height o (Some stage) f (Some e) u g code rooms b keeps = keeps.0

module _ (world : World) (m n z : Machine) (at top : ℕ) (others : (j : ℕ) → j ≢ at → slice_get n.values.items j ≡ slice_get m.values.items j)
    (strays : (j : ℕ) → j ≢ top → slice_get z.strayed.items j ≡ slice_get m.strayed.items j) where
  values_below : (base first end : ℕ) (f : Scene) (e : Begun) (rooms : ℕ) → IsInRooms (part_of m.image.code.now.listing.items first end) rooms e →
      base + rooms ≤ at → StandsValues world m base first end f e → StandsValues world (with_rooms m n z) base first end f e
  values_below base first end f e rooms keeps le s = record {
    val = λ k w given. holds_apart m.memory m.values.items n.values.items at (base + k) w others
        (below_room base k rooms at (keeps.val k (some_there (e.given (place k Val)) w given)) le) (s.val k w given);
    body = λ k w none given. holds_apart m.memory m.values.items n.values.items at (base + k) w others
        (below_room base k rooms at (keeps.body k (some_there (e.given (place k Body)) w given)) le) (s.body k w none given);
    update = λ i due store room target c old es w there act kind is given.
        holds_apart m.memory m.values.items n.values.items at (base + room) _ others
        (below_room base room rooms at (keeps.update room (record {
          due = due;
          store = store;
          target = target;
          change = c;
          old = old;
          operands = es;
          listed = (i, there);
          act = act;
          effect = kind;
          update = is;
        })) le) (s.update i due store room target c old es w there act kind is given);
  }

  done_below : (straight : Bool) (height first cursor end : ℕ) (f : Scene) (e : Begun) (waiting : Option Place) → height ≢ top →
      StandsDone straight world m height first cursor end f e waiting →
      StandsDone straight world (with_rooms m n z) height first cursor end f e waiting
  done_below true height first cursor end f e waiting ne d = d
  done_below false height first cursor end f e waiting ne d = (d.0, strays height ne ∙ d.1, d.2)

  expression_below : (meaning : Meaning) (height : ℕ) (o : Open) (stage : Stage) (f : Scene) (e : Begun) (waiting : Option Place) → height ≢ top →
      o.base + o.rooms ≤ at → IsInRooms (stage_part m.image.code.now stage) o.rooms e →
      StandsExpression world meaning m height o stage f e waiting → StandsExpression world meaning (with_rooms m n z) height o stage f e waiting
  expression_below meaning height o stage f e waiting ne le keeps x = record {
    laid = x.laid;
    at = x.at;
    root = x.root;
    first = x.first;
    end = x.end;
    value = x.value;
    rooms = x.rooms;
    what = x.what;
    shown = x.shown;
    shows = x.shows;
    frame = x.frame;
    turn = x.turn;
    tree = x.tree;
    tree_root = x.tree_root;
    taken = x.taken;
    done = done_below stage.straight height x.laid.first stage.cursor x.laid.end f e waiting ne x.done;
    values = values_below o.base x.laid.first x.laid.end f e o.rooms
        (subst (λ (es : List Listed). IsInRooms es o.rooms e)
        (part_same m.image.code.now.listing.items stage.first x.laid.first stage.end x.laid.end x.first x.end) keeps) le x.values;
  }

  begun_below : (meaning : Meaning) (height : ℕ) (o : Open) (stage : Option Stage) (f : Scene) (e : Option Begun) (waiting : Option Place) (g : Local) →
      height ≢ top → o.base + o.rooms ≤ at → KeepsTo m.image.code.now o.rooms stage g e →
      StandsBegun world meaning m height o stage f e waiting → StandsBegun world meaning (with_rooms m n z) height o stage f e waiting
  begun_below meaning height o None f None waiting g ne le keeps b = b
  begun_below meaning height o None f (Some e) waiting g ne le keeps b = absurd b
  begun_below meaning height o (Some stage) f None waiting g ne le keeps b = absurd b
  begun_below meaning height o (Some stage) f (Some e) waiting g ne le keeps b = expression_below meaning height o stage f e waiting ne le keeps.1 b

  pub locals_below : (o : Open) (f : Scene) (bs : List (ℕ × ℕ)) → StandLocals world m o f bs → StandLocals world (with_rooms m n z) o f bs
  locals_below o f [] l = tt
  locals_below o f (b ∷ bs) l = (l.0, locals_below o f bs l.1)

  frame_below : (meaning : Meaning) (height : ℕ) (o : Open) (ws : List Work) (f : Local) (u : Place) → height ≢ top → o.base + o.rooms ≤ at →
      KeepsTo m.image.code.now o.rooms o.stage f f.begun → StandsFrame world meaning m height o ws None f (Some u) →
      StandsFrame world meaning (with_rooms m n z) height o ws None f (Some u)
  frame_below meaning height o ws f u ne le keeps s =
      let none = no_arguments world meaning m height o o.stage f.scene f.begun u f m.image.code.now o.rooms s.begun keeps in
      record {
        number = s.number;
        turn = s.turn;
        function = s.function;
        arguments = subst (λ (vs : List Value). HoldsAll m.memory n.values.items o.base vs) (sym none) tt;
        locals = locals_below o f.scene f.scene.blocks s.locals;
        result = s.result;
        control = s.control;
        begun = begun_below meaning height o o.stage f.scene f.begun (Some u) f ne le keeps s.begun;
      }

  -- the frames below one whose rooms begin there or before
  pub frames_below : (meaning : Option ℕ → Meaning) (o : Open) (f : Local) (os : List Open) (wss : List (List Work)) (hs : List (Local × Place)) →
      length os ≤ top → o.base ≤ at → IsAbove o f os (map (λ h. (h.0, Some h.1)) hs) → KeepToRooms m.image.code.now os hs →
      StandFrames world meaning m None os wss (map (λ h. (h.0, Some h.1)) hs) →
      StandFrames world meaning (with_rooms m n z) None os wss (map (λ h. (h.0, Some h.1)) hs)
  frames_below meaning o f [] wss [] high le a keeps s = s
  frames_below meaning o f [] wss (h ∷ hs) high le a keeps s = absurd s
  frames_below meaning o f (p ∷ os) [] hs high le a keeps s = absurd s
  frames_below meaning o f (p ∷ os) (ws ∷ wss) [] high le a keeps s = absurd s
  frames_below meaning o f (p ∷ os) (ws ∷ wss) (h ∷ hs) high le a keeps s =
      let rooms : p.base + p.rooms ≤ at = omega (arith, le, a.rooms) in
      let lower : length os ≢ top = λ e. omega (arith, high, e) in (
        frame_below (meaning p.function) (length os) p ws h.0 h.1 lower rooms keeps.0 s.0,
        s.1,
        frames_below meaning p h.0 os wss hs (omega (arith, high)) (omega (arith, rooms)) s.1 keeps.1 s.2,
      )
