-- A machine stands as it stood where nothing but the objects of its memory changes, and these go on: a life ends, or bytes become unwritten.
use Rattle.std.proofs.Common.{◌≡◌, ℕ, suc, ◌+◌, Bool, true, false, refl, sym, ap, ◌∙◌, List, [], ◌∷◌, length, map, reverse, Option, Some, None}
use Rattle.std.specs.Borrow.{Bor}
use Rattle.c_types.specs.Types.{CType, int}
use Rattle.c_typed.specs.declared.program.Constant.{Constant}
use Rattle.c_typed.specs.declared.tree.Access.{Access}
use Rattle.c_typed.specs.declared.tree.Access.TheVariants as access
use Rattle.c_typed.specs.declared.tree.Place.{Place}
use Rattle.exposure.specs.declared.prov.Prov.TheVariants.{Whole}
use Rattle.mem_spec.specs.Acts.{scalar}
use Rattle.mem_objects.specs.declared.cell.Via.{Via}
use Rattle.mem_objects.specs.declared.cell.Via.TheVariants as vias
use Rattle.mem_objects.specs.declared.value.Value.{Value as Kept_value}
use Rattle.mem_objects.specs.declared.value.Value.TheVariants as values
use Rattle.mem_objects.specs.Held.{Held}
use Rattle.mem_objects.specs.Keeps.{Keeps}
use Rattle.mem_objects.specs.Memory.{Kept, store_of}
use Rattle.mem_objects.specs.Stores.{Sees}
use Rattle.c_model.specs.Program.{Filling as Filled}
use Rattle.c_model.specs.Runs.{State}
use Rattle.c_model.specs.Steps.{Scene, Local, Begun, auto_name}
use Rattle.c_model.specs.Values.{Value}
use Rattle.c_model.specs.World.{World}
use Rattle.run_values.specs.declared.filling.Filling.{Filling}
use Rattle.run_values.specs.Contents.{filled_by}
use Rattle.run_values.specs.Fills.{AreFillings}
use Rattle.run_values.specs.Stores.{SeesAs}
use Rattle.run_values.specs.Views.{value_in}
use Rattle.run_values.proofs.Keeping.{values_stay, fillings_stay}
use Rattle.run_values.proofs.Placed.{placed_still}
use Rattle.run_layout.specs.declared.steps.StoreCode.{StoreCode}
use Rattle.run_control.specs.declared.work.Work.{Work}
use Rattle.run_control.specs.View.{Meaning}
use Rattle.run_state.specs.declared.machine.Machine.{Machine}
use Rattle.run_state.specs.declared.machine.Open.{Open}
use Rattle.run_state.specs.declared.machine.Stage.{Stage}
use Rattle.run_state.specs.Stands.{
  AreBytes,
  AreEach,
  Holds,
  HoldsAll,
  IsResultOf,
  IsVia,
  StandFrames,
  StandLocals,
  Stands,
  StandsBegun,
  StandsDone,
  StandsExpression,
  StandsFrame,
  StandsTables,
  StandsValues,
  frames_of,
  result_seen,
}

-- the memory with other objects
abbrev pub with_objects : Kept → List Held → Kept
with_objects k os = record k { objects = os }

-- ---- what is seen through a memory names none of its objects
alike : (k : Kept) (os : List Held) (h : Kept_value) → value_in (with_objects k os) h ≡ value_in k h
alike k os (values.Int z) = refl
alike k os (values.Ptr a p) = refl
alike k os (values.Func a) = refl
alike k os (values.Block b) = refl
alike k os values.Missing = refl
alike k os values.Nothing = refl

sees_scalar : (k : Kept) (os : List Held) (via : Via) (ty : CType) → Sees k via (scalar ty) → Sees (with_objects k os) via (scalar ty)
sees_scalar k os (vias.Scalar id) ty s = record { numbered = s.numbered; plain = s.plain; character = s.character }
sees_scalar k os vias.Whole ty s = absurd s
sees_scalar k os vias.Bytes ty s = absurd s

sees_as : (k : Kept) (os : List Held) (via : Via) (a : Access) (ty : CType) → SeesAs k via a ty → SeesAs (with_objects k os) via a ty
sees_as k os via (access.Integer kind) ty s = sees_scalar k os via (int kind) s
sees_as k os via access.Pointer ty s = sees_scalar k os via ty s
sees_as k os via access.Function ty s = sees_scalar k os via ty s
sees_as k os via (access.Whole size align) ty s = s

vias_alike : (k : Kept) (os : List Held) (ss : List StoreCode) (vs : List Via) → AreEach (IsVia k) ss vs → AreEach (IsVia (with_objects k os)) ss vs
vias_alike k os [] [] a = a
vias_alike k os [] (v ∷ vs) a = absurd a
vias_alike k os (s ∷ ss) [] a = absurd a
vias_alike k os (s ∷ ss) (v ∷ vs) a = ((sees_as k os v s.access _ a.0.0, a.0.1), vias_alike k os ss vs a.1)

filled_alike : (k : Kept) (os : List Held) (fs : List Filling) (cs : List Filled) → AreFillings k fs cs → AreFillings (with_objects k os) fs cs
filled_alike k os [] [] a = a
filled_alike k os [] (c ∷ cs) a = absurd a
filled_alike k os (f ∷ fs) [] a = absurd a
filled_alike k os (f ∷ fs) (c ∷ cs) a = (record { at = a.0.at; bytes = a.0.bytes }, filled_alike k os fs cs a.1)

bytes_alike : (k : Kept) (os : List Held) → Keeps k (with_objects k os) → (cs : List (Bor (List Constant))) (fs : List (List Filling)) →
    AreEach (AreBytes k) cs fs → AreEach (AreBytes (with_objects k os)) cs fs
bytes_alike k os keeps [] [] a = a
bytes_alike k os keeps [] (f ∷ fs) a = absurd a
bytes_alike k os keeps (c ∷ cs) [] a = absurd a
bytes_alike k os keeps (c ∷ cs) (f ∷ fs) a =
    ((filled_alike k os f (map filled_by c.now) a.0.0, fillings_stay k (with_objects k os) f keeps a.0.1), bytes_alike k os keeps cs fs a.1)

-- ---- the result of a frame is one of every memory that keeps it
pub result_stays : (old new : Kept) (left : Option Kept_value) → Keeps old new → IsResultOf old left → IsResultOf new left
result_stays old new None keeps is = tt
result_stays old new (Some h) keeps is = values_stay old new h keeps is

-- ---- the machine with other objects
abbrev pub with_lives : (m : Machine) → List Held → Machine
with_lives m os = record m { memory = record m.memory { objects = os } }

module _ (world : World) (m : Machine) (os : List Held) (keeps : Keeps m.memory (with_objects m.memory os)) where
  pub tables_live : StandsTables m → StandsTables (with_lives m os)
  tables_live t = record {
    places = placed_still m.memory (with_objects m.memory os) m.program.now m.places keeps t.places;
    vias = vias_alike m.memory os m.image.code.now.tables.stores.items m.image.vias.items t.vias;
    fillings = bytes_alike m.memory os keeps m.image.code.now.tables.constants.items m.image.fillings.items t.fillings;
  }

  holds_live : (rooms : List Kept_value) (room : ℕ) (v : Value) → Holds m.memory rooms room v → Holds (with_objects m.memory os) rooms room v
  holds_live rooms room v h = (h.0, h.1, values_stay m.memory (with_objects m.memory os) h.0 keeps h.2, alike m.memory os h.0 ∙ h.3)

  held_live : (rooms : List Kept_value) (room : ℕ) (vs : List Value) → HoldsAll m.memory rooms room vs →
      HoldsAll (with_objects m.memory os) rooms room vs
  held_live rooms room [] h = h
  held_live rooms room (v ∷ vs) h = (holds_live rooms room v h.0, held_live rooms (suc room) vs h.1)

  result_live : (n : Option ℕ) (left : Option Kept_value) → result_seen (with_objects m.memory os) n left ≡ result_seen m.memory n left
  result_live n (Some v) = ap (λ (w : Value). Some w) (alike m.memory os v)
  result_live (Some n) None = refl
  result_live None None = refl

  done_live : (straight : Bool) (height first cursor end : ℕ) (f : Scene) (e : Begun) (waiting : Option Place) →
      StandsDone straight world m height first cursor end f e waiting → StandsDone straight world (with_lives m os) height first cursor end f e waiting
  done_live true height first cursor end f e waiting d = d
  done_live false height first cursor end f e waiting d = d

  values_live : (base first end : ℕ) (f : Scene) (e : Begun) → StandsValues world m base first end f e →
      StandsValues world (with_lives m os) base first end f e
  values_live base first end f e v = record {
    val = λ n w given. holds_live m.values.items (base + n) w (v.val n w given);
    body = λ n w none given. holds_live m.values.items (base + n) w (v.body n w none given);
    update = λ i due store room target c old es w at act kind is given.
        holds_live m.values.items (base + room) _ (v.update i due store room target c old es w at act kind is given);
  }

  expression_live : (meaning : Meaning) (height : ℕ) (o : Open) (stage : Stage) (f : Scene) (e : Begun) (waiting : Option Place) →
      StandsExpression world meaning m height o stage f e waiting → StandsExpression world meaning (with_lives m os) height o stage f e waiting
  expression_live meaning height o stage f e waiting x = record {
    laid = x.laid;
    at = x.at;
    root = x.root;
    first = x.first;
    end = x.end;
    value = x.value;
    rooms = x.rooms;
    what = x.what;
    shown = x.shown;
    shows = x.shows;
    frame = x.frame;
    turn = x.turn;
    tree = x.tree;
    tree_root = x.tree_root;
    taken = x.taken;
    done = done_live stage.straight height x.laid.first stage.cursor x.laid.end f e waiting x.done;
    values = values_live o.base x.laid.first x.laid.end f e x.values;
  }

  begun_live : (meaning : Meaning) (height : ℕ) (o : Open) (stage : Option Stage) (f : Scene) (e : Option Begun) (waiting : Option Place) →
      StandsBegun world meaning m height o stage f e waiting → StandsBegun world meaning (with_lives m os) height o stage f e waiting
  begun_live meaning height o None f None waiting b = b
  begun_live meaning height o None f (Some e) waiting b = absurd b
  begun_live meaning height o (Some stage) f None waiting b = absurd b
  begun_live meaning height o (Some stage) f (Some e) waiting b = expression_live meaning height o stage f e waiting b

  locals_live : (o : Open) (f : Scene) (bs : List (ℕ × ℕ)) → StandLocals world m o f bs → StandLocals world (with_lives m os) o f bs
  locals_live o f [] l = l
  locals_live o f (b ∷ bs) l =
      ((l.0.0, l.0.1, λ k lt. ((l.0.2 k lt).0, keeps.made (Whole (auto_name world f b.1 k)) (l.0.2 k lt).1)), locals_live o f bs l.1)

  frame_live : (meaning : Meaning) (height : ℕ) (o : Open) (ws : List Work) (left : Option Kept_value) (f : Local) (waiting : Option Place) →
      StandsFrame world meaning m height o ws left f waiting → StandsFrame world meaning (with_lives m os) height o ws left f waiting
  frame_live meaning height o ws left f waiting s = record {
    number = s.number;
    turn = s.turn;
    function = s.function;
    arguments = held_live m.values.items o.base f.arguments s.arguments;
    locals = locals_live o f.scene f.scene.blocks s.locals;
    result = s.result ∙ sym (result_live o.function left);
    control = s.control;
    begun = begun_live meaning height o o.stage f.scene f.begun waiting s.begun;
  }

  pub frames_live : (meaning : Option ℕ → Meaning) (left : Option Kept_value) (opens : List Open) (wss : List (List Work))
      (fs : List (Local × Option Place)) → StandFrames world meaning m left opens wss fs →
      StandFrames world meaning (with_lives m os) left opens wss fs
  frames_live meaning left [] wss [] s = s
  frames_live meaning left [] wss (f ∷ fs) s = absurd s
  frames_live meaning left (o ∷ opens) [] fs s = absurd s
  frames_live meaning left (o ∷ opens) (ws ∷ wss) [] s = absurd s
  frames_live meaning left (o ∷ opens) (ws ∷ wss) (f ∷ fs) s =
      (frame_live (meaning o.function) (length opens) o ws left f.0 f.1 s.0, s.1, frames_live meaning None opens wss fs s.2)

  -- all together
  pub stands_live : (meaning : Option ℕ → Meaning) (st : State) → Stands world meaning m st →
      Stands world meaning (with_lives m os) (record st { store = store_of (with_objects m.memory os) m.streams })
  stands_live meaning st s = record {
    program = s.program;
    code = s.code;
    listed = s.listed;
    memory = record {
      store = refl;
      sound = keeps.sound s.memory.sound;
      tagged = keeps.tagged s.memory.tagged;
      bare = keeps.bare s.memory.bare;
      high = keeps.high s.memory.high;
      rows = s.memory.rows;
    };
    tables = tables_live s.tables;
    result = result_stays m.memory (with_objects m.memory os) m.left keeps s.result;
    frames = frames_live meaning m.left (m.top ∷ reverse m.below.items) (m.work.now ∷ m.work.below) (frames_of st) s.frames;
    depth = s.depth;
  }
