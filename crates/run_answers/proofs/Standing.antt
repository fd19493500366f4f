-- A machine stands as it stood where its memory goes on, and what else changes is of the full expression of its top frame.
use Rattle.std.proofs.Common.{◌≡◌, ◌≢◌, ℕ, ◌+◌, ◌<◌, ◌≤◌, Bool, true, false, refl, sym, ap, ◌∙◌, subst, arith, List, [], ◌∷◌, ◌++◌, length, map, Option, Some}
use Rattle.std.proofs.Common.{None, slice_get}
use Rattle.std.specs.Borrow.{Bor}
use Rattle.std.specs.Prelude.{is_some}
use Rattle.std.specs.List.{All}
use Rattle.std.proofs.lemmas.List.Elements.{All-head, All-tail}
use Rattle.ub_base.specs.declared.clause.Kind.TheVariants.{Val, Body}
use Rattle.addr_map.specs.declared.map.Row.{Row}
use Rattle.c_types.specs.declared.ty.Ty.{Ty}
use Rattle.c_types.specs.Types.{CType, int, type_of}
use Rattle.ub_base.specs.declared.names.ObjName.TheVariants.{Static, Lit}
use Rattle.c_typed.specs.declared.program.Constant.{Constant}
use Rattle.c_typed.specs.declared.program.Content.{Content}
use Rattle.c_typed.specs.declared.program.Content.TheVariants as content
use Rattle.c_typed.specs.declared.program.Program.{Program}
use Rattle.c_typed.specs.declared.tree.Target.{Target}
use Rattle.c_typed.specs.declared.tree.Target.TheVariants as target
use Rattle.c_typed.specs.Lawful.{ContentIsLawful}
use Rattle.c_typed.specs.declared.tree.Access.{Access}
use Rattle.c_typed.specs.declared.tree.Access.TheVariants as access
use Rattle.c_typed.specs.declared.tree.Place.{Place}
use Rattle.c_typed.specs.Order.{place}
use Rattle.exposure.specs.declared.prov.Prov.TheVariants.{Whole}
use Rattle.mem_spec.specs.Acts.{scalar}
use Rattle.mem_objects.specs.declared.cell.Via.{Via}
use Rattle.mem_objects.specs.declared.cell.Via.TheVariants as vias
use Rattle.mem_objects.specs.Cells.{type_numbered}
use Rattle.mem_objects.specs.Keeps.{GoesOn, IsNumbered, Keeps, RowsStay}
use Rattle.mem_objects.specs.Memory.{Kept}
use Rattle.mem_objects.specs.Stores.{Sees}
use Rattle.c_model.specs.Nodes.{content_bytes}
use Rattle.c_model.specs.Steps.{Begun, Local, Scene, auto_name}
use Rattle.c_model.specs.Values.{Value}
use Rattle.c_model.specs.World.{World}
use Rattle.run_values.specs.declared.filling.Filling.{Filling}
use Rattle.run_values.specs.declared.places.Places.{Places}
use Rattle.run_values.specs.Contents.{address_of, content_of, filled_by, CanHold, CanHoldAll, IsPlaced}
use Rattle.run_values.specs.Fills.{AreFillings}
use Rattle.run_values.specs.Kept.{AreOf}
use Rattle.run_values.specs.Stores.{SeesAs}
use Rattle.run_values.proofs.Keeping.{fillings_stay}
use Rattle.run_values.specs.Placed.{ArePlaced}
use Rattle.run_values.proofs.Placed.{can_hold_all, placed_still}
use Rattle.run_values.proofs.Placed.{named_still}
use Rattle.run_layout.specs.declared.steps.Listed.{Listed}
use Rattle.run_layout.specs.declared.steps.StoreCode.{StoreCode}
use Rattle.run_layout.specs.declared.whole.Code.{Code}
use Rattle.run_control.specs.declared.work.Work.{Work}
use Rattle.run_control.specs.View.{Meaning}
use Rattle.seq_order.specs.declared.done.Marks.{Marks}
use Rattle.run_listing.specs.Along.{part_of}
use Rattle.run_state.specs.declared.machine.Machine.{Machine}
use Rattle.run_state.specs.declared.machine.Open.{Open}
use Rattle.run_state.specs.declared.machine.Stage.{Stage}
use Rattle.run_state.specs.declared.watch.Begun.{Begun as Shown}
use Rattle.run_state.specs.Stands.{
  AreBytes,
  AreEach,
  Holds,
  HoldsAll,
  IsAbove,
  IsVia,
  StandFrames,
  StandLocals,
  StandsBegun,
  StandsDone,
  StandsExpression,
  StandsFrame,
  StandsTables,
  StandsValues,
  result_seen,
}
use Rattle.run_answers.proofs.Stays.{holds_stay, seen_stays, type_stays}
use Rattle.run_answers.specs.Ending.{IsInRooms, KeepsTo, KeepToRooms, stage_part}

-- ---- what the code names by numbers stands in a memory that goes on
longer : {A : Type 0} (xs ys : List A) → length xs ≤ length (xs ++ ys)
longer [] ys = omega arith
longer (x ∷ xs) ys = omega (arith, longer xs ys)

grown : {A : Type 0} (old new : List A) → GoesOn old new → length old ≤ length new
grown {A = A} old new g = subst (λ (l : List A). length old ≤ length l) (sym g.1) (longer old g.0)

numbered_on : (n k : ℕ) (via : Via) → n ≤ k → IsNumbered n via → IsNumbered k via
numbered_on n k (vias.Scalar id) le is = omega (arith, le, is)
numbered_on n k vias.Whole le is = tt
numbered_on n k vias.Bytes le is = tt

-- what a constant that can be held puts is the same under rows that stay
target_still : (m : Kept) (places : Places) (to : Target) (offset : ℕ) → IsPlaced m places to → (rows : List Row) → RowsStay m.rows rows →
    content_bytes rows (address_of to offset) ≡ content_bytes m.rows (address_of to offset)
target_still m places (target.Static k) offset placed rows stay = named_still m (Static k) offset placed.0 placed.2 rows stay
target_still m places (target.Literal k) offset placed rows stay = named_still m (Lit k) offset placed.0 placed.2 rows stay
target_still m places (target.Function k) offset placed rows stay = refl

content_still : (m : Kept) (places : Places) (c : Content) → CanHold m places c → (rows : List Row) → RowsStay m.rows rows →
    content_bytes rows (content_of c) ≡ content_bytes m.rows (content_of c)
content_still m places (content.Zeros n) can rows stay = refl
content_still m places (content.Bytes bs) can rows stay = refl
content_still m places (content.Address to offset) can rows stay = target_still m places to offset can rows stay

module _ (old new : Kept) (keeps : Keeps old new) where
  scalar_on : (via : Via) (ty : CType) → IsNumbered (length old.types) via → Sees old via (scalar ty) → Sees new via (scalar ty)
  scalar_on (vias.Scalar id) ty le s = record {
    numbered = subst (λ (ts : List Ty). type_numbered (map type_of ts) id.number ≡ Some ty) (sym keeps.types.1)
        (type_stays old.types keeps.types.0 id.number le ∙ s.numbered);
    plain = s.plain;
    character = s.character;
  }
  scalar_on vias.Whole ty le s = absurd s
  scalar_on vias.Bytes ty le s = absurd s

  access_on : (via : Via) (a : Access) (ty : CType) → IsNumbered (length old.types) via → SeesAs old via a ty → SeesAs new via a ty
  access_on via (access.Integer kind) ty le s = scalar_on via (int kind) le s
  access_on via access.Pointer ty le s = scalar_on via ty le s
  access_on via access.Function ty le s = scalar_on via ty le s
  access_on via (access.Whole size align) ty le s = s

  vias_on : (ss : List StoreCode) (vs : List Via) → AreEach (IsVia old) ss vs → AreEach (IsVia new) ss vs
  vias_on [] [] a = a
  vias_on [] (v ∷ vs) a = absurd a
  vias_on (s ∷ ss) [] a = absurd a
  vias_on (s ∷ ss) (v ∷ vs) a = (
    (
      access_on v s.access (type_of s.ty.now) a.0.1 a.0.0,
      numbered_on (length old.types) (length new.types) v (grown old.types new.types keeps.types) a.0.1,
    ),
    vias_on ss vs a.1,
  )

  filled_on : (places : Places) (fs : List Filling) (cs : List Constant) → CanHoldAll old places cs → AreOf old fs → AreFillings old fs (map filled_by cs) →
      AreFillings new fs (map filled_by cs)
  filled_on places [] [] can of a = a
  filled_on places [] (c ∷ cs) can of a = absurd a
  filled_on places (f ∷ fs) [] can of a = absurd a
  filled_on places (f ∷ fs) (c ∷ cs) can of a = (
    record {
      at = a.0.at;
      bytes = seen_stays old new f.bytes.cells keeps of.0.0 of.0.1 ∙ a.0.bytes ∙ sym (content_still old places c.content can.0 new.rows keeps.rows);
    },
    filled_on places fs cs can.1 of.1 a.1,
  )

  abbrev AreLawful : Program → Bor (List Constant) → Type 0
  AreLawful p cs = All (λ c. ContentIsLawful p c.content) cs.now

  bytes_on : (p : Program) (places : Places) → ArePlaced old p places → (cs : List (Bor (List Constant))) (fs : List (List Filling)) →
      All (AreLawful p) cs → AreEach (AreBytes old) cs fs → AreEach (AreBytes new) cs fs
  bytes_on p places placed [] [] lawful a = a
  bytes_on p places placed [] (f ∷ fs) lawful a = absurd a
  bytes_on p places placed (c ∷ cs) [] lawful a = absurd a
  bytes_on p places placed (c ∷ cs) (f ∷ fs) lawful a = (
    (
      filled_on places f c.now (can_hold_all old p places c.now placed (All-head (AreLawful p) c cs lawful)) a.0.1 a.0.0,
      fillings_stay old new f keeps a.0.1,
    ),
    bytes_on p places placed cs fs (All-tail (AreLawful p) c cs lawful) a.1,
  )

-- ---- the one machine with this top frame, and the memory, the values and what is shown and noted of full expressions of another
abbrev pub moved_on : (m n : Machine) (t : Open) → Machine
moved_on m n t = record m {
  top = t;
  memory = n.memory;
  values = n.values;
  begun = n.begun;
  strayed = n.strayed;
  items = n.items;
  spare = n.spare;
}

pub tables_on : (m n : Machine) (t : Open) → Keeps m.memory n.memory →
    All (λ cs. All (λ c. ContentIsLawful m.program.now c.content) cs.now) m.image.code.now.tables.constants.items → StandsTables m →
    StandsTables (moved_on m n t)
tables_on m n t keeps lawful s = record {
  places = placed_still m.memory n.memory m.program.now m.places keeps s.places;
  vias = vias_on m.memory n.memory keeps m.image.code.now.tables.stores.items m.image.vias.items s.vias;
  fillings = bytes_on m.memory n.memory keeps m.program.now m.places s.places m.image.code.now.tables.constants.items m.image.fillings.items lawful s.fillings;
}

pub result_none : (k l : Kept) (n : Option ℕ) → result_seen k n None ≡ result_seen l n None
result_none k l (Some n) = refl
result_none k l None = refl

pub locals_on : (world : World) (m n : Machine) (t : Open) → Keeps m.memory n.memory → (o : Open) (f : Scene) (bs : List (ℕ × ℕ)) →
    StandLocals world m o f bs → StandLocals world (moved_on m n t) o f bs
locals_on world m n t keeps o f [] l = tt
locals_on world m n t keeps o f (b ∷ bs) l = (
  (l.0.0, l.0.1, λ k lt. ((l.0.2 k lt).0, keeps.made (Whole (auto_name world f b.1 k)) (l.0.2 k lt).1)),
  locals_on world m n t keeps o f bs l.1,
)

pub part_same : (listing : List Listed) (a b c d : ℕ) → a ≡ b → c ≡ d → part_of listing a c ≡ part_of listing b d
part_same listing a b c d first end = ap (λ (i : ℕ). part_of listing i c) first ∙ ap (part_of listing b) end

pub some_there : {A : Type 0} (o : Option A) (x : A) → o ≡ Some x → is_some o ≡ true
some_there o x e = ap is_some e

below_room : (base n rooms at : ℕ) → n < rooms → base + rooms ≤ at → base + n < at
below_room base n rooms at lt le = omega (arith, lt, le)

-- a frame in which a body waits has handed on its arguments
no_arguments : (world : World) (meaning : Meaning) (m : Machine) (height : ℕ) (o : Open) (stage : Option Stage) (f : Scene) (e : Option Begun)
    (u : Place) (g : Local) (code : Code) (rooms : ℕ) → StandsBegun world meaning m height o stage f e (Some u) → KeepsTo code rooms stage g e →
    g.arguments ≡ []
no_arguments world meaning m height o None f None u g code rooms b keeps = absurd (cc)
no_arguments world meaning m height o None f (Some e) u g code rooms b keeps = absurd b
no_arguments world meaning m height o (Some stage) f None u g code rooms b keeps = absurd b
no_arguments world meaning m height o (Some stage) f (Some e) u g code rooms b keeps = keeps.0

-- ---- the frames below: what is kept of them stays, and their values stand below the rooms of the top frame
module _ (world : World) (m n : Machine) (t : Open) (keeps : Keeps m.memory n.memory) (at top : ℕ)
    (rooms : (j : ℕ) → j < at → slice_get n.values.items j ≡ slice_get m.values.items j)
    (begun : (j : ℕ) (b : Shown) → j ≢ top → slice_get m.begun.items j ≡ Some b → slice_get n.begun.items j ≡ Some b)
    (strays : (j : ℕ) (other : List Marks) → j ≢ top → slice_get m.strayed.items j ≡ Some other → slice_get n.strayed.items j ≡ Some other) where
  holds_under : (room : ℕ) (v : Value) → room < at → Holds m.memory m.values.items room v → Holds n.memory n.values.items room v
  holds_under room v lt h = holds_stay m.memory n.memory m.values.items n.values.items room v keeps (rooms room lt) h

  values_under : (base first end : ℕ) (f : Scene) (e : Begun) (count : ℕ) → IsInRooms (part_of m.image.code.now.listing.items first end) count e →
      base + count ≤ at → StandsValues world m base first end f e → StandsValues world (moved_on m n t) base first end f e
  values_under base first end f e count in_rooms le s = record {
    val = λ k w given. holds_under (base + k) w
        (below_room base k count at (in_rooms.val k (some_there (e.given (place k Val)) w given)) le) (s.val k w given);
    body = λ k w none given. holds_under (base + k) w
        (below_room base k count at (in_rooms.body k (some_there (e.given (place k Body)) w given)) le) (s.body k w none given);
    update = λ i due store room target c old es w there act kind is given. holds_under (base + room) _
        (below_room base room count at (in_rooms.update room (record {
          due = due;
          store = store;
          target = target;
          change = c;
          old = old;
          operands = es;
          listed = (i, there);
          act = act;
          effect = kind;
          update = is;
        })) le) (s.update i due store room target c old es w there act kind is given);
  }

  done_under : (straight : Bool) (height first cursor end : ℕ) (f : Scene) (e : Begun) (waiting : Option Place) → height ≢ top →
      StandsDone straight world m height first cursor end f e waiting →
      StandsDone straight world (moved_on m n t) height first cursor end f e waiting
  done_under true height first cursor end f e waiting ne d = d
  done_under false height first cursor end f e waiting ne d = (d.0, strays height d.0 ne d.1, d.2)

  expression_under : (meaning : Meaning) (height : ℕ) (o : Open) (stage : Stage) (f : Scene) (e : Begun) (waiting : Option Place) → height ≢ top →
      o.base + o.rooms ≤ at → IsInRooms (stage_part m.image.code.now stage) o.rooms e →
      StandsExpression world meaning m height o stage f e waiting → StandsExpression world meaning (moved_on m n t) height o stage f e waiting
  expression_under meaning height o stage f e waiting ne le in_rooms x = record {
    laid = x.laid;
    at = x.at;
    root = x.root;
    first = x.first;
    end = x.end;
    value = x.value;
    rooms = x.rooms;
    what = x.what;
    shown = x.shown;
    shows = begun height x.shown ne x.shows;
    frame = x.frame;
    turn = x.turn;
    tree = x.tree;
    tree_root = x.tree_root;
    taken = x.taken;
    done = done_under stage.straight height x.laid.first stage.cursor x.laid.end f e waiting ne x.done;
    values = values_under o.base x.laid.first x.laid.end f e o.rooms
        (subst (λ (es : List Listed). IsInRooms es o.rooms e)
        (part_same m.image.code.now.listing.items stage.first x.laid.first stage.end x.laid.end x.first x.end) in_rooms) le x.values;
  }

  begun_under : (meaning : Meaning) (height : ℕ) (o : Open) (stage : Option Stage) (f : Scene) (e : Option Begun) (waiting : Option Place) (g : Local) →
      height ≢ top → o.base + o.rooms ≤ at → KeepsTo m.image.code.now o.rooms stage g e →
      StandsBegun world meaning m height o stage f e waiting → StandsBegun world meaning (moved_on m n t) height o stage f e waiting
  begun_under meaning height o None f None waiting g ne le to b = b
  begun_under meaning height o None f (Some e) waiting g ne le to b = absurd b
  begun_under meaning height o (Some stage) f None waiting g ne le to b = absurd b
  begun_under meaning height o (Some stage) f (Some e) waiting g ne le to b = expression_under meaning height o stage f e waiting ne le to.1 b

  frame_under : (meaning : Meaning) (height : ℕ) (o : Open) (ws : List Work) (f : Local) (u : Place) → height ≢ top → o.base + o.rooms ≤ at →
      KeepsTo m.image.code.now o.rooms o.stage f f.begun → StandsFrame world meaning m height o ws None f (Some u) →
      StandsFrame world meaning (moved_on m n t) height o ws None f (Some u)
  frame_under meaning height o ws f u ne le to s =
      let none = no_arguments world meaning m height o o.stage f.scene f.begun u f m.image.code.now o.rooms s.begun to in
      record {
        number = s.number;
        turn = s.turn;
        function = s.function;
        arguments = subst (λ (vs : List Value). HoldsAll n.memory n.values.items o.base vs) (sym none) tt;
        locals = locals_on world m n t keeps o f.scene f.scene.blocks s.locals;
        result = s.result ∙ result_none m.memory n.memory o.function;
        control = s.control;
        begun = begun_under meaning height o o.stage f.scene f.begun (Some u) f ne le to s.begun;
      }

  -- the frames below one whose rooms begin there or before
  pub frames_under : (meaning : Option ℕ → Meaning) (o : Open) (f : Local) (os : List Open) (wss : List (List Work)) (hs : List (Local × Place)) →
      length os ≤ top → o.base ≤ at → IsAbove o f os (map (λ h. (h.0, Some h.1)) hs) → KeepToRooms m.image.code.now os hs →
      StandFrames world meaning m None os wss (map (λ h. (h.0, Some h.1)) hs) →
      StandFrames world meaning (moved_on m n t) None os wss (map (λ h. (h.0, Some h.1)) hs)
  frames_under meaning o f [] wss [] high le a to s = s
  frames_under meaning o f [] wss (h ∷ hs) high le a to s = absurd s
  frames_under meaning o f (p ∷ os) [] hs high le a to s = absurd s
  frames_under meaning o f (p ∷ os) (ws ∷ wss) [] high le a to s = absurd s
  frames_under meaning o f (p ∷ os) (ws ∷ wss) (h ∷ hs) high le a to s =
      let count : p.base + p.rooms ≤ at = omega (arith, le, a.rooms) in
      let lower : length os ≢ top = λ e. omega (arith, high, e) in (
        frame_under (meaning p.function) (length os) p ws h.0 h.1 lower count to.0 s.0,
        s.1,
        frames_under meaning p h.0 os wss hs (omega (arith, high)) (omega (arith, count)) s.1 to.1 s.2,
      )
