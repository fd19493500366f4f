-- A machine stands as it stood where its memory has more objects, with as many types, and the objects of its frames stand where they stood.
use Rattle.std.proofs.Common.{
  ◌≡◌,
  ℕ,
  suc,
  ◌+◌,
  ◌<◌,
  ◌≤◌,
  Bool,
  true,
  false,
  refl,
  sym,
  ap,
  ap₂,
  arith,
  ◌∙◌,
  subst,
  List,
  [],
  ◌∷◌,
  ◌++◌,
  length,
  map,
  Option,
  Some,
  None,
  slice_get,
}
use Rattle.std.specs.Borrow.{Bor}
use Rattle.std.specs.List.{All}
use Rattle.std.proofs.lemmas.List.Elements.{All-head, All-tail}
use Rattle.ub_base.specs.declared.names.ObjName.TheVariants as names
use Rattle.addr_map.specs.declared.map.Row.{Row}
use Rattle.exposure.specs.declared.prov.Prov.{Prov}
use Rattle.exposure.specs.declared.prov.Prov.TheVariants.{Whole}
use Rattle.c_types.specs.declared.ty.Ty.{Ty}
use Rattle.c_types.specs.Types.{CType, int, type_of}
use Rattle.c_typed.specs.Lawful.{ContentIsLawful}
use Rattle.c_typed.specs.declared.program.Program.{Program}
use Rattle.c_typed.specs.declared.program.Constant.{Constant}
use Rattle.c_typed.specs.declared.program.Content.{Content}
use Rattle.c_typed.specs.declared.program.Content.TheVariants as contents
use Rattle.c_typed.specs.declared.tree.Access.{Access}
use Rattle.c_typed.specs.declared.tree.Access.TheVariants as access
use Rattle.c_typed.specs.declared.tree.Place.{Place}
use Rattle.c_typed.specs.declared.tree.Target.{Target}
use Rattle.c_typed.specs.declared.tree.Target.TheVariants as targets
use Rattle.mem_spec.specs.Acts.{scalar}
use Rattle.mem_spec.specs.Store.{Byte, TaggedByte, written}
use Rattle.mem_objects.specs.declared.cell.Cell.{Cell}
use Rattle.mem_objects.specs.declared.cell.State.{State as Byte_state}
use Rattle.mem_objects.specs.declared.cell.State.TheVariants as states
use Rattle.mem_objects.specs.declared.cell.Via.{Via}
use Rattle.mem_objects.specs.declared.cell.Via.TheVariants as vias
use Rattle.mem_objects.specs.declared.value.Value.{Value as Kept_value}
use Rattle.mem_objects.specs.declared.value.Value.TheVariants as values
use Rattle.mem_objects.specs.Cells.{byte_in_state, tagged_in, type_numbered}
use Rattle.mem_objects.specs.Keeps.{IsNumbered, Keeps, RowsStay}
use Rattle.mem_objects.specs.Memory.{CellsKnown, Kept}
use Rattle.mem_objects.specs.Pieces.{seen}
use Rattle.mem_objects.specs.Stores.{Sees}
use Rattle.mem_objects.proofs.ProvLemmas.{prov_more}
use Rattle.c_model.specs.Nodes.{content_bytes}
use Rattle.c_model.specs.Steps.{Begun, Local, Scene, auto_name}
use Rattle.c_model.specs.Values.{Value, Whole as Block_value}
use Rattle.c_model.specs.World.{World}
use Rattle.run_values.specs.declared.places.Places.{Places}
use Rattle.run_values.specs.declared.filling.Filling.{Filling}
use Rattle.run_values.specs.Contents.{CanHold, CanHoldAll, IsPlaced, address_of, content_of, filled_by}
use Rattle.run_values.specs.Fills.{AreFillings}
use Rattle.run_values.specs.Kept.{AreOf, IsOf}
use Rattle.run_values.specs.Placed.{ArePlaced}
use Rattle.run_values.specs.Stores.{SeesAs}
use Rattle.run_values.specs.Views.{value_in}
use Rattle.run_values.proofs.Keeping.{fillings_stay, values_stay}
use Rattle.run_values.proofs.Placed.{can_hold_all, placed_still}
use Rattle.run_values.proofs.Placed.{named_still}
use Rattle.run_layout.specs.declared.steps.StoreCode.{StoreCode}
use Rattle.run_control.specs.declared.work.Work.{Work}
use Rattle.run_control.specs.View.{Meaning}
use Rattle.run_state.specs.declared.machine.Machine.{Machine}
use Rattle.run_state.specs.declared.machine.Open.{Open}
use Rattle.run_state.specs.declared.machine.Stage.{Stage}
use Rattle.run_state.specs.Stands.{
  AreBytes,
  AreEach,
  Holds,
  HoldsAll,
  IsResultOf,
  IsVia,
  StandFrames,
  StandLocals,
  StandsBegun,
  StandsDone,
  StandsExpression,
  StandsFrame,
  StandsTables,
  StandsValues,
  result_seen,
}
use Rattle.run_answers.specs.Entering.{AreBelow, KeepPlaces}

-- ---- bytes stand for what they stood for
byte_stays : (ps more : List Prov) (c : Cell) (s : Byte_state) → c.origin.number ≤ length ps →
    byte_in_state (ps ++ more) s c ≡ byte_in_state ps s c
byte_stays ps more c states.Unwritten le = refl
byte_stays ps more c states.Plain le = refl
byte_stays ps more c states.Piece le = ap (λ (p : Prov). written c.number (Some (p, c.piece_index))) (prov_more ps more c.origin.number le)

cells_stay : (ps more : List Prov) (ts : List CType) (cs : List Cell) → CellsKnown (length ps) cs →
    map (tagged_in (ps ++ more) ts) cs ≡ map (tagged_in ps ts) cs
cells_stay ps more ts [] known = refl
cells_stay ps more ts (c ∷ cs) known =
    ap₂ (λ (b : TaggedByte) (bs : List TaggedByte). b ∷ bs)
    (ap (λ (b : Byte). record { byte = b; tag = (tagged_in ps ts c).tag }) (byte_stays ps more c c.state known.0)) (cells_stay ps more ts cs known.1)

pub seen_grown : (old new : Kept) (cs : List Cell) → Keeps old new → new.types ≡ old.types → CellsKnown (length old.origins) cs → seen new cs ≡ seen old cs
seen_grown old new cs keeps types known =
    ap₂ (λ (ps : List Prov) (ts : List Ty). map (tagged_in ps (map type_of ts)) cs) keeps.origins.1 types
    ∙ cells_stay old.origins keeps.origins.0 (map type_of old.types) cs known

pub value_grown : (old new : Kept) (h : Kept_value) → Keeps old new → new.types ≡ old.types → IsOf old h → value_in new h ≡ value_in old h
value_grown old new (values.Block b) keeps types is =
    ap (λ (bs : List TaggedByte). Block_value bs b.source) (seen_grown old new b.cells keeps types is.known)
value_grown old new (values.Int z) keeps types is = refl
value_grown old new (values.Ptr a p) keeps types is = refl
value_grown old new (values.Func a) keeps types is = refl
value_grown old new values.Missing keeps types is = refl
value_grown old new values.Nothing keeps types is = refl

-- ---- what the code names by numbers
sees_grown : (old new : Kept) (via : Via) (ty : CType) → new.types ≡ old.types → Sees old via (scalar ty) → Sees new via (scalar ty)
sees_grown old new (vias.Scalar id) ty types s = record {
  numbered = ap (λ (ts : List Ty). type_numbered (map type_of ts) id.number) types ∙ s.numbered;
  plain = s.plain;
  character = s.character;
}
sees_grown old new vias.Whole ty types s = absurd s
sees_grown old new vias.Bytes ty types s = absurd s

sees_as : (old new : Kept) (via : Via) (a : Access) (ty : CType) → new.types ≡ old.types → SeesAs old via a ty → SeesAs new via a ty
sees_as old new via (access.Integer kind) ty types s = sees_grown old new via (int kind) types s
sees_as old new via access.Pointer ty types s = sees_grown old new via ty types s
sees_as old new via access.Function ty types s = sees_grown old new via ty types s
sees_as old new via (access.Whole size align) ty types s = s

vias_grown : (old new : Kept) (ss : List StoreCode) (vs : List Via) → new.types ≡ old.types → AreEach (IsVia old) ss vs → AreEach (IsVia new) ss vs
vias_grown old new [] [] types a = a
vias_grown old new [] (v ∷ vs) types a = absurd a
vias_grown old new (s ∷ ss) [] types a = absurd a
vias_grown old new (s ∷ ss) (v ∷ vs) types a = (
  (
    sees_as old new v s.access _ types a.0.0,
    subst (λ (ts : List Ty). IsNumbered (length ts) v) (sym types) a.0.1,
  ),
  vias_grown old new ss vs types a.1,
)

target_grown : (m : Kept) (places : Places) (target : Target) (offset : ℕ) → IsPlaced m places target → (rows : List Row) → RowsStay m.rows rows →
    content_bytes rows (address_of target offset) ≡ content_bytes m.rows (address_of target offset)
target_grown m places (targets.Static k) offset placed rows stay =
    named_still m (names.Static k) offset placed.0 placed.2 rows stay
target_grown m places (targets.Literal k) offset placed rows stay =
    named_still m (names.Lit k) offset placed.0 placed.2 rows stay
target_grown m places (targets.Function k) offset placed rows stay = refl

content_grown : (m : Kept) (places : Places) (content : Content) → CanHold m places content → (rows : List Row) → RowsStay m.rows rows →
    content_bytes rows (content_of content) ≡ content_bytes m.rows (content_of content)
content_grown m places (contents.Zeros n) can rows stay = refl
content_grown m places (contents.Bytes bs) can rows stay = refl
content_grown m places (contents.Address target offset) can rows stay = target_grown m places target offset can rows stay

module _ (old new : Kept) (p : Program) (places : Places) (keeps : Keeps old new) (types : new.types ≡ old.types) (placed : ArePlaced old p places) where
  filled_grown : (fs : List Filling) (cs : List Constant) → CanHoldAll old places cs → AreOf old fs → AreFillings old fs (map filled_by cs) →
      AreFillings new fs (map filled_by cs)
  filled_grown [] [] can are a = a
  filled_grown [] (c ∷ cs) can are a = absurd a
  filled_grown (f ∷ fs) [] can are a = absurd a
  filled_grown (f ∷ fs) (c ∷ cs) can are a = (
    record {
      at = a.0.at;
      bytes = seen_grown old new f.bytes.cells keeps types are.0.0 ∙ a.0.bytes ∙ sym (content_grown old places c.content can.0 new.rows keeps.rows);
    },
    filled_grown fs cs can.1 are.1 a.1,
  )

  pub bytes_grown : (cs : List (Bor (List Constant))) (fs : List (List Filling)) → All (λ cs. All (λ c. ContentIsLawful p c.content) cs.now) cs →
      AreEach (AreBytes old) cs fs → AreEach (AreBytes new) cs fs
  bytes_grown [] [] law a = a
  bytes_grown [] (f ∷ fs) law a = absurd a
  bytes_grown (c ∷ cs) [] law a = absurd a
  bytes_grown (c ∷ cs) (f ∷ fs) law a =
      let P = λ (xs : Bor (List Constant)). All (λ x. ContentIsLawful p x.content) xs.now in (
        (filled_grown f c.now (can_hold_all old p places c.now placed (All-head P c cs law)) a.0.1 a.0.0, fillings_stay old new f keeps a.0.1),
        bytes_grown cs fs (All-tail P c cs law) a.1,
      )

-- ---- the machine with the memory and the objects of another
abbrev pub with_objects_of : (m n : Machine) → Machine
with_objects_of m n = record m { memory = n.memory; locals = n.locals }

low_place : (locals first k count limit : ℕ) → k < count → locals + (first + count) ≤ limit → locals + (first + k) < limit
low_place locals first k count limit lt le = omega (arith, lt, le)

module _ (world : World) (m n : Machine) (limit : ℕ) (keeps : Keeps m.memory n.memory) (types : n.memory.types ≡ m.memory.types)
    (low : (j : ℕ) → j < limit → slice_get n.locals.items j ≡ slice_get m.locals.items j) where
  pub tables_grown : All (λ cs. All (λ c. ContentIsLawful m.program.now c.content) cs.now) m.image.code.now.tables.constants.items → StandsTables m →
      StandsTables (with_objects_of m n)
  tables_grown law t = record {
    places = placed_still m.memory n.memory m.program.now m.places keeps t.places;
    vias = vias_grown m.memory n.memory m.image.code.now.tables.stores.items m.image.vias.items types t.vias;
    fillings = bytes_grown m.memory n.memory m.program.now m.places keeps types t.places m.image.code.now.tables.constants.items m.image.fillings.items law
        t.fillings;
  }

  holds_grown : (rooms : List Kept_value) (room : ℕ) (v : Value) → Holds m.memory rooms room v → Holds n.memory rooms room v
  holds_grown rooms room v h =
      (h.0, h.1, values_stay m.memory n.memory h.0 keeps h.2, value_grown m.memory n.memory h.0 keeps types h.2 ∙ h.3)

  pub held_grown : (rooms : List Kept_value) (room : ℕ) (vs : List Value) → HoldsAll m.memory rooms room vs → HoldsAll n.memory rooms room vs
  held_grown rooms room [] h = h
  held_grown rooms room (v ∷ vs) h = (holds_grown rooms room v h.0, held_grown rooms (suc room) vs h.1)

  result_grown : (o : Option ℕ) (left : Option Kept_value) → IsResultOf m.memory left → result_seen n.memory o left ≡ result_seen m.memory o left
  result_grown o (Some v) is = ap (λ (w : Value). Some w) (value_grown m.memory n.memory v keeps types is)
  result_grown (Some k) None is = refl
  result_grown None None is = refl

  done_grown : (straight : Bool) (height first cursor end : ℕ) (f : Scene) (e : Begun) (waiting : Option Place) →
      StandsDone straight world m height first cursor end f e waiting →
      StandsDone straight world (with_objects_of m n) height first cursor end f e waiting
  done_grown true height first cursor end f e waiting d = d
  done_grown false height first cursor end f e waiting d = d

  values_grown : (base first end : ℕ) (f : Scene) (e : Begun) → StandsValues world m base first end f e →
      StandsValues world (with_objects_of m n) base first end f e
  values_grown base first end f e v = record {
    val = λ k w given. holds_grown m.values.items (base + k) w (v.val k w given);
    body = λ k w none given. holds_grown m.values.items (base + k) w (v.body k w none given);
    update = λ i due store room target c old es w at act kind is given.
        holds_grown m.values.items (base + room) _ (v.update i due store room target c old es w at act kind is given);
  }

  expression_grown : (meaning : Meaning) (height : ℕ) (o : Open) (stage : Stage) (f : Scene) (e : Begun) (waiting : Option Place) →
      StandsExpression world meaning m height o stage f e waiting → StandsExpression world meaning (with_objects_of m n) height o stage f e waiting
  expression_grown meaning height o stage f e waiting x = record {
    laid = x.laid;
    at = x.at;
    root = x.root;
    first = x.first;
    end = x.end;
    value = x.value;
    rooms = x.rooms;
    what = x.what;
    shown = x.shown;
    shows = x.shows;
    frame = x.frame;
    turn = x.turn;
    tree = x.tree;
    tree_root = x.tree_root;
    taken = x.taken;
    done = done_grown stage.straight height x.laid.first stage.cursor x.laid.end f e waiting x.done;
    values = values_grown o.base x.laid.first x.laid.end f e x.values;
  }

  begun_grown : (meaning : Meaning) (height : ℕ) (o : Open) (stage : Option Stage) (f : Scene) (e : Option Begun) (waiting : Option Place) →
      StandsBegun world meaning m height o stage f e waiting → StandsBegun world meaning (with_objects_of m n) height o stage f e waiting
  begun_grown meaning height o None f None waiting b = b
  begun_grown meaning height o None f (Some e) waiting b = absurd b
  begun_grown meaning height o (Some stage) f None waiting b = absurd b
  begun_grown meaning height o (Some stage) f (Some e) waiting b = expression_grown meaning height o stage f e waiting b

  locals_grown : (o : Open) (f : Scene) (bs : List (ℕ × ℕ)) → AreBelow m.image.code.now o limit bs → StandLocals world m o f bs →
      StandLocals world (with_objects_of m n) o f bs
  locals_grown o f [] below l = l
  locals_grown o f (b ∷ bs) below l = (
    (
      l.0.0,
      l.0.1,
      λ k lt.
          let c = l.0.0 in
          let at = low_place o.locals c.first k c.objects.count limit lt (below.0 c l.0.1) in
          (low (o.locals + (c.first + k)) at ∙ (l.0.2 k lt).0, keeps.made (Whole (auto_name world f b.1 k)) (l.0.2 k lt).1),
    ),
    locals_grown o f bs below.1 l.1,
  )

  pub frame_grown : (meaning : Meaning) (height : ℕ) (o : Open) (ws : List Work) (left : Option Kept_value) (f : Local) (waiting : Option Place) →
      IsResultOf m.memory left → AreBelow m.image.code.now o limit f.scene.blocks → StandsFrame world meaning m height o ws left f waiting →
      StandsFrame world meaning (with_objects_of m n) height o ws left f waiting
  frame_grown meaning height o ws left f waiting is below s = record {
    number = s.number;
    turn = s.turn;
    function = s.function;
    arguments = held_grown m.values.items o.base f.arguments s.arguments;
    locals = locals_grown o f.scene f.scene.blocks below s.locals;
    result = s.result ∙ sym (result_grown o.function left is);
    control = s.control;
    begun = begun_grown meaning height o o.stage f.scene f.begun waiting s.begun;
  }

  pub frames_grown : (meaning : Option ℕ → Meaning) (opens : List Open) (wss : List (List Work)) (hs : List (Local × Place)) →
      KeepPlaces m.image.code.now limit opens hs → StandFrames world meaning m None opens wss (map (λ h. (h.0, Some h.1)) hs) →
      StandFrames world meaning (with_objects_of m n) None opens wss (map (λ h. (h.0, Some h.1)) hs)
  frames_grown meaning [] wss [] keep s = s
  frames_grown meaning [] wss (h ∷ hs) keep s = absurd s
  frames_grown meaning (o ∷ opens) [] hs keep s = absurd s
  frames_grown meaning (o ∷ opens) (ws ∷ wss) [] keep s = absurd s
  frames_grown meaning (o ∷ opens) (ws ∷ wss) (h ∷ hs) keep s =
      (frame_grown (meaning o.function) (length opens) o ws None h.0 (Some h.1) tt keep.0 s.0, s.1, frames_grown meaning opens wss hs keep.1 s.2)
