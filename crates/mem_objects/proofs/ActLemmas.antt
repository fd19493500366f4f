-- What acts do to the store of a memory.
use Rattle.std.proofs.Common.{
  min,
  max,
  ◌≡◌,
  ℕ,
  zero,
  suc,
  ◌+◌,
  ◌-◌,
  ◌<◌,
  ◌≤◌,
  Bool,
  true,
  false,
  ◌&&◌,
  cond,
  refl,
  sym,
  ap,
  ap₂,
  ◌∙◌,
  subst,
  arith,
  List,
  [],
  ◌∷◌,
  ◌++◌,
  length,
  replicate,
  map,
  Option,
  Some,
  None,
}
use Rattle.c_types.specs.Shapes.{Form}
use Rattle.std.specs.Prelude.{Result, Ok, Err, IfOk, OnOk, nat_lt, nat_le, option_map, slice_index_or, ◌==◌, ◌^◌}
use Rattle.std.proofs.lemmas.Bool.Decides.{nat_tests}
use Rattle.ub_base.specs.declared.names.Item.{Item}
use Rattle.ub_base.specs.declared.names.Item.TheVariants.{Expose, Write, Alive, Dies, Born}
use Rattle.ub_base.specs.declared.names.ObjName.{ObjName}
use Rattle.ub_base.specs.Names.{same_object, same_event}
use Rattle.ub_base.proofs.NameLemmas.{same_object_is}
use Rattle.addr_map.specs.declared.map.Row.{Row}
use Rattle.addr_map.specs.Rows.{row_of, row_at}
use Rattle.exposure.specs.declared.prov.Prov.{Prov}
use Rattle.exposure.specs.declared.prov.Prov.TheVariants.{Empty, Whole}
use Rattle.c_types.specs.Types.{type_of}
use Rattle.c_types.specs.Shapes.{form_of}
use Rattle.c_types.specs.declared.shape.Shape.{Shape}
use Rattle.mem_spec.specs.declared.kind.ObjKind.{ObjKind}
use Rattle.mem_objects.specs.declared.cell.Origin.{Origin}
use Rattle.mem_objects.specs.declared.cell.State.{State}
use Rattle.mem_objects.specs.declared.cell.State.TheVariants as states
use Rattle.exposure.specs.Cells.{Cells, kept_in, has_cell, Settles}
use Rattle.std.specs.Bool.{OnTrue}
use Rattle.ub_base.specs.declared.names.Event.{Event}
use Rattle.c_types.specs.declared.ty.Ty.{Ty}
use Rattle.mem_objects.specs.declared.cell.Cell.{Cell}
use Rattle.mem_spec.specs.Store.{Store, Byte, written, TaggedByte, fresh, with_bytes, born, settled}
use Rattle.mem_spec.specs.Script.{Done, run}
use Rattle.mem_spec.specs.Acts.{candidates, expose, kill, unwrite, size_in, create, has_place, base_in}
use Rattle.mem_spec.specs.Streams.{Io}
use Rattle.mem_objects.specs.Cells.{no_cell, cell_at, byte_in_state, tag_in, tagged_in, prov_numbered}
use Rattle.mem_objects.specs.Held.{Held, held_of, changed, emptied, killed, uncovered, Fits}
use Rattle.mem_objects.specs.Memory.{
  Kept,
  store_of,
  life_in,
  is_shown,
  tagged_in_object,
  IsRowOf,
  HaveRows,
  uncovered_each,
  CellsKnown,
  ObjectsKnown,
  AreKnown,
  newborn,
  IsBorn,
}
use Rattle.mem_objects.proofs.StoreLemmas.{buried_is, shows_each, held_same, held_other, part_kept}

some_is : {X : Type 0} (a b : X) → Some a ≡ Some b → a ≡ b
some_is a b h = cc

-- an item added where there is room
pub first_noted : (old new : List Item) (i : Item) → old ≡ [] → (length old < 32 → new ≡ old ++ i ∷ []) → new ≡ i ∷ []
first_noted old new i e noted = noted (rw e (omega arith)) ∙ ap (λ (is : List Item). is ++ i ∷ []) e

pub noted_after : (old new is : List Item) (i : Item) → old ≡ is → length is < 32 → (length old < 32 → new ≡ old ++ i ∷ []) → new ≡ is ++ i ∷ []
noted_after old new is i e room noted = noted (rw e room) ∙ ap (λ (js : List Item). js ++ i ∷ []) e

pub first_noted_all : (old new is : List Item) → old ≡ [] → (length old + 1 < 32 → new ≡ old ++ is) → new ≡ is
first_noted_all old new is e noted = noted (rw e (omega arith)) ∙ ap (λ (js : List Item). js ++ is) e

pub killed_act : (old : Kept) (x : ObjName) (items : List Item) (rows : List Row) → items ≡ Dies x ∷ [] →
    (io : Io) → run rows (kill x) (store_of old io) ≡ Done tt items (store_of (record old { objects = changed killed x old.objects }) io)
killed_act old x items rows noted io = ap₂ (λ (is : List Item) (s : Store). Done tt is s) (sym noted) (sym (buried_is old x io))

pub exposed_act : (old new : Kept) (prov : Prov) (items : List Item) (rows : List Row) →
    new ≡ record old { objects = uncovered_each (candidates prov) old.objects } → items ≡ map Expose (candidates prov) →
    (io : Io) → run rows (expose prov) (store_of old io) ≡ Done tt items (store_of new io)
exposed_act old new prov items rows e noted io =
    shows_each rows old (candidates prov) io ∙ ap₂ (λ (is : List Item) (s : Store). Done tt is s) (sym noted) (ap (λ (m : Kept). store_of m io) (sym e))

-- ---- unwriting
fresh_at : (n b : ℕ) → slice_index_or (replicate n fresh) b fresh ≡ fresh
fresh_at zero b = refl
fresh_at (suc n) zero = refl
fresh_at (suc n) (suc b) = fresh_at n b

many : (n : ℕ) → length (replicate n fresh) ≡ n
many zero = refl
many (suc n) = ap suc (many n)

-- unwritten up to its size, where no cell lies behind it
fresh_split : (t : Bool) (n b : ℕ) (old : TaggedByte) → (t ≡ false → old ≡ fresh) → fresh ≡ cond t (slice_index_or (replicate n fresh) (b - 0) fresh) old
fresh_split true n b old behind = sym (fresh_at n (b - 0))
fresh_split false n b old behind = sym (behind refl)

past_all : (cs : List Cell) (k : ℕ) → length cs ≤ k → cell_at cs k ≡ no_cell
past_all [] k e = refl
past_all (c ∷ cs) zero e = absurd (omega arith)
past_all (c ∷ cs) (suc k) e = past_all cs k (omega arith)

past_cells : (ps : List Prov) (ts : List Ty) (h : Held) (b : ℕ) → length h.cells ≤ b → tagged_in_object ps ts (Some h) b ≡ fresh
past_cells ps ts h b e = rw (past_all h.cells b e) refl

behind_end : (n m b : ℕ) → m ≡ n → (nat_le 0 b && nat_lt b (0 + m)) ≡ false → n ≤ b
behind_end n m b e t = grind (arith, nat_tests)

empty_split : (s : Bool) (ps : List Prov) (ts : List Ty) (hs : List Held) (x y : ObjName) (h : Held) (n b : ℕ) → same_object x y ≡ s → held_of hs x ≡ Some h →
    length h.cells ≤ n → tagged_in_object ps ts (held_of (changed emptied x hs) y) b ≡ cond (s && (nat_le 0 b && nat_lt b (0 + length (replicate n fresh))))
    (slice_index_or (replicate n fresh) (b - 0) fresh) (tagged_in_object ps ts (held_of hs y) b)
empty_split true ps ts hs x y h n b same e fits =
    let xy : x ≡ y = same_object_is x y same in
    let now : held_of (changed emptied x hs) y ≡ Some (emptied h) = subst (λ (z : ObjName). held_of (changed emptied x hs) z ≡ Some (emptied h)) xy
    (held_same emptied hs x (λ g. refl) ∙ ap (option_map emptied) e) in
    let was : held_of hs y ≡ Some h = subst (λ (z : ObjName). held_of hs z ≡ Some h) xy e in
    rw (now, was) (fresh_split (nat_le 0 b && nat_lt b (0 + length (replicate n fresh))) n b (tagged_in_object ps ts (Some h) b)
    (λ t. past_cells ps ts h b (omega (arith, fits, behind_end n (length (replicate n fresh)) b (many n) t))))
empty_split false ps ts hs x y h n b same e fits = ap (λ (o : Option Held). tagged_in_object ps ts o b) (held_other emptied hs x y (λ g. refl) same)

life_emptied : (o : Option Held) → life_in (option_map emptied o) ≡ life_in o
life_emptied None = refl
life_emptied (Some h) = refl

shown_emptied : (o : Option Held) → is_shown (option_map emptied o) ≡ is_shown o
shown_emptied None = refl
shown_emptied (Some h) = refl

emptied_is : (m : Kept) (x : ObjName) (h : Held) (n : ℕ) (io : Io) → held_of m.objects x ≡ Some h → length h.cells ≤ n →
    store_of (record m { objects = changed emptied x m.objects }) io ≡ with_bytes (store_of m io) x 0 (replicate n fresh)
emptied_is m x h n io e fits = λ i. record {
  life = λ y. part_kept life_in emptied m.objects x y (λ g. refl) life_emptied i;
  exposed = λ y. part_kept is_shown emptied m.objects x y (λ g. refl) shown_emptied i;
  bytes = λ y at. empty_split (same_object x y) m.origins m.types m.objects x y h n at refl e fits i;
  kept = λ d. kept_in m.cells d;
  input = io.input;
  position = io.position;
  output = io.output;
  created = m.created;
}

found_split : (b : Bool) (rows : List Row) (h : Held) (x : ObjName) (g : Held) (rest : Option Held) → b ≡ same_object h.name x →
    cond b (Some h) rest ≡ Some g → IsRowOf (row_of rows h.name) h → (rest ≡ Some g → IsRowOf (row_of rows x) g) → IsRowOf (row_of rows x) g
found_split true rows h x g rest same e is next =
    subst (λ (k : Held). IsRowOf (row_of rows x) k) (some_is h g e)
    (subst (λ (y : ObjName). IsRowOf (row_of rows y) h) (same_object_is h.name x (sym same)) is)
found_split false rows h x g rest same e is next = next e

-- a created object has its row
pub row_found : (rows : List Row) (hs : List Held) (x : ObjName) (g : Held) → HaveRows rows hs → held_of hs x ≡ Some g → IsRowOf (row_of rows x) g
row_found rows [] x g have e = absurd (cc)
row_found rows (h ∷ hs) x g have e = found_split (same_object h.name x) rows h x g (held_of hs x) refl e have.0 (row_found rows hs x g have.1)

size_is : (o : Option Row) (h : Held) → IsRowOf o h → size_in o ≡ h.size
size_is None h is = absurd is
size_is (Some r) h is = is.1

pub unwritten_act : (old : Kept) (x : ObjName) (h : Held) (items : List Item) → held_of old.objects x ≡ Some h → Fits h → HaveRows old.rows old.objects →
    items ≡ Alive x ∷ Write x 0 h.size ∷ [] → (io : Io) → run old.rows (unwrite old.rows x) (store_of old io) ≡ Done tt items
    (store_of (record old { objects = changed emptied x old.objects }) io)
unwritten_act old x h items e fits have noted io =
    let n = size_in (row_of old.rows x) in
    let is : n ≡ h.size = size_is (row_of old.rows x) h (row_found old.rows old.objects x h have e) in
    let s : store_of (record old { objects = changed emptied x old.objects }) io ≡ with_bytes (store_of old io) x 0 (replicate n fresh) =
    emptied_is old x h n io e (rw is fits.1) in
    rw (noted, s, e) (ap (λ (k : ℕ). Done tt (Alive x ∷ Write x 0 k ∷ []) (with_bytes (store_of old io) x 0 (replicate n fresh))) (many n ∙ is))

-- ---- birth
added_split : (b c : Bool) (g h : Held) (rest : Option Held) → (b ≡ true → c ≡ true → ⊥) →
    cond b (Some g) (cond c (Some h) rest) ≡ cond c (Some h) (cond b (Some g) rest)
added_split true true g h rest never = absurd (never refl refl)
added_split true false g h rest never = refl
added_split false true g h rest never = refl
added_split false false g h rest never = refl

head_other : (b : Bool) (g : Held) (rest : Option Held) → cond b (Some g) rest ≡ None → b ≡ true → ⊥
head_other true g rest e t = absurd (cc)
head_other false g rest e t = cc

tail_none : (b : Bool) (g : Held) (rest : Option Held) → cond b (Some g) rest ≡ None → rest ≡ None
tail_none true g rest e = absurd (cc)
tail_none false g rest e = e

both_same : (x z y : ObjName) → same_object x y ≡ true → same_object z y ≡ true → same_object x z ≡ true
both_same x z y e f = subst (λ (w : ObjName). same_object x w ≡ true) (sym (same_object_is z y f)) e

-- the object of a name once a new one is there
pub held_added : (hs : List Held) (h : Held) (y : ObjName) → held_of hs h.name ≡ None →
    held_of (hs ++ h ∷ []) y ≡ cond (same_object h.name y) (Some h) (held_of hs y)
held_added [] h y none = refl
held_added (g ∷ hs) h y none =
    ap (λ (o : Option Held). cond (same_object g.name y) (Some g) o) (held_added hs h y (tail_none (same_object g.name h.name) g (held_of hs h.name) none))
    ∙ added_split (same_object g.name y) (same_object h.name y) g h (held_of hs y)
    (λ s t. head_other (same_object g.name h.name) g (held_of hs h.name) none (both_same g.name h.name y s t))

part_added_split : {A : Type 0} (b : Bool) (part : Option Held → A) (h : Held) (o : Option Held) → part (cond b (Some h) o) ≡ cond b (part (Some h)) (part o)
part_added_split true part h o = refl
part_added_split false part h o = refl

pub part_added : {A : Type 0} (part : Option Held → A) (hs : List Held) (h : Held) (y : ObjName) → held_of hs h.name ≡ None →
    part (held_of (hs ++ h ∷ []) y) ≡ cond (same_object h.name y) (part (Some h)) (part (held_of hs y))
part_added part hs h y none = ap part (held_added hs h y none) ∙ part_added_split (same_object h.name y) part h (held_of hs y)

nth_longer : (ps : List Prov) (p : Prov) (n : ℕ) → n < length ps → slice_index_or (ps ++ p ∷ []) n Empty ≡ slice_index_or ps n Empty
nth_longer [] p n e = absurd (omega arith)
nth_longer (q ∷ ps) p zero e = refl
nth_longer (q ∷ ps) p (suc n) e = nth_longer ps p n (omega arith)

prov_longer : (ps : List Prov) (p : Prov) (n : ℕ) → n ≤ length ps → prov_numbered (ps ++ p ∷ []) n ≡ prov_numbered ps n
prov_longer ps p zero e = refl
prov_longer ps p (suc n) e = nth_longer ps p n (omega arith)

byte_longer : (s : State) (ps : List Prov) (p : Prov) (c : Cell) → c.origin.number ≤ length ps → byte_in_state (ps ++ p ∷ []) s c ≡ byte_in_state ps s c
byte_longer states.Unwritten ps p c e = refl
byte_longer states.Plain ps p c e = refl
byte_longer states.Piece ps p c e = ap (λ (q : Prov). written c.number (Some (q, c.piece_index))) (prov_longer ps p c.origin.number e)

pub known_at : (n : ℕ) (cs : List Cell) (at : ℕ) → CellsKnown n cs → (cell_at cs at).origin.number ≤ n
known_at n [] at known = omega arith
known_at n (c ∷ cs) zero known = known.0
known_at n (c ∷ cs) (suc at) known = known_at n cs at known.1

abbrev pub KnownIn : ℕ → Option Held → Type 0
KnownIn n None = Unit {0}
KnownIn n (Some h) = CellsKnown n h.cells

known_split : (n : ℕ) (b : Bool) (h : Held) (o : Option Held) → CellsKnown n h.cells → KnownIn n o → KnownIn n (cond b (Some h) o)
known_split n true h o here there = here
known_split n false h o here there = there

pub known_held : (n : ℕ) (hs : List Held) (y : ObjName) → ObjectsKnown n hs → KnownIn n (held_of hs y)
known_held n [] y known = tt
known_held n (h ∷ hs) y known = known_split n (same_object h.name y) h (held_of hs y) known.0 (known_held n hs y known.1)

tagged_longer : (ps : List Prov) (p : Prov) (ts : List Ty) (o : Option Held) (at : ℕ) → KnownIn (length ps) o →
    tagged_in_object (ps ++ p ∷ []) ts o at ≡ tagged_in_object ps ts o at
tagged_longer ps p ts None at known = refl
tagged_longer ps p ts (Some h) at known =
    ap (λ (b : Byte). record { byte = b; tag = tag_in (map type_of ts) (cell_at h.cells at) })
    (byte_longer (cell_at h.cells at).state ps p (cell_at h.cells at) (known_at (length ps) h.cells at known))

bytes_added : (ps : List Prov) (p : Prov) (ts : List Ty) (hs : List Held) (h : Held) (y : ObjName) (at : ℕ) → held_of hs h.name ≡ None →
    ObjectsKnown (length ps) hs → h.cells ≡ [] → tagged_in_object (ps ++ p ∷ []) ts (held_of (hs ++ h ∷ []) y) at ≡ cond (same_object h.name y) fresh
    (tagged_in_object ps ts (held_of hs y) at)
bytes_added ps p ts hs h y at none known e =
    part_added (λ (o : Option Held). tagged_in_object (ps ++ p ∷ []) ts o at) hs h y none
    ∙ ap₂ (λ (a b : TaggedByte). cond (same_object h.name y) a b) (ap (λ (cs : List Cell). tagged_in (ps ++ p ∷ []) (map type_of ts) (cell_at cs at)) e)
    (tagged_longer ps p ts (held_of hs y) at (known_held (length ps) hs y known))

pub born_is : (old new : Kept) (x : ObjName) (base size : ℕ) (kind : ObjKind) (declared : Option Shape) (origin : Origin) (io : Io) →
    held_of old.objects x ≡ None → AreKnown old → new.objects ≡ old.objects ++ newborn x base size kind declared origin ∷ [] → new.origins ≡ old.origins ++
    Whole x ∷ [] → new.cells ≡ old.cells → new.types ≡ old.types → new.created ≡ min (old.created + max size 16) (2 ^ 62) →
    store_of new io ≡ born (store_of old io) x size kind (option_map form_of declared)
born_is old new x base size kind declared origin io none known objects origins cells types created =
    rw (objects, origins, cells, types, created) (λ i. record {
      life = λ y. part_added life_in old.objects (newborn x base size kind declared origin) y none i;
      exposed = λ y. part_added is_shown old.objects (newborn x base size kind declared origin) y none i;
      bytes = λ y at. bytes_added old.origins (Whole x) old.types old.objects (newborn x base size kind declared origin) y at none known refl i;
      kept = λ e. kept_in old.cells e;
      input = io.input;
      position = io.position;
      output = io.output;
      created = min (old.created + max size 16) (2 ^ 62);
    })

self_equal : (n : ℕ) → (n == n) ≡ true
self_equal n = grind (arith, nat_tests)

placed_is : (o : Option Row) (x : ObjName) (base size align : ℕ) → o ≡ Some (row_at x base size align) → (has_place o size align ≡ true) × (base_in o ≡ base)
placed_is o x base size align e = (rw (e, self_equal size, self_equal align) refl, rw e refl)

pub created_act : (old new : Kept) (x : ObjName) (base size align : ℕ) (kind : ObjKind) (declared : Option Shape) (items : List Item) →
    IsBorn old new x base size align kind declared → AreKnown old → items ≡ Born x ∷ [] →
    (io : Io) → run new.rows (create new.rows x size align kind (option_map form_of declared)) (store_of old io) ≡ Done base items (store_of new io)
created_act old new x base size align kind declared items b known noted io =
    let s = born_is old new x base size kind declared b.objects.0 io b.absent known b.objects.1 b.origins b.cells b.types b.created in
    let p = placed_is (row_of new.rows x) x base size align b.row in
    rw (p.0, p.1, b.absent, noted, s) refl

map_twice : {X Y Z : Type 0} (f : Y → Z) (g : X → Y) (o : Option X) → option_map f (option_map g o) ≡ option_map (λ x. f (g x)) o
map_twice f g None = refl
map_twice f g (Some x) = refl

pub created_all : {X E : Type 0} (r : Result ℕ E) (old new : Kept) (x : ObjName) (size align : ℕ) (kind : ObjKind) (g : X → Shape) (declared : Option X)
    (items : List Item) → IfOk r (λ base. IsBorn old new x base size align kind (option_map g declared)) → OnOk r (items ≡ Born x ∷ []) →
    IfOk r (λ base. AreKnown old → (io : Io) → run new.rows (create new.rows x size align kind (option_map (λ s. form_of (g s)) declared))
    (store_of old io) ≡ Done base items (store_of new io))
created_all {X} (Ok base) old new x size align kind g declared items b noted = λ known io.
    ap (λ (form : Option Form). run new.rows (create new.rows x size align kind form) (store_of old io)) (sym (map_twice form_of g declared)) ∙ created_act
    old new x base size align kind (option_map g declared) items b known noted io
created_all (Err e) old new x size align kind g declared items b noted = tt

-- ---- pieces stay known
cells_more : (n m : ℕ) (cs : List Cell) → n ≤ m → CellsKnown n cs → CellsKnown m cs
cells_more n m [] le known = tt
cells_more n m (c ∷ cs) le known = (omega (arith, le, known.0), cells_more n m cs le known.1)

pub objects_more : (n m : ℕ) (hs : List Held) → n ≤ m → ObjectsKnown n hs → ObjectsKnown m hs
objects_more n m [] le known = tt
objects_more n m (h ∷ hs) le known = (cells_more n m h.cells le known.0, objects_more n m hs le known.1)

objects_added : (n : ℕ) (hs : List Held) (h : Held) → CellsKnown n h.cells → ObjectsKnown n hs → ObjectsKnown n (hs ++ h ∷ [])
objects_added n [] h here known = (here, tt)
objects_added n (g ∷ hs) h here known = (known.0, objects_added n hs h here known.1)

one_more : (ps : List Prov) (p : Prov) → length ps ≤ length (ps ++ p ∷ [])
one_more [] p = omega arith
one_more (q ∷ ps) p = omega (arith, one_more ps p)

pub born_known : (old new : Kept) (x : ObjName) (base size align : ℕ) (kind : ObjKind) (declared : Option Shape) →
    IsBorn old new x base size align kind declared → AreKnown old → AreKnown new
born_known old new x base size align kind declared b known =
    rw (b.objects.1, b.origins) (objects_added (length (old.origins ++ Whole x ∷ [])) old.objects (newborn x base size kind declared b.objects.0) tt
    (objects_more (length old.origins) (length (old.origins ++ Whole x ∷ [])) old.objects (one_more old.origins (Whole x)) known))

pub created_known : {X E : Type 0} (r : Result ℕ E) (old new : Kept) (x : ObjName) (size align : ℕ) (kind : ObjKind) (g : X → Shape) (declared : Option X) →
    IfOk r (λ base. IsBorn old new x base size align kind (option_map g declared)) → AreKnown old → OnOk r (AreKnown new)
created_known (Ok base) old new x size align kind g declared b known = born_known old new x base size align kind (option_map g declared) b known
created_known (Err e) old new x size align kind g declared b known = tt

known_split_by : (b : Bool) (n : ℕ) (f : Held → Held) (h : Held) → CellsKnown n h.cells → CellsKnown n (f h).cells → CellsKnown n (cond b (f h) h).cells
known_split_by true n f h old new = new
known_split_by false n f h old new = old

known_changed : (n : ℕ) (f : Held → Held) (x : ObjName) (hs : List Held) → ((h : Held) → CellsKnown n h.cells → CellsKnown n (f h).cells) →
    ObjectsKnown n hs → ObjectsKnown n (changed f x hs)
known_changed n f x [] keeps known = tt
known_changed n f x (h ∷ hs) keeps known = (known_split_by (same_object h.name x) n f h known.0 (keeps h known.0), known_changed n f x hs keeps known.1)

pub known_killed : (n : ℕ) (x : ObjName) (hs : List Held) → ObjectsKnown n hs → ObjectsKnown n (changed killed x hs)
known_killed n x hs known = known_changed n killed x hs (λ h k. tt) known

pub known_emptied : (n : ℕ) (x : ObjName) (hs : List Held) → ObjectsKnown n hs → ObjectsKnown n (changed emptied x hs)
known_emptied n x hs known = known_changed n emptied x hs (λ h k. tt) known

pub known_uncovered : (n : ℕ) (xs : List ObjName) (hs : List Held) → ObjectsKnown n hs → ObjectsKnown n (uncovered_each xs hs)
known_uncovered n [] hs known = known
known_uncovered n (x ∷ xs) hs known = known_uncovered n xs (changed uncovered x hs) (known_changed n uncovered x hs (λ h k. k) known)

-- ---- settling
and_true : {A : Type 0} (b c : Bool) (x y : A) → c ≡ true → cond (b && c) x y ≡ cond b x y
and_true true c x y e = rw e refl
and_true false c x y e = refl

pub settled_is : (old : Kept) (new : Cells) (id : Event) (keep : ObjName) (io : Io) → Settles old.cells new id keep → has_cell old.cells id ≡ true →
    store_of (record old { cells = new }) io ≡ settled (store_of old io) id keep
settled_is old new id keep io s has = λ i. record {
  life = λ x. life_in (held_of old.objects x);
  exposed = λ x. is_shown (held_of old.objects x);
  bytes = λ x at. tagged_in_object old.origins old.types (held_of old.objects x) at;
  kept = λ e. (s.kept e ∙ and_true (same_event id e) (has_cell old.cells id) (Some keep) (kept_in old.cells e) has) i;
  input = io.input;
  position = io.position;
  output = io.output;
  created = old.created;
}

pub settled_all : (b : Bool) (old : Kept) (new : Cells) (id : Event) (keep : ObjName) → OnTrue b (Settles old.cells new id keep) →
    has_cell old.cells id ≡ true → OnTrue b ((io : Io) → store_of (record old { cells = new }) io ≡ settled (store_of old io) id keep)
settled_all true old new id keep s has = λ io. settled_is old new id keep io s has
settled_all false old new id keep s has = tt
