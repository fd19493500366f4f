-- What a lookup of an address finds.
use Rattle.std.proofs.Common.{
  ◌≡◌,
  ℕ,
  ◌<◌,
  ◌≤◌,
  Bool,
  true,
  false,
  ◌&&◌,
  ◌||◌,
  cond,
  refl,
  sym,
  ap,
  ap₂,
  ◌∙◌,
  subst,
  arith,
  List,
  [],
  ◌∷◌,
  ◌++◌,
  length,
  map,
  Option,
  Some,
  None,
}
use Rattle.std.specs.Prelude.{Result, Ok, Err, IfOk, OnOk, OnErr, is_some}
use Rattle.ub_base.specs.declared.names.Event.{Event}
use Rattle.ub_base.specs.declared.names.Item.{Item}
use Rattle.ub_base.specs.declared.names.ObjName.{ObjName}
use Rattle.ub_base.specs.Names.{same_event}
use Rattle.exposure.specs.declared.prov.Prov.{Prov}
use Rattle.exposure.specs.Cells.{Cells, kept_in, has_cell, MakesCell}
use Rattle.exposure.specs.Choice.{chosen}
use Rattle.c_types.specs.declared.ty.Ty.{Ty}
use Rattle.c_types.specs.Types.{type_of}
use Rattle.mem_objects.specs.declared.cell.State.{State}
use Rattle.mem_objects.specs.declared.cell.State.TheVariants as states
use Rattle.mem_objects.specs.declared.cell.Cell.{Cell}
use Rattle.mem_spec.specs.Store.{Store, Byte, written, findable, can_find, is_live}
use Rattle.mem_spec.specs.Script.{Done, run}
use Rattle.mem_spec.specs.Acts.{from_int}
use Rattle.mem_spec.specs.Streams.{Io, silent}
use Rattle.mem_objects.specs.Cells.{cell_at, byte_in_state, tag_in}
use Rattle.mem_objects.specs.Held.{Held, held_of}
use Rattle.mem_objects.specs.Memory.{Kept, store_of, life_in, is_shown, tagged_in_object, AreKnown}
use Rattle.mem_objects.specs.Made.{Extends, HasMore, AreCreated, look_up_items}
use Rattle.mem_objects.proofs.ActLemmas.{KnownIn, known_at, known_held}
use Rattle.mem_objects.proofs.ProvLemmas.{prov_more, extends_none}
use Rattle.mem_objects.proofs.SettleLemmas.{done_is}

-- ---- what is found was created
some_is : (a b : ObjName) → Some a ≡ Some b → a ≡ b
some_is a b h = cc

abbrev nobody : Option ObjName
nobody = None

clash : (x : ObjName) → nobody ≡ Some x → ⊥
clash x h = cc

not_some : {A : Type 0} (x : ObjName) → nobody ≡ Some x → A
not_some x h = absurd (clash x h)

shown_some : (h : Option Held) (b : Bool) → (is_shown h && b) ≡ true → is_some h ≡ true
shown_some None b e = absurd (cc)
shown_some (Some h) b e = refl

find_split : (t : Bool) (m : Kept) (y x : ObjName) → (is_shown (held_of m.objects y) && is_live (life_in (held_of m.objects y))) ≡ t →
    cond t (Some y) None ≡ Some x → is_some (held_of m.objects x) ≡ true
find_split true m y x e h = subst (λ (z : ObjName). is_some (held_of m.objects z) ≡ true) (some_is y x h)
    (shown_some (held_of m.objects y) (is_live (life_in (held_of m.objects y))) e)
find_split false m y x e h = not_some x h

found_created : (m : Kept) (io : Io) (o : Option ObjName) (x : ObjName) → findable (store_of m io) o ≡ Some x → is_some (held_of m.objects x) ≡ true
found_created m io None x h = not_some x h
found_created m io (Some y) x h = find_split (is_shown (held_of m.objects y) && is_live (life_in (held_of m.objects y))) m y x refl h

chosen_created : (m : Kept) (f g : Option ObjName) (who : Event) → ((x : ObjName) → f ≡ Some x → is_some (held_of m.objects x) ≡ true) →
    ((x : ObjName) → g ≡ Some x → is_some (held_of m.objects x) ≡ true) → AreCreated m (chosen f g who)
chosen_created m None None who a b = tt
chosen_created m (Some x) None who a b = a x refl
chosen_created m None (Some y) who a b = b y refl
chosen_created m (Some x) (Some y) who a b = (b y refl, a x refl)

nothing : Io
nothing = record { input = []; position = 0; output = silent }

pub look_up_created : (m : Kept) (who : Event) (prov : Prov) (i p f g : Option ObjName) → ((io : Io) → f ≡ findable (store_of m io) i) →
    ((io : Io) → g ≡ findable (store_of m io) p) → prov ≡ chosen f g who → AreCreated m prov
look_up_created m who prov i p f g ei ep is =
    subst (λ (q : Prov). AreCreated m q) (sym is)
    (chosen_created m f g who (λ x e. found_created m nothing i x (sym (ei nothing) ∙ e)) (λ x e. found_created m nothing p x (sym (ep nothing) ∙ e)))

-- ---- a memory with more numbers and cells
pub has_more_none : (m : Kept) → HasMore m m
has_more_none m = record {
  origins = extends_none m.origins;
  kept = λ e. refl;
  cells = λ e h. h;
  rest = refl;
}

pub has_more_origins : (old new : Kept) → Extends old.origins new.origins → new ≡ record old { origins = new.origins } → HasMore old new
has_more_origins old new more is = record {
  origins = more;
  kept = λ e. ap (λ (m : Kept). kept_in m.cells e) is;
  cells = λ e h. ap (λ (m : Kept). has_cell m.cells e) is ∙ h;
  rest = ap (λ (m : Kept). record m { cells = []; origins = [] }) is;
}

or_true : (b c : Bool) → c ≡ true → (b || c) ≡ true
or_true true c h = refl
or_true false c h = h

pub has_more_made : {T E : Type 0} (r : Result T E) (old : Kept) (ps : List Prov) (cells : Cells) (id : Event) → Extends old.origins ps →
    OnOk r (MakesCell old.cells cells id) → OnErr r (cells ≡ old.cells) → HasMore old (record old { origins = ps; cells = cells })
has_more_made (Ok v) old ps cells id more made same = record {
  origins = more;
  kept = made.kept;
  cells = λ e h. made.cells e ∙ or_true (same_event id e) (has_cell old.cells e) h;
  rest = refl;
}
has_more_made (Err w) old ps cells id more made same = record {
  origins = more;
  kept = λ e. ap (λ (cs : Cells). kept_in cs e) same;
  cells = λ e h. ap (λ (cs : Cells). has_cell cs e) same ∙ h;
  rest = refl;
}

or_first : (b c : Bool) → b ≡ true → (b || c) ≡ true
or_first true c h = refl
or_first false c h = absurd (cc)

-- ---- the store is the same
byte_more : (s : State) (ps more : List Prov) (c : Cell) → c.origin.number ≤ length ps → byte_in_state (ps ++ more) s c ≡ byte_in_state ps s c
byte_more states.Unwritten ps more c e = refl
byte_more states.Plain ps more c e = refl
byte_more states.Piece ps more c e = ap (λ (q : Prov). written c.number (Some (q, c.piece_index))) (prov_more ps more c.origin.number e)

tagged_more : (ps more : List Prov) (ts : List Ty) (o : Option Held) (at : ℕ) → KnownIn (length ps) o →
    tagged_in_object (ps ++ more) ts o at ≡ tagged_in_object ps ts o at
tagged_more ps more ts None at known = refl
tagged_more ps more ts (Some h) at known =
    ap (λ (b : Byte). record { byte = b; tag = tag_in (map type_of ts) (cell_at h.cells at) })
    (byte_more (cell_at h.cells at).state ps more (cell_at h.cells at) (known_at (length ps) h.cells at known))

bytes_more : (old new : Kept) → HasMore old new → AreKnown old → (x : ObjName) (at : ℕ) →
    tagged_in_object new.origins new.types (held_of new.objects x) at ≡ tagged_in_object old.origins old.types (held_of old.objects x) at
bytes_more old new more known x at =
    ap (λ (m : Kept). tagged_in_object new.origins m.types (held_of m.objects x) at) more.rest
    ∙ ap (λ (ps : List Prov). tagged_in_object ps old.types (held_of old.objects x) at) more.origins.1
    ∙ tagged_more old.origins more.origins.0 old.types (held_of old.objects x) at (known_held (length old.origins) old.objects x known)

pub store_more : (old new : Kept) → HasMore old new → AreKnown old → (io : Io) → store_of new io ≡ store_of old io
store_more old new more known io = λ i. record {
  life = λ x. life_in (held_of (more.rest i).objects x);
  exposed = λ x. is_shown (held_of (more.rest i).objects x);
  bytes = λ x at. bytes_more old new more known x at i;
  kept = λ e. more.kept e i;
  input = io.input;
  position = io.position;
  output = io.output;
  created = (more.rest i).created;
}

pub from_int_done : (old new : Kept) (who : Event) (a : ℕ) (prov : Prov) (start items : List Item) → HasMore old new → start ≡ [] →
    (length start < 32 → items ≡ start ++ look_up_items a) →
    ((io : Io) → run old.rows (from_int who a) (store_of old io) ≡ Done prov (look_up_items a) (store_of old io)) → AreKnown old →
    (io : Io) → run new.rows (from_int who a) (store_of old io) ≡ Done prov items (store_of new io)
from_int_done old new who a prov start items more none noted act known io =
    let listed : items ≡ look_up_items a = noted (rw none (omega arith)) ∙ ap (λ (l : List Item). l ++ look_up_items a) none in
    ap (λ (m : Kept). run m.rows (from_int who a) (store_of old io)) more.rest
    ∙ act io
    ∙ done_is prov prov (look_up_items a) items (store_of old io) (store_of new io) refl (sym listed) (sym (store_more old new more known io))

-- ---- one object
pub found_some : (s : Store) (o : Option ObjName) (x : ObjName) (t : Bool) → o ≡ Some x → t ≡ can_find s x → t ≡ true → Some x ≡ findable s o
found_some s o x t e is so = sym (ap (λ (p : Option ObjName). findable s p) e ∙ ap (λ (b : Bool). cond b (Some x) None) (sym is ∙ so))

pub found_none : (s : Store) (o : Option ObjName) (x : ObjName) (t : Bool) → o ≡ Some x → t ≡ can_find s x → t ≡ false → None ≡ findable s o
found_none s o x t e is so = sym (ap (λ (p : Option ObjName). findable s p) e ∙ ap (λ (b : Bool). cond b (Some x) None) (sym is ∙ so))

pub from_int_all : {E : Type 0} (r : Result Prov E) (old new : Kept) (who : Event) (a : ℕ) (start items : List Item) → HasMore old new → start ≡ [] →
    OnOk r (length start < 32 → items ≡ start ++ look_up_items a) → IfOk r
    (λ prov. (io : Io) → run old.rows (from_int who a) (store_of old io) ≡ Done prov (look_up_items a) (store_of old io)) →
    IfOk r (λ prov. AreKnown old → (io : Io) → run new.rows (from_int who a) (store_of old io) ≡ Done prov items (store_of new io))
from_int_all (Ok prov) old new who a start items more none noted act = λ known io. from_int_done old new who a prov start items more none noted act known io
from_int_all (Err e) old new who a start items more none noted act = tt
