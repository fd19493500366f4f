-- What a store leaves of the bytes of an object, and its act.
use Rattle.std.proofs.Common.{
  ◌≡◌,
  ℕ,
  zero,
  suc,
  ◌+◌,
  ◌-◌,
  ◌<◌,
  ◌≤◌,
  Bool,
  true,
  false,
  not,
  ◌&&◌,
  cond,
  refl,
  sym,
  ap,
  ap₂,
  ◌∙◌,
  subst,
  arith,
  List,
  [],
  ◌∷◌,
  ◌++◌,
  length,
  map,
  slice_get,
  Option,
  Some,
  None,
}
use Rattle.std.specs.Prelude.{Result, Ok, Err, nat_lt, nat_le, is_some, option_map, slice_index_or, ◌%◌}
use Rattle.std.specs.Bool.{OnTrue}
use Rattle.std.proofs.lemmas.Bool.Decides.{nat_tests}
use Rattle.ub_base.specs.declared.clause.Clause.{Clause}
use Rattle.ub_base.specs.declared.clause.Clause.TheVariants.{EffectiveType}
use Rattle.ub_base.specs.declared.names.Event.{Event}
use Rattle.ub_base.specs.declared.names.Item.{Item}
use Rattle.ub_base.specs.declared.names.Item.TheVariants.{Alive, Write}
use Rattle.ub_base.specs.declared.names.ObjName.{ObjName}
use Rattle.ub_base.specs.Names.{same_object}
use Rattle.ub_base.proofs.NameLemmas.{same_object_is}
use Rattle.addr_map.specs.declared.map.Row.{Row}
use Rattle.exposure.specs.declared.prov.Prov.{Prov}
use Rattle.exposure.specs.Cells.{Cells, kept_in, has_cell, is_other, Settles}
use Rattle.c_types.specs.declared.shape.Shape.{Shape}
use Rattle.c_types.specs.Types.{CType, type_of, is_character}
use Rattle.c_types.specs.Shapes.{Form, form_of}
use Rattle.mem_objects.specs.declared.cell.Cell.{Cell}
use Rattle.mem_objects.specs.declared.cell.State.{State}
use Rattle.mem_objects.specs.declared.cell.State.TheVariants as states
use Rattle.mem_objects.specs.declared.cell.TypeId.{TypeId}
use Rattle.mem_objects.specs.declared.cell.Via.{Via}
use Rattle.mem_objects.specs.declared.cell.Via.TheVariants as vias
use Rattle.mem_objects.specs.declared.accessed.Accessed.{Accessed as Found}
use Rattle.mem_spec.specs.Agreement.{Tag, read_as_int}
use Rattle.mem_spec.specs.Store.{Store, Byte, Life, TaggedByte, fresh, with_bytes, settled}
use Rattle.mem_spec.specs.Script.{Script, Put, Act, Done, Raised, run, touch, require, ◌>>◌}
use Rattle.mem_spec.specs.Acts.{Accessed, Seen, scalar, whole, bytes, access, store, tag_left, stored_from, suits_store, declared_of, check_writable}
use Rattle.mem_spec.specs.Streams.{Io}
use Rattle.mem_objects.specs.Cells.{cell_at, cell_left, cell_put, untagged, is_character_numbered, byte_in, byte_in_state, tag_in, tagged_in, type_numbered}
use Rattle.mem_objects.specs.Held.{Held, held_of, changed, holding, IsWritten}
use Rattle.mem_objects.specs.Memory.{Kept, store_of, life_in, is_shown, tagged_in_object, HasCell, CellsKnown, ObjectsKnown, AreKnown}
use Rattle.mem_objects.specs.Made.{Settling, CanSettle, after_settling, settling_items}
use Rattle.mem_objects.specs.Access.{CanSettleOf, IsReached, reached}
use Rattle.mem_objects.specs.Stores.{IsTypeOf, Sees, IsShort, tagged_all, checked_store}
use Rattle.mem_objects.proofs.StoreLemmas.{held_same, held_other, part_kept}
use Rattle.mem_objects.proofs.ActLemmas.{settled_is}
use Rattle.mem_objects.proofs.AccessLemmas.{done_then, raised_then, raised_first}

-- ---- a byte that a store leaves
byte_untagged : (ps : List Prov) (s : State) (c : Cell) → byte_in_state ps s (untagged c) ≡ byte_in_state ps s c
byte_untagged ps states.Unwritten c = refl
byte_untagged ps states.Plain c = refl
byte_untagged ps states.Piece c = refl

byte_retagged : (ps : List Prov) (s : State) (c : Cell) (i : ℕ) (id : TypeId) →
    byte_in_state ps s (record c { tag_index = i; tag = id }) ≡ byte_in_state ps s c
byte_retagged ps states.Unwritten c i id = refl
byte_retagged ps states.Plain c i id = refl
byte_retagged ps states.Piece c i id = refl

bare : (m : Kept) (c : Cell) → tagged_in m.origins (map type_of m.types) (untagged c) ≡ record { byte = byte_in m.origins c; tag = None }
bare m c = ap (λ (b : Byte). record { byte = b; tag = None }) (byte_untagged m.origins c.state c)

small : (i : ℕ) → i < 256 → i % 256 ≡ i
small i e = omega arith

abbrev pub at_index : ℕ → CType → Tag
at_index i ty = (ty, i)

abbrev pub some_tag : CType → ℕ → Option Tag
some_tag ty i = Some (ty, i)

scalar_tag : (m : Kept) (id : TypeId) (ty : CType) (i : ℕ) → IsTypeOf m id.number ty → i < 256 →
    option_map (at_index (i % 256)) (type_numbered (map type_of m.types) id.number) ≡ some_tag (read_as_int ty) i
scalar_tag m id ty i s e = ap (option_map (at_index (i % 256))) s.numbered ∙ ap₂ some_tag (sym s.plain) (small i e)

scalar_left : (b : Bool) (m : Kept) (id : TypeId) (ty : CType) (i : ℕ) (c : Cell) (old : Option Tag) → is_character_numbered id.number ≡ b →
    IsTypeOf m id.number ty → i < 256 → tagged_in m.origins (map type_of m.types) (cell_left false (vias.Scalar id) i c) ≡ record
    { byte = byte_in m.origins c; tag = tag_left (scalar ty) i old }
scalar_left true m id ty i c old e s lt =
    let k : is_character ty ≡ true = sym s.character ∙ e in
    let left : cell_left false (vias.Scalar id) i c ≡ untagged c = rw e refl in
    let tag : tag_left (scalar ty) i old ≡ None = rw k refl in
    ap (tagged_in m.origins (map type_of m.types)) left ∙ bare m c ∙ ap (λ (t : Option Tag). record { byte = byte_in m.origins c; tag = t }) (sym tag)
scalar_left false m id ty i c old e s lt =
    let k : is_character ty ≡ false = sym s.character ∙ e in
    let left : cell_left false (vias.Scalar id) i c ≡ record c { tag_index = i % 256; tag = id } = rw e refl in
    let tag : tag_left (scalar ty) i old ≡ some_tag (read_as_int ty) i = rw k refl in
    ap (tagged_in m.origins (map type_of m.types)) left ∙ ap₂ (λ (b : Byte) (t : Option Tag). record { byte = b; tag = t })
    (byte_retagged m.origins c.state c (i % 256) id) (scalar_tag m id ty i s lt ∙ sym tag)

-- the index is one that a tag counts
abbrev pub IsBelow : Via → ℕ → Type 0
IsBelow (vias.Scalar id) i = i < 256
IsBelow _ i = Unit {0}

left_plain : (m : Kept) (via : Via) (seen : Seen) (i : ℕ) (c : Cell) → Sees m via seen → IsBelow via i →
    tagged_in m.origins (map type_of m.types) (cell_left false via i c) ≡ record
    { byte = byte_in m.origins c; tag = tag_left seen i (tag_in (map type_of m.types) c) }
left_plain m (vias.Scalar id) (scalar ty) i c s lt = scalar_left (is_character_numbered id.number) m id ty i c (tag_in (map type_of m.types) c) refl s lt
left_plain m (vias.Scalar id) whole i c s lt = absurd s
left_plain m (vias.Scalar id) bytes i c s lt = absurd s
left_plain m vias.Whole (scalar ty) i c s lt = absurd s
left_plain m vias.Whole whole i c s lt = refl
left_plain m vias.Whole bytes i c s lt = absurd s
left_plain m vias.Bytes (scalar ty) i c s lt = absurd s
left_plain m vias.Bytes whole i c s lt = absurd s
left_plain m vias.Bytes bytes i c s lt = bare m c

below_first : (via : Via) (k n : ℕ) → IsShort via (k + suc n) → IsBelow via k
below_first (vias.Scalar id) k n e = omega arith
below_first vias.Whole k n e = tt
below_first vias.Bytes k n e = tt

short_next : (via : Via) (k n : ℕ) → IsShort via (k + suc n) → IsShort via (suc k + n)
short_next (vias.Scalar id) k n e = omega arith
short_next vias.Whole k n e = tt
short_next vias.Bytes k n e = tt

short_start : (via : Via) (n : ℕ) → IsShort via n → IsShort via (0 + n)
short_start (vias.Scalar id) n e = omega arith
short_start vias.Whole n e = tt
short_start vias.Bytes n e = tt

sees_same : (m : Kept) (cs : Cells) (via : Via) (seen : Seen) → Sees m via seen → Sees (record m { cells = cs }) via seen
sees_same m cs (vias.Scalar id) (scalar ty) s = record { numbered = s.numbered; plain = s.plain; character = s.character }
sees_same m cs (vias.Scalar id) whole s = absurd s
sees_same m cs (vias.Scalar id) bytes s = absurd s
sees_same m cs vias.Whole (scalar ty) s = absurd s
sees_same m cs vias.Whole whole s = tt
sees_same m cs vias.Whole bytes s = absurd s
sees_same m cs vias.Bytes (scalar ty) s = absurd s
sees_same m cs vias.Bytes whole s = absurd s
sees_same m cs vias.Bytes bytes s = tt

stored_plain : (m : Kept) (via : Via) (seen : Seen) (k : ℕ) (cs : List Cell) (i j : ℕ) → Sees m via seen → IsShort via (k + length cs) → i < length cs →
    j ≡ k + i → slice_index_or (stored_from None seen k (tagged_all m cs)) i fresh ≡ tagged_in m.origins (map type_of m.types)
    (cell_left false via j (cell_at cs i))
stored_plain m via seen k [] i j s short lt e = absurd (omega arith)
stored_plain m via seen k (c ∷ cs) zero j s short lt e =
    let is : j ≡ k = omega arith in
    rw is (sym (left_plain m via seen k c s (below_first via k (length cs) short)))
stored_plain m via seen k (c ∷ cs) (suc i) j s short lt e = stored_plain m via seen (suc k) cs i j s (short_next via k (length cs) short) (omega arith)
    (omega arith)

stored_bare : (m : Kept) (form : Form) (via : Via) (seen : Seen) (k : ℕ) (cs : List Cell) (i j : ℕ) → i < length cs →
    slice_index_or (stored_from (Some form) seen k (tagged_all m cs)) i fresh ≡ tagged_in m.origins (map type_of m.types) (cell_left true via j (cell_at cs i))
stored_bare m form via seen k [] i j lt = absurd (omega arith)
stored_bare m form via seen k (c ∷ cs) zero j lt = sym (bare m c)
stored_bare m form via seen k (c ∷ cs) (suc i) j lt = stored_bare m form via seen (suc k) cs i j (omega arith)

stored_at : (m : Kept) (declared : Option Shape) (via : Via) (seen : Seen) (cs : List Cell) (i : ℕ) → Sees m via seen → IsShort via (length cs) →
    i < length cs → slice_index_or (stored_from (option_map form_of declared) seen 0 (tagged_all m cs)) i fresh ≡ tagged_in m.origins (map type_of m.types)
    (cell_left (is_some declared) via i (cell_at cs i))
stored_at m None via seen cs i s short lt = stored_plain m via seen 0 cs i i s (short_start via (length cs) short) lt (omega arith)
stored_at m (Some shape) via seen cs i s short lt = stored_bare m (form_of shape) via seen 0 cs i i lt

stored_length : (declared : Option Form) (seen : Seen) (k : ℕ) (m : Kept) (cs : List Cell) → length (stored_from declared seen k (tagged_all m cs)) ≡ length cs
stored_length None seen k m [] = refl
stored_length None seen k m (c ∷ cs) = ap suc (stored_length None seen (suc k) m cs)
stored_length (Some form) seen k m [] = refl
stored_length (Some form) seen k m (c ∷ cs) = ap suc (stored_length (Some form) seen (suc k) m cs)

pub tagged_length : (m : Kept) (cs : List Cell) → length (tagged_all m cs) ≡ length cs
tagged_length m [] = refl
tagged_length m (c ∷ cs) = ap suc (tagged_length m cs)

-- ---- the store after it
inside : (from n b : ℕ) → (nat_le from b && nat_lt b (from + n)) ≡ true → b - from < n
inside from n b e = grind (arith, nat_tests)

put_split : (t : Bool) (m : Kept) (h g : Held) (from : ℕ) (via : Via) (seen : Seen) (cs : List Cell) (b : ℕ) →
    (nat_le from b && nat_lt b (from + length cs)) ≡ t → IsWritten h g from via cs → Sees m via seen → IsShort via (length cs) →
    tagged_in m.origins (map type_of m.types) (cell_at g.cells b) ≡ cond t
    (slice_index_or (stored_from (option_map form_of h.declared) seen 0 (tagged_all m cs)) (b - from) fresh)
    (tagged_in m.origins (map type_of m.types) (cell_at h.cells b))
put_split true m h g from via seen cs b e w s short =
    let put : cell_put h.cells from (length cs) (is_some h.declared) via cs b ≡ cell_left (is_some h.declared) via (b - from) (cell_at cs (b - from)) =
    rw e refl in
    ap (tagged_in m.origins (map type_of m.types)) (w.bytes b ∙ put) ∙ sym
    (stored_at m h.declared via seen cs (b - from) s short (inside from (length cs) b e))
put_split false m h g from via seen cs b e w s short =
    let put : cell_put h.cells from (length cs) (is_some h.declared) via cs b ≡ cell_at h.cells b = rw e refl in
    ap (tagged_in m.origins (map type_of m.types)) (w.bytes b ∙ put)

written_split : (t : Bool) (m : Kept) (h g : Held) (x : ObjName) (from : ℕ) (via : Via) (seen : Seen) (cs : List Cell) (y : ObjName) (b : ℕ) →
    same_object x y ≡ t → held_of m.objects x ≡ Some h → IsWritten h g from via cs → Sees m via seen → IsShort via (length cs) →
    tagged_in_object m.origins m.types (held_of (changed (holding g.cells) x m.objects) y) b ≡ cond (t && (nat_le from b && nat_lt b (from + length cs)))
    (slice_index_or (stored_from (option_map form_of h.declared) seen 0 (tagged_all m cs)) (b - from) fresh)
    (tagged_in_object m.origins m.types (held_of m.objects y) b)
written_split true m h g x from via seen cs y b same e w s short =
    let xy : x ≡ y = same_object_is x y same in
    let now : held_of (changed (holding g.cells) x m.objects) y ≡ Some (holding g.cells h) =
    subst (λ (z : ObjName). held_of (changed (holding g.cells) x m.objects) z ≡ Some (holding g.cells h)) xy
    (held_same (holding g.cells) m.objects x (λ k. refl) ∙ ap (option_map (holding g.cells)) e) in
    let was : held_of m.objects y ≡ Some h = subst (λ (z : ObjName). held_of m.objects z ≡ Some h) xy e in
    rw (now, was) (put_split (nat_le from b && nat_lt b (from + length cs)) m h g from via seen cs b refl w s short)
written_split false m h g x from via seen cs y b same e w s short = ap (λ (o : Option Held). tagged_in_object m.origins m.types o b)
    (held_other (holding g.cells) m.objects x y (λ k. refl) same)

life_holding : (cs : List Cell) (o : Option Held) → life_in (option_map (holding cs) o) ≡ life_in o
life_holding cs None = refl
life_holding cs (Some h) = refl

shown_holding : (cs : List Cell) (o : Option Held) → is_shown (option_map (holding cs) o) ≡ is_shown o
shown_holding cs None = refl
shown_holding cs (Some h) = refl

written_is : (m : Kept) (h g : Held) (x : ObjName) (from : ℕ) (via : Via) (seen : Seen) (cs : List Cell) (bs : List TaggedByte) (io : Io) →
    held_of m.objects x ≡ Some h → IsWritten h g from via cs → Sees m via seen → IsShort via (length cs) →
    bs ≡ stored_from (option_map form_of h.declared) seen 0 (tagged_all m cs) → length bs ≡ length cs →
    store_of (record m { objects = changed (holding g.cells) x m.objects }) io ≡ with_bytes (store_of m io) x from bs
written_is m h g x from via seen cs bs io e w s short is len = rw (len, is) (λ i. record {
  life = λ y. part_kept life_in (holding g.cells) m.objects x y (λ k. refl) (life_holding g.cells) i;
  exposed = λ y. part_kept is_shown (holding g.cells) m.objects x y (λ k. refl) (shown_holding g.cells) i;
  bytes = λ y b. written_split (same_object x y) m h g x from via seen cs y b refl e w s short i;
  kept = λ d. kept_in m.cells d;
  input = io.input;
  position = io.position;
  output = io.output;
  created = m.created;
})

-- ---- what a settling leaves
false_not : (b : Bool) → b ≡ not false → b ≡ true
false_not b e = e

settle_split : (b : Bool) (old new : Cells) (id : Event) (keep : ObjName) → b ≡ true → OnTrue b (Settles old new id keep) → Settles old new id keep
settle_split true old new id keep e s = s
settle_split false old new id keep e s = absurd (cc)

pub settles_all : (b : Bool) (old new : Cells) (id : Event) (keep : ObjName) → b ≡ not (is_other (kept_in old id) keep) → OnTrue b (Settles old new id keep) →
    has_cell old id ≡ true → is_other (kept_in old id) keep ≡ false → (m : Kept) → m.cells ≡ old →
    (io : Io) → store_of (record m { cells = new }) io ≡ settled (store_of m io) id keep
settles_all b old new id keep answer s has free m e io =
    let yes_is : b ≡ true = answer ∙ ap not free in
    settled_is m new id keep io (subst (λ (cs : Cells). Settles cs new id keep) (sym e) (settle_split b old new id keep yes_is s))
    (ap (λ (cs : Cells). has_cell cs id) e ∙ has)

-- ---- the act
abbrev pub store_in : Bool → Seen → List TaggedByte → Accessed → Script (Unit {0})
store_in first via bs at = do
  require (suits_store via (declared_of at.life) at.from) EffectiveType
  check_writable first at.life
  touch (Put at.object at.from (stored_from (declared_of at.life) via 0 bs))

abbrev pub by_checks : Result (Unit {0}) Clause → Act (Unit {0}) → Act (Unit {0})
by_checks (Ok u) a = a
by_checks (Err c) a = Raised c

abbrev pub put_act : Store → ObjName → ℕ → List TaggedByte → Act (Unit {0})
put_act s x from bs = Done tt (Write x from (length bs) ∷ []) (with_bytes s x from bs)

abbrev pub placed : ObjName → ℕ → Life → Accessed
placed x from life = record { object = x; from = from; life = Some life }

tail_split : (b l k first : Bool) (rows : List Row) (via : Seen) (bs : List TaggedByte) (x : ObjName) (from : ℕ) (life : Life) (s : Store) →
    suits_store via life.declared from ≡ b → life.kind.literal ≡ l → life.kind.constant ≡ k →
    run rows (store_in first via bs (placed x from life)) s ≡ by_checks (checked_store first via (Some life) from)
    (put_act s x from (stored_from life.declared via 0 bs))
tail_split false l k first rows via bs x from life s e f g = rw e refl
tail_split true l k true rows via bs x from life s e f g = rw e refl
tail_split true true k false rows via bs x from life s e f g = rw (e, f) refl
tail_split true false true false rows via bs x from life s e f g = rw (e, f, g) refl
tail_split true false false false rows via bs x from life s e f g = rw (e, f, g) refl

tail_is : (r : Result (Unit {0}) Clause) (first : Bool) (rows : List Row) (via : Seen) (bs : List TaggedByte) (x : ObjName) (from : ℕ) (life : Life)
    (s : Store) → r ≡ checked_store first via (Some life) from → run rows (store_in first via bs (placed x from life)) s ≡ by_checks r
    (put_act s x from (stored_from life.declared via 0 bs))
tail_is r first rows via bs x from life s e =
    tail_split (suits_store via life.declared from) life.kind.literal life.kind.constant first rows via bs x from life s refl refl refl ∙ ap
    (λ (q : Result (Unit {0}) Clause). by_checks q (put_act s x from (stored_from life.declared via 0 bs))) (sym e)

abbrev pub life_at : Held → Life
life_at h = record { live = h.state.live; kind = h.state.kind; declared = option_map form_of h.declared }

reached_is : (hs : List Held) (f : Found) (h : Held) → held_of hs f.name ≡ Some h → reached hs f ≡ placed f.name f.from (life_at h)
reached_is hs f h e = ap (λ (o : Option Held). record { object = f.name; from = f.from; life = life_in o }) e

-- an access that a memory made, for a store of n bytes
abbrev pub Makes : Kept → Found → ℕ → ℕ → ℕ → Prov → Type 0
Makes m f n align a prov = (io : Io) → run m.rows (access m.rows n align a prov) (store_of m io) ≡ Done (reached m.objects f)
    (settling_items f.settles ++ Alive f.name ∷ []) (after_settling f.settles (store_of m io))

pub store_raises : (m : Kept) (f : Found) (first : Bool) (via : Seen) (align a : ℕ) (prov : Prov) (cs : List Cell) (c : Clause) →
    Makes m f (length cs) align a prov → IsReached m.objects f (length cs) → Err c ≡ checked_store first via (life_in (held_of m.objects f.name)) f.from →
    (io : Io) → run m.rows (store m.rows first via align a prov (tagged_all m cs)) (store_of m io) ≡ Raised c
store_raises m f first via align a prov cs c makes r e io =
    let n : length (tagged_all m cs) ≡ length cs = tagged_length m cs in
    let is : Err c ≡ checked_store first via (Some (life_at r.object)) f.from =
    e ∙ ap (λ (o : Option Held). checked_store first via (life_in o) f.from) r.held in
    let at : reached m.objects f ≡ placed f.name f.from (life_at r.object) = reached_is m.objects f r.object r.held in
    let tail : run m.rows (store_in first via (tagged_all m cs) (reached m.objects f)) (after_settling f.settles (store_of m io)) ≡ Raised c =
    ap (λ (q : Accessed). run m.rows (store_in first via (tagged_all m cs) q) (after_settling f.settles (store_of m io))) at ∙ tail_is
    (Err c) first m.rows via (tagged_all m cs) f.name f.from (life_at r.object) (after_settling f.settles (store_of m io)) is in
    raised_then m.rows (access m.rows (length (tagged_all m cs)) align a prov) (store_in first via (tagged_all m cs)) (store_of m io)
    (after_settling f.settles (store_of m io)) (reached m.objects f) (settling_items f.settles ++ Alive f.name ∷ []) c
    (ap (λ (k : ℕ). run m.rows (access m.rows k align a prov) (store_of m io)) n ∙ makes io) tail

-- the memory after a store: the bytes are put, and what the access settles is settled
pub record IsStored (old new : Kept) (f : Found) (g : Held) : Type 0 where
  pub rest : record new { cells = [] } ≡ record old { objects = changed (holding g.cells) f.name old.objects; cells = [] }
  pub cells : CanSettle old.cells f.settles → (io : Io) → store_of (record old { cells = new.cells }) io ≡ after_settling f.settles (store_of old io)

pub store_done : (old new : Kept) (f : Found) (g : Held) (first : Bool) (via : Via) (seen : Seen) (align a : ℕ) (prov : Prov) (cs : List Cell)
    (items : List Item) → Makes old f (length cs) align a prov → (r : IsReached old.objects f (length cs)) → CanSettleOf old prov f.settles →
    Ok tt ≡ checked_store first seen (life_in (held_of old.objects f.name)) f.from → IsStored old new f g → IsWritten r.object g f.from via cs →
    items ≡ (settling_items f.settles ++ Alive f.name ∷ []) ++ Write f.name f.from (length cs) ∷ [] → HasCell old prov → IsShort via (length cs) →
    Sees old via seen → (io : Io) → run old.rows (store old.rows first seen align a prov (tagged_all old cs)) (store_of old io) ≡ Done tt items
    (store_of new io)
store_done old new f g first via seen align a prov cs items makes r can e stored w noted has short sees io =
    let n : length (tagged_all old cs) ≡ length cs = tagged_length old cs in
    let bs = stored_from (option_map form_of r.object.declared) seen 0 (tagged_all old cs) in
    let len : length bs ≡ length cs = stored_length (option_map form_of r.object.declared) seen 0 old cs in
    let is : Ok tt ≡ checked_store first seen (Some (life_at r.object)) f.from =
    e ∙ ap (λ (o : Option Held). checked_store first seen (life_in o) f.from) r.held in
    let at : reached old.objects f ≡ placed f.name f.from (life_at r.object) = reached_is old.objects f r.object r.held in
    let middle = after_settling f.settles (store_of old io) in
    let tail : run old.rows (store_in first seen (tagged_all old cs) (reached old.objects f)) middle ≡ put_act middle f.name f.from bs =
    ap (λ (q : Accessed). run old.rows (store_in first seen (tagged_all old cs) q) middle) at ∙ tail_is (Ok tt) first old.rows seen
    (tagged_all old cs) f.name f.from (life_at r.object) middle is in
    let settled_store : store_of (record old { cells = new.cells }) io ≡ middle = stored.cells (can has) io in
    let put : store_of (record old { cells = new.cells; objects = changed (holding g.cells) f.name old.objects }) io ≡ with_bytes
    (store_of (record old { cells = new.cells }) io) f.name f.from bs =
    written_is (record old { cells = new.cells }) r.object g f.name f.from via seen cs bs io r.held w (sees_same old new.cells via seen sees) short refl
    len in
    let new_is : new ≡ record old { cells = new.cells; objects = changed (holding g.cells) f.name old.objects } =
    ap (λ (k : Kept). record k { cells = new.cells }) stored.rest in
    let end : with_bytes middle f.name f.from bs ≡ store_of new io = ap (λ (s : Store). with_bytes s f.name f.from bs) (sym settled_store) ∙ sym put ∙ ap
    (λ (k : Kept). store_of k io) (sym new_is) in
    done_then old.rows (access old.rows (length (tagged_all old cs)) align a prov) (store_in first seen (tagged_all old cs)) (store_of old io) middle
    (with_bytes middle f.name f.from bs) (reached old.objects f) tt (settling_items f.settles ++ Alive f.name ∷ []) (Write f.name f.from (length bs) ∷ [])
    (ap (λ (k : ℕ). run old.rows (access old.rows k align a prov) (store_of old io)) n ∙ makes io) tail
    ∙ ap₂ (λ (k : ℕ) (s : Store). Done tt ((settling_items f.settles ++ Alive f.name ∷ []) ++ Write f.name f.from k ∷ []) s) len end
    ∙ ap (λ (js : List Item). Done tt js (store_of new io)) (sym noted)

pub cells_settle : (m w : Kept) (new : Cells) (objects : List Held) (settles : Settling) → w ≡ record m { objects = objects } →
    (CanSettle w.cells settles → (k : Kept) → k.cells ≡ w.cells → (io : Io) → store_of (record k { cells = new }) io ≡ after_settling settles (store_of k io))
    →
    CanSettle m.cells settles → (io : Io) → store_of (record m { cells = new }) io ≡ after_settling settles (store_of m io)
cells_settle m w new objects settles e store_is can io =
    store_is (subst (λ (k : Kept). CanSettle k.cells settles) (sym e) can) m (ap (λ (k : Kept). k.cells) (sym e)) io

pub stored_by : (old acc w new : Kept) (f : Found) (g : Held) (x : ObjName) → acc ≡ old →
    w ≡ record acc { objects = changed (holding g.cells) x acc.objects } → x ≡ f.name → record new { cells = [] } ≡ record w { cells = [] } →
    (CanSettle w.cells f.settles → (k : Kept) → k.cells ≡ w.cells → (io : Io) →
    store_of (record k { cells = new.cells }) io ≡ after_settling f.settles (store_of k io)) → IsStored old new f g
stored_by old acc w new f g x same put name rest store_is =
    let is : w ≡ record old { objects = changed (holding g.cells) f.name old.objects } =
    put ∙ ap₂ (λ (k : Kept) (y : ObjName). record k { objects = changed (holding g.cells) y k.objects }) same name in
    record {
      rest = rest ∙ ap (λ (k : Kept). record k { cells = [] }) is;
      cells = cells_settle old w new.cells (changed (holding g.cells) f.name old.objects) f.settles is store_is;
    }

pub access_fails : (m : Kept) (first : Bool) (via : Seen) (align a : ℕ) (prov : Prov) (cs : List Cell) (c : Clause) →
    ((io : Io) → run m.rows (access m.rows (length cs) align a prov) (store_of m io) ≡ Raised c) →
    (io : Io) → run m.rows (store m.rows first via align a prov (tagged_all m cs)) (store_of m io) ≡ Raised c
access_fails m first via align a prov cs c raises io =
    raised_first m.rows (access m.rows (length (tagged_all m cs)) align a prov) (store_in first via (tagged_all m cs)) (store_of m io) c
    (ap (λ (k : ℕ). run m.rows (access m.rows k align a prov) (store_of m io)) (tagged_length m cs) ∙ raises io)

pub few : (o : Settling) (x : ObjName) → length (settling_items o ++ Alive x ∷ []) < 32
few None x = omega arith
few (Some p) x = omega arith

-- ---- pieces stay known
left_origin : (b : Bool) (d : Bool) (via : Via) (i : ℕ) (c : Cell) (number : ℕ) → c.origin.number ≤ number → (cell_left d via i c).origin.number ≤ number
left_origin b true via i c number e = e
left_origin b false vias.Whole i c number e = e
left_origin b false vias.Bytes i c number e = e
left_origin b false (vias.Scalar id) i c number e = scalar_origin (is_character_numbered id.number) id
  where
    scalar_origin : (t : Bool) (ty : TypeId) → (cond t (untagged c) (record c { tag_index = i % 256; tag = ty })).origin.number ≤ number
    scalar_origin true ty = e
    scalar_origin false ty = e

known_at : (n : ℕ) (cs : List Cell) (at : ℕ) → CellsKnown n cs → (cell_at cs at).origin.number ≤ n
known_at n [] at known = omega arith
known_at n (c ∷ cs) zero known = known.0
known_at n (c ∷ cs) (suc at) known = known_at n cs at known.1

all_known : (n : ℕ) (cs : List Cell) → ((at : ℕ) → (cell_at cs at).origin.number ≤ n) → CellsKnown n cs
all_known n [] all = tt
all_known n (c ∷ cs) all = (all zero, all_known n cs (λ at. all (suc at)))

put_origin : (t d : Bool) (n : ℕ) (old new : Cell) (via : Via) (i : ℕ) → old.origin.number ≤ n → new.origin.number ≤ n →
    (cond t (cell_left d via i new) old).origin.number ≤ n
put_origin true d n old new via i e f = left_origin true d via i new n f
put_origin false d n old new via i e f = e

pub written_known : (n : ℕ) (h g : Held) (from : ℕ) (via : Via) (cs : List Cell) → IsWritten h g from via cs → CellsKnown n h.cells → CellsKnown n cs →
    CellsKnown n g.cells
written_known n h g from via cs w old new =
    all_known n g.cells (λ at. subst (λ (c : Cell). c.origin.number ≤ n) (sym (w.bytes at))
    (put_origin (nat_le from at && nat_lt at (from + length cs)) (is_some h.declared) n (cell_at h.cells at) (cell_at cs (at - from)) via (at - from)
    (known_at n h.cells at old) (known_at n cs (at - from) new)))

pub held_known : (n : ℕ) (hs : List Held) (k : ℕ) (h : Held) → slice_get hs k ≡ Some h → ObjectsKnown n hs → CellsKnown n h.cells
held_known n [] k h e known = absurd (cc)
held_known n (g ∷ hs) zero h e known = subst (λ (f : Held). CellsKnown n f.cells) (held_is g h e) known.0
  where
    held_is : (a b : Held) → Some a ≡ Some b → a ≡ b
    held_is a b q = cc
held_known n (g ∷ hs) (suc k) h e known = held_known n hs k h e known.1

holding_split : (b : Bool) (n : ℕ) (cs : List Cell) (h : Held) → CellsKnown n cs → CellsKnown n h.cells → CellsKnown n (cond b (holding cs h) h).cells
holding_split true n cs h new old = new
holding_split false n cs h new old = old

pub holding_known : (n : ℕ) (cs : List Cell) (x : ObjName) (hs : List Held) → CellsKnown n cs → ObjectsKnown n hs → ObjectsKnown n (changed (holding cs) x hs)
holding_known n cs x [] new known = tt
holding_known n cs x (h ∷ hs) new known = (holding_split (same_object h.name x) n cs h new known.0, holding_known n cs x hs new known.1)

pub store_known : (old new : Kept) (f : Found) (g : Held) (via : Via) (cs : List Cell) (r : IsReached old.objects f (length cs)) → IsStored old new f g →
    IsWritten r.object g f.from via cs → AreKnown old → CellsKnown (length old.origins) cs → AreKnown new
store_known old new f g via cs r stored w known fresh_known =
    let n = length old.origins in
    let after : ObjectsKnown n (changed (holding g.cells) f.name old.objects) =
    holding_known n g.cells f.name old.objects
    (written_known n r.object g f.from via cs w (held_known n old.objects f.object r.object r.there known) fresh_known) known in
    subst (λ (k : Kept). AreKnown k) (ap (λ (k : Kept). record k { cells = new.cells }) (sym stored.rest)) after
