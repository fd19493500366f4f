-- Lemmas on a realloc that moves its object: what memory is once the bytes stand in the new one.
use Rattle.std.proofs.Common.{
  ◌≡◌,
  ℕ,
  ◌≤◌,
  ◌==◌,
  ◌&&◌,
  Bool,
  true,
  false,
  cond,
  arith,
  min,
  List,
  [],
  ◌∷◌,
  ◌++◌,
  length,
  refl,
  ap,
  ap₂,
  sym,
  subst,
  ◌∙◌,
  Option,
  Some,
  None,
}
use Rattle.std.specs.Prelude.{IfSome, Ok, is_some}
use Rattle.std.proofs.lemmas.List.{length-map}
use Rattle.ub_base.specs.declared.names.Item.{Item}
use Rattle.ub_base.specs.declared.names.Item.TheVariants.{Dies}
use Rattle.ub_base.specs.declared.names.ObjName.{ObjName}
use Rattle.ub_base.specs.Names.{same_object}
use Rattle.addr_map.specs.declared.map.Row.{Row}
use Rattle.addr_map.specs.Rows.{row_of}
use Rattle.addr_map.specs.Sound.{Above}
use Rattle.exposure.specs.Cells.{Cells}
use Rattle.c_types.specs.Shapes.{Form}
use Rattle.mem_objects.specs.declared.cell.Cell.{Cell}
use Rattle.mem_objects.specs.declared.cell.Via.TheVariants as vias
use Rattle.mem_spec.specs.Store.{Store, TaggedByte, Life, fresh, is_live, range_from, with_bytes, born, buried}
use Rattle.mem_spec.specs.Script.{Done, run}
use Rattle.mem_spec.specs.Acts.{whole, create, kill, retagged, declared_of, in_row, offset_in, base_in, size_in}
use Rattle.mem_spec.specs.Streams.{Io}
use Rattle.mem_objects.specs.Held.{Held, held_of}
use Rattle.mem_objects.specs.Memory.{Kept, AreKnown, ObjectsKnown, IsBorn, newborn, store_of, life_in}
use Rattle.mem_objects.specs.Made.{Settling, CanSettle, after_settling}
use Rattle.mem_objects.specs.Stores.{tagged_all}
use Rattle.mem_objects.specs.Tags.{AreTagged, CellsTagged, ObjectsTagged}
use Rattle.libc_spec.specs.Library.{heap_kind, is_heap_start}
use Rattle.libc_arguments.specs.declared.arguments.Range.{Range}
use Rattle.libc_arguments.specs.declared.arguments.Pointer.{Pointer}
use Rattle.libc_arguments.specs.Answers.{Does, AreBare}
use Rattle.libc_arguments.specs.Parts.{bytes_of}
use Rattle.libc_arguments.specs.Writes.{IsPlace, IsKept}
use Rattle.libc_heap.specs.Making.{new_life, rows_made, moved_store, CanMove, IsNewAt, IsStart}
use Rattle.libc_heap.proofs.Allocating.{based}
use Rattle.libc_heap.proofs.Making.{Fills, is_new, new_at, rows_above, stored_whole, within, no_offset, both_left, done_left}
use Rattle.libc_heap.proofs.Resizing.{row_kept, is_held, live_start, base_start, row_at_base, above_null, within_row, both_right, apart_by}

-- the old object's range, whose bytes the new one also has
abbrev pub old_range : ObjName → ℕ → Range
old_range x len = record { object = x; from = 0; len = len }

-- all but the ambiguities is as before
abbrev pub IsButCells : Kept → Kept → Type 0
IsButCells old new = record new { cells = [] } ≡ record old { cells = [] }

-- ---- objects beside the new one
beside_if : (b : Bool) (g : Held) (o p : Option Held) → (is_some o ≡ true → p ≡ o) → is_some (cond b (Some g) o) ≡ true → cond b (Some g) p ≡ cond b (Some g) o
beside_if true g o p h there = refl
beside_if false g o p h there = h there

held_beside : (hs : List Held) (h : Held) (x : ObjName) → is_some (held_of hs x) ≡ true → held_of (hs ++ h ∷ []) x ≡ held_of hs x
held_beside [] h x there = absurd (cc)
held_beside (g ∷ hs) h x there = beside_if (same_object g.name x) g (held_of hs x) (held_of (hs ++ h ∷ []) x) (λ some. held_beside hs h x some) there

absent_none : (o : Option Held) → o ≡ None → is_some o ≡ false
absent_none o e = ap is_some e

-- the new object isn't the old one
pub other_name : (m mid : Kept) (h x : ObjName) (a b n : ℕ) → IsStart m x a → IsBorn m mid h b n 16 heap_kind None → same_object h x ≡ false
other_name m mid h x a b n start made = apart_by (same_object h x) m h x refl (absent_none (held_of m.objects h) made.absent)
    (is_held (row_of m.rows x) a (held_of m.objects x) start.begins)

-- the old object's range can still be read
pub old_place : (m mid set : Kept) (h x : ObjName) (a b n len : ℕ) → IsStart m x a → IsBorn m mid h b n 16 heap_kind None → mid.rows ≡ rows_made m h n →
    IsButCells mid set → len ≡ min (size_in (row_of m.rows x)) n → IsPlace set a (old_range x len)
old_place m mid set h x a b n len start made rows rest size =
    let o = row_of m.rows x in
    let l = life_in (held_of m.objects x) in
    let there = is_held o a (held_of m.objects x) start.begins in
    let row : row_of set.rows x ≡ o = ap (λ (k : Kept). row_of k.rows x) rest ∙ ap (λ (rs : List Row). row_of rs x) rows ∙ row_kept m h x n there in
    let held : held_of set.objects x ≡ held_of m.objects x =
    ap (λ (k : Kept). held_of k.objects x) rest ∙ ap (λ (hs : List Held). held_of hs x) made.objects.1 ∙ held_beside m.objects
    (newborn h b n heap_kind None made.objects.0) x there in
    let q = row_at_base o a start.there (base_start o a l start.begins) in
    record {
      address = above_null a start.there;
      live = ap (λ (k : Option Held). is_live (life_in k)) held ∙ live_start o a l start.begins;
      inside = ap (λ (r : Option Row). in_row r a len) (row ∙ q.there) ∙ within a q.row.base len q.row.size q.base (within_row o q.row len n q.there size);
      from = sym (ap (λ (r : Option Row). offset_in r a) (row ∙ q.there) ∙ no_offset a q.row.base q.base);
    }

-- ---- tags
tags_added : (n : ℕ) (hs : List Held) (h : Held) → CellsTagged n h.cells → ObjectsTagged n hs → ObjectsTagged n (hs ++ h ∷ [])
tags_added n [] h here tagged = (here, tt)
tags_added n (g ∷ hs) h here tagged = (tagged.0, tags_added n hs h here tagged.1)

born_tagged : (m mid : Kept) (h : ObjName) (b n : ℕ) → IsBorn m mid h b n 16 heap_kind None → AreTagged m → AreTagged mid
born_tagged m mid h b n made tagged = rw (made.objects.1, made.types)
    (tags_added (length m.types) m.objects (newborn h b n heap_kind None made.objects.0) tt tagged)

but_tagged : (mid set : Kept) → IsButCells mid set → AreTagged mid → AreTagged set
but_tagged mid set rest tagged = subst (λ (k : Kept). ObjectsTagged (length k.types) k.objects) (sym rest) tagged

pub but_known : (mid set : Kept) → IsButCells mid set → AreKnown mid → AreKnown set
but_known mid set rest known = subst (λ (k : Kept). ObjectsKnown (length k.origins) k.objects) (sym rest) known

-- ---- the old object has no declared type
bare_by : (o : Option Row) (a : ℕ) (l : Option Life) → is_heap_start o a l ≡ true → IfSome l (λ l. l.kind.heap ≡ true → l.declared ≡ None) →
    declared_of l ≡ None
bare_by o a None e bare = refl
bare_by o a (Some l) e bare = bare (both_left l.kind.heap (base_in o == a) (both_right l.live (l.kind.heap && base_in o == a) e))

-- ---- the bytes in the new object
settled_born : (settles : Settling) (s : Store) (h : ObjName) (n : ℕ) →
    after_settling settles (born s h n heap_kind None) ≡ born (after_settling settles s) h n heap_kind None
settled_born None s h n = refl
settled_born (Some p) s h n = refl

settled_life : (settles : Settling) (s : Store) (x : ObjName) → (after_settling settles s).life x ≡ s.life x
settled_life None s x = refl
settled_life (Some p) s x = refl

new_kept : (m k : Kept) (x : ObjName) (a len : ℕ) → k.rows ≡ m.rows → k.objects ≡ m.objects → IsNewAt m x a len → IsNewAt k x a len
new_kept m k x a len rows objects w = record {
  row = w.row;
  there = ap (λ (rs : List Row). row_of rs x) rows ∙ w.there;
  base = w.base;
  above = w.above;
  room = w.room;
  life = ap (λ (hs : List Held). life_in (held_of hs x)) objects ∙ w.life;
}

short : (len size n : ℕ) → len ≡ min size n → len ≤ n
short len size n e = omega (arith, e)

-- the bytes as they stand, of an object without declared type
bare_bytes : (o : Option Form) (bs : List TaggedByte) → o ≡ None → retagged o 0 bs ≡ bs
bare_bytes o bs e = ap (λ (f : Option Form). retagged f 0 bs) e

-- what stands in the block is what the old object held
loaded_bytes : (m mid set : Kept) (io : Io) (h x : ObjName) (a b n len : ℕ) (settles : Settling) (bs : List TaggedByte) → AreBare m → IsStart m x a →
    IsBorn m mid h b n 16 heap_kind None →
    store_of set io ≡ born (after_settling settles (store_of m io)) h n heap_kind None →
    bs ≡ retagged (declared_of (life_in (held_of set.objects x))) 0 (bytes_of set (old_range x len)) →
    bs ≡ range_from ((after_settling settles (store_of m io)).bytes x) 0 len
loaded_bytes m mid set io h x a b n len settles bs bare start made store loaded =
    let u = after_settling settles (store_of m io) in
    let other = other_name m mid h x a b n start made in
    let life : life_in (held_of set.objects x) ≡ life_in (held_of m.objects x) =
    ap (λ (s : Store). s.life x) store ∙ ap (λ (q : Bool). cond q (Some new_life) (u.life x)) other ∙ settled_life settles (store_of m io) x in
    let none : declared_of (life_in (held_of set.objects x)) ≡ None =
    ap declared_of life ∙ bare_by (row_of m.rows x) a (life_in (held_of m.objects x)) start.begins (bare x) in
    loaded ∙ bare_bytes (declared_of (life_in (held_of set.objects x))) (bytes_of set (old_range x len)) none
    ∙ ap (λ (s : Store). range_from (s.bytes x) 0 len) store
    ∙ ap (λ (q : Bool). range_from (λ (i : ℕ). cond q fresh (u.bytes x i)) 0 len) other

-- ---- the store then
pub carried : (m mid set loaded put new : Kept) (io : Io) (h x : ObjName) (a n len : ℕ) (settles : Settling) (p : Pointer) (is ks : List Item)
    (cells : List Cell) → CanMove m → CanSettle m.cells settles → IsStart m x a → IsBorn m mid h p.addr n 16 heap_kind None →
    mid.rows ≡ rows_made m h n → Does (based h) (Ok p) is (store_of mid io) (run mid.rows (create mid.rows h n 16 heap_kind None) (store_of m io)) →
    len ≡ min (size_in (row_of m.rows x)) n →
    (CanSettle mid.cells settles → store_of set io ≡ after_settling settles (store_of mid io)) → IsButCells mid set →
    (AreTagged set → tagged_all loaded cells ≡ retagged (declared_of (life_in (held_of set.objects x))) 0 (bytes_of set (old_range x len))) →
    (AreTagged set → store_of loaded io ≡ store_of set io) → length cells ≡ len → IsKept set loaded →
    Fills loaded put vias.Whole h p.addr cells → run new.rows (kill x) (store_of put io) ≡ Done tt ks (store_of new io) →
    store_of new io ≡ moved_store (rows_made m h n) x h n (after_settling settles (store_of m io))
carried m mid set loaded put new io h x a n len settles p is ks cells can settle start made rows does size settled rest bytes store long kept fills killed =
    let s = store_of m io in
    let u = after_settling settles s in
    let made_is = is_new mid.rows h n p is s (store_of mid io) does in
    let high : Above 16777216 mid.rows = subst (λ (rs : List Row). Above 16777216 rs) (sym rows) (rows_above m h n can.high) in
    let tagged : AreTagged set = but_tagged mid set rest (born_tagged m mid h p.addr n made can.tagged) in
    let store_set : store_of set io ≡ born u h n heap_kind None =
    settled (subst (λ (c : Cells). CanSettle c settles) (sym made.cells) settle) ∙ ap (after_settling settles) made_is.store ∙ settled_born settles s h n in
    let block : tagged_all loaded cells ≡ range_from (u.bytes x) 0 len =
    loaded_bytes m mid set io h x a p.addr n len settles (tagged_all loaded cells) can.bare start made store_set (bytes tagged) in
    let count : length (tagged_all loaded cells) ≡ len = length-map cells _ ∙ long in
    let fits : length (tagged_all loaded cells) ≤ n = subst (λ (k : ℕ). k ≤ n) (sym count) (short len (size_in (row_of m.rows x)) n size) in
    let at : IsNewAt loaded h p.addr (length (tagged_all loaded cells)) =
    new_kept mid loaded h p.addr (length (tagged_all loaded cells)) (ap (λ (k : Kept). k.rows) kept ∙ ap (λ (k : Kept). k.rows) rest)
    (ap (λ (k : Kept). k.objects) kept ∙ ap (λ (k : Kept). k.objects) rest)
    (new_at mid h n p.addr (length (tagged_all loaded cells)) is s io made_is high fits) in
    let held = is_held (row_of m.rows x) a (held_of m.objects x) start.begins in
    let same : len ≡ min (size_in (row_of (rows_made m h n) x)) n = size ∙ ap (λ (o : Option Row). min (size_in o) n) (sym (row_kept m h x n held)) in
    done_left tt tt ks (Dies x ∷ []) (buried (store_of put io) x) (store_of new io) killed
    ∙ ap (λ (t : Store). buried t x) (fills tt whole tt at io ∙ ap₂ (λ (t : Store) (bs : List TaggedByte). with_bytes t h 0 bs) (store tagged ∙ store_set)
    (stored_whole 0 (tagged_all loaded cells) ∙ block ∙ ap (λ (k : ℕ). range_from (u.bytes x) 0 k) same))
