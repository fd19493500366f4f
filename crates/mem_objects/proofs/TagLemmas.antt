-- The tags of bytes by the types that a memory names by number.
use Rattle.std.proofs.Common.{◌≡◌, ℕ, zero, suc, ◌+◌, ◌-◌, ◌<◌, ◌≤◌, Bool, true, false, cond, refl, sym, ap, ap₂, ◌∙◌, subst, arith}
use Rattle.std.proofs.Common.{append_assoc, length-append, List, [], ◌∷◌, ◌++◌, length, map, drop, get_or, slice_get, Option, Some, None}
use Rattle.std.specs.Prelude.{Result, Ok, Err, IfOk, OnOk, nat_le, nat_lt, option_map, ◌==◌, ◌^◌}
use Rattle.std.proofs.lemmas.Bool.Decides.{nat_tests}
use Rattle.std.proofs.lemmas.List.{map-append}
use Rattle.exposure.specs.declared.prov.Prov.{Prov}
use Rattle.c_types.specs.declared.ty.Ty.{Ty}
use Rattle.c_types.specs.declared.kind.IntKind.{IntKind}
use Rattle.c_types.specs.Types.{CType, type_of, kind_of, int}
use Rattle.c_types.specs.Shapes.{Form, form_of, forms_of, Put, put_of}
use Rattle.c_types.specs.declared.shape.Placed.{Placed}
use Rattle.mem_objects.specs.declared.cell.Cell.{Cell}
use Rattle.ub_base.specs.declared.names.ObjName.{ObjName}
use Rattle.ub_base.specs.Names.{same_object}
use Rattle.exposure.specs.Cells.{kept_in}
use Rattle.mem_objects.specs.declared.types.Spanned.{Spanned}
use Rattle.mem_spec.specs.Agreement.{Tag, spanning, spanning_parts}
use Rattle.mem_spec.specs.Store.{TaggedByte, range_from}
use Rattle.mem_spec.specs.Acts.{retagged}
use Rattle.mem_spec.specs.Streams.{Io}
use Rattle.mem_objects.specs.Cells.{cell_at, byte_in, kind_numbered, integer_or, type_numbered, tagged_in}
use Rattle.mem_objects.specs.Held.{Held, held_of}
use Rattle.mem_objects.specs.Memory.{Kept, store_of, life_in, is_shown, tagged_in_object}
use Rattle.mem_objects.specs.Access.{bytes_in}
use Rattle.mem_objects.specs.Stores.{tagged_all}
use Rattle.mem_objects.specs.Tags.{Spans, retagged_byte, AddsTypes, IsTagged, CellsTagged, ObjectsTagged, AreTagged, IsTaken}

-- ---- types by their numbers
mapped_at : (ts : List Ty) (k : ℕ) → slice_get (map type_of ts) k ≡ option_map type_of (slice_get ts k)
mapped_at [] k = refl
mapped_at (t ∷ ts) zero = refl
mapped_at (t ∷ ts) (suc k) = mapped_at ts k

pub listed_at : (ts : List Ty) (k : ℕ) (t : Ty) (ty : CType) → Some t ≡ slice_get ts k → type_of t ≡ ty → slice_get (map type_of ts) k ≡ Some ty
listed_at ts k t ty at same = mapped_at ts k ∙ ap (option_map type_of) (sym at) ∙ ap Some same

apart : (n m : ℕ) → m < n → (n == m) ≡ false
apart n m lt = grind (arith, nat_tests)

-- the numbers behind those of the integer types
type_behind : (ts : List CType) (n k : ℕ) → n ≡ k + 13 → type_numbered ts n ≡ slice_get ts k
type_behind ts n k e =
    let e0 : (n == 0) ≡ false = apart n 0 (omega (arith, e)) in
    let e1 : (n == 1) ≡ false = apart n 1 (omega (arith, e)) in
    let e2 : (n == 2) ≡ false = apart n 2 (omega (arith, e)) in
    let e3 : (n == 3) ≡ false = apart n 3 (omega (arith, e)) in
    let e4 : (n == 4) ≡ false = apart n 4 (omega (arith, e)) in
    let e5 : (n == 5) ≡ false = apart n 5 (omega (arith, e)) in
    let e6 : (n == 6) ≡ false = apart n 6 (omega (arith, e)) in
    let e7 : (n == 7) ≡ false = apart n 7 (omega (arith, e)) in
    let e8 : (n == 8) ≡ false = apart n 8 (omega (arith, e)) in
    let e9 : (n == 9) ≡ false = apart n 9 (omega (arith, e)) in
    let e10 : (n == 10) ≡ false = apart n 10 (omega (arith, e)) in
    let e11 : (n == 11) ≡ false = apart n 11 (omega (arith, e)) in
    let e12 : (n == 12) ≡ false = apart n 12 (omega (arith, e)) in
    let at : n - 13 ≡ k = omega (arith, e) in
    rw (e0, e1, e2, e3, e4, e5, e6, e7, e8, e9, e10, e11, e12, at) refl

below_all : (ts : List Ty) (k : ℕ) (ty : CType) → slice_get (map type_of ts) k ≡ Some ty → k < length ts
below_all [] k ty e = absurd (cc)
below_all (t ∷ ts) zero ty e = omega arith
below_all (t ∷ ts) (suc k) ty e = omega (arith, below_all ts k ty e)

pub listed_is : (ts : List Ty) (k n : ℕ) (ty : CType) → n ≡ k + 13 → slice_get (map type_of ts) k ≡ Some ty → (type_numbered (map type_of ts) n ≡ Some ty) ×
    (n ≤ length ts + 12)
listed_is ts k n ty e at =
    (type_behind (map type_of ts) n k e ∙ at, omega (arith, e, below_all ts k ty at))

last_at : (ts : List Ty) (t : Ty) → slice_get (map type_of (ts ++ t ∷ [])) (length ts) ≡ Some (type_of t)
last_at [] t = refl
last_at (s ∷ ts) t = last_at ts t

pub last_is : (ts qs : List Ty) (t : Ty) (n : ℕ) → qs ≡ ts ++ t ∷ [] → n ≡ length ts + 13 → (type_numbered (map type_of qs) n ≡ Some (type_of t)) ×
    (n ≤ length qs + 12)
last_is ts qs t n is e = listed_is qs (length ts) n (type_of t) e (ap (λ (l : List Ty). slice_get (map type_of l) (length ts)) is ∙ last_at ts t)

-- ---- types are added
mapped_more : (ts extra : List Ty) (k : ℕ) → k < length ts → slice_get (map type_of (ts ++ extra)) k ≡ slice_get (map type_of ts) k
mapped_more [] extra k e = absurd (omega arith)
mapped_more (t ∷ ts) extra zero e = refl
mapped_more (t ∷ ts) extra (suc k) e = mapped_more ts extra k (omega arith)

-- the type of a number, by what stands in the list
abbrev typed_as : ℕ → Option CType → Option CType
typed_as n o = cond (n == 0) None (integer_or (kind_numbered n) o)

low_0 : (a b : Option CType) (n : ℕ) → n ≡ 0 → typed_as n a ≡ typed_as n b
low_0 a b n e = rw e refl

low_1 : (a b : Option CType) (n : ℕ) → n ≡ 1 → typed_as n a ≡ typed_as n b
low_1 a b n e = rw e refl

low_2 : (a b : Option CType) (n : ℕ) → n ≡ 2 → typed_as n a ≡ typed_as n b
low_2 a b n e = rw e refl

low_3 : (a b : Option CType) (n : ℕ) → n ≡ 3 → typed_as n a ≡ typed_as n b
low_3 a b n e = rw e refl

low_4 : (a b : Option CType) (n : ℕ) → n ≡ 4 → typed_as n a ≡ typed_as n b
low_4 a b n e = rw e refl

low_5 : (a b : Option CType) (n : ℕ) → n ≡ 5 → typed_as n a ≡ typed_as n b
low_5 a b n e = rw e refl

low_6 : (a b : Option CType) (n : ℕ) → n ≡ 6 → typed_as n a ≡ typed_as n b
low_6 a b n e = rw e refl

low_7 : (a b : Option CType) (n : ℕ) → n ≡ 7 → typed_as n a ≡ typed_as n b
low_7 a b n e = rw e refl

low_8 : (a b : Option CType) (n : ℕ) → n ≡ 8 → typed_as n a ≡ typed_as n b
low_8 a b n e = rw e refl

low_9 : (a b : Option CType) (n : ℕ) → n ≡ 9 → typed_as n a ≡ typed_as n b
low_9 a b n e = rw e refl

low_10 : (a b : Option CType) (n : ℕ) → n ≡ 10 → typed_as n a ≡ typed_as n b
low_10 a b n e = rw e refl

low_11 : (a b : Option CType) (n : ℕ) → n ≡ 11 → typed_as n a ≡ typed_as n b
low_11 a b n e = rw e refl

low_12 : (a b : Option CType) (n : ℕ) → n ≡ 12 → typed_as n a ≡ typed_as n b
low_12 a b n e = rw e refl

low : (a b : Option CType) (n : ℕ) → n ≤ 12 → typed_as n a ≡ typed_as n b
low a b zero le = low_0 a b zero (omega arith)
low a b (suc zero) le = low_1 a b (suc zero) (omega arith)
low a b (suc (suc zero)) le = low_2 a b (suc (suc zero)) (omega arith)
low a b (suc (suc (suc zero))) le = low_3 a b (suc (suc (suc zero))) (omega arith)
low a b (suc (suc (suc (suc zero)))) le = low_4 a b (suc (suc (suc (suc zero)))) (omega arith)
low a b (suc (suc (suc (suc (suc zero))))) le = low_5 a b (suc (suc (suc (suc (suc zero))))) (omega arith)
low a b (suc (suc (suc (suc (suc (suc zero)))))) le = low_6 a b (suc (suc (suc (suc (suc (suc zero)))))) (omega arith)
low a b (suc (suc (suc (suc (suc (suc (suc zero))))))) le = low_7 a b (suc (suc (suc (suc (suc (suc (suc zero))))))) (omega arith)
low a b (suc (suc (suc (suc (suc (suc (suc (suc zero)))))))) le = low_8 a b (suc (suc (suc (suc (suc (suc (suc (suc zero)))))))) (omega arith)
low a b (suc (suc (suc (suc (suc (suc (suc (suc (suc zero))))))))) le = low_9 a b (suc (suc (suc (suc (suc (suc (suc (suc (suc zero))))))))) (omega arith)
low a b (suc (suc (suc (suc (suc (suc (suc (suc (suc (suc zero)))))))))) le =
    low_10 a b (suc (suc (suc (suc (suc (suc (suc (suc (suc (suc zero)))))))))) (omega arith)
low a b (suc (suc (suc (suc (suc (suc (suc (suc (suc (suc (suc zero))))))))))) le =
    low_11 a b (suc (suc (suc (suc (suc (suc (suc (suc (suc (suc (suc zero))))))))))) (omega arith)
low a b (suc (suc (suc (suc (suc (suc (suc (suc (suc (suc (suc (suc zero)))))))))))) le =
    low_12 a b (suc (suc (suc (suc (suc (suc (suc (suc (suc (suc (suc (suc zero)))))))))))) (omega arith)
low a b (suc (suc (suc (suc (suc (suc (suc (suc (suc (suc (suc (suc (suc k))))))))))))) le = absurd (omega (arith, le))

type_stays_by : (t : Bool) (ts extra : List Ty) (n : ℕ) → nat_le n 12 ≡ t → n ≤ length ts + 12 →
    type_numbered (map type_of (ts ++ extra)) n ≡ type_numbered (map type_of ts) n
type_stays_by true ts extra n t e = low (slice_get (map type_of (ts ++ extra)) (n - 13)) (slice_get (map type_of ts) (n - 13)) n (grind (arith, nat_tests, t))
type_stays_by false ts extra n t e =
    let past : 13 ≤ n = grind (arith, nat_tests, t) in
    let at : n ≡ (n - 13) + 13 = omega (arith, past) in
    type_behind (map type_of (ts ++ extra)) n (n - 13) at ∙ mapped_more ts extra (n - 13) (omega (arith, past, e)) ∙ sym
    (type_behind (map type_of ts) n (n - 13) at)

type_stays : (ts extra : List Ty) (n : ℕ) → n ≤ length ts + 12 → type_numbered (map type_of (ts ++ extra)) n ≡ type_numbered (map type_of ts) n
type_stays ts extra n e = type_stays_by (nat_le n 12) ts extra n refl e

tagged_stays : (ps : List Prov) (ts extra : List Ty) (c : Cell) → c.tag.number ≤ length ts + 12 →
    tagged_in ps (map type_of (ts ++ extra)) c ≡ tagged_in ps (map type_of ts) c
tagged_stays ps ts extra c e =
    ap (λ (o : Option CType). record { byte = byte_in ps c; tag = option_map (λ (ty : CType). (ty, c.tag_index)) o }) (type_stays ts extra c.tag.number e)

pub adds_then : (a b c : Kept) → AddsTypes a b → AddsTypes b c → AddsTypes a c
adds_then a b c p q = (
  p.0 ++ q.0,
  q.1 ∙ ap (λ (k : Kept). record k { types = k.types ++ q.0 }) p.1 ∙ ap (λ (ts : List Ty). record a { types = ts })
      (append_assoc a.types p.0 q.0),
)

tagged_adds : (a b : Kept) (c : Cell) → AddsTypes a b → IsTagged (length a.types) c →
    tagged_in b.origins (map type_of b.types) c ≡ tagged_in a.origins (map type_of a.types) c
tagged_adds a b c p known = ap (λ (k : Kept). tagged_in k.origins (map type_of k.types) c) p.1 ∙ tagged_stays a.origins a.types p.0 c known

more_adds : (a b : Kept) → AddsTypes a b → length a.types ≤ length b.types
more_adds a b p = omega (arith, ap (λ (k : Kept). length k.types) p.1, length-append a.types p.0)

tags_more : (n m : ℕ) (c : Cell) → n ≤ m → IsTagged n c → IsTagged m c
tags_more n m c le known = omega (arith, le, known)

cells_more : (n m : ℕ) (cs : List Cell) → n ≤ m → CellsTagged n cs → CellsTagged m cs
cells_more n m [] le known = tt
cells_more n m (c ∷ cs) le known = (tags_more n m c le known.0, cells_more n m cs le known.1)

objects_more : (n m : ℕ) (hs : List Held) → n ≤ m → ObjectsTagged n hs → ObjectsTagged m hs
objects_more n m [] le known = tt
objects_more n m (h ∷ hs) le known = (cells_more n m h.cells le known.0, objects_more n m hs le known.1)

pub tag_at : (n : ℕ) (cs : List Cell) (at : ℕ) → CellsTagged n cs → IsTagged n (cell_at cs at)
tag_at n [] at known = omega arith
tag_at n (c ∷ cs) zero known = known.0
tag_at n (c ∷ cs) (suc at) known = tag_at n cs at known.1

held_is : (a b : Held) → Some a ≡ Some b → a ≡ b
held_is a b q = cc

pub tags_of : (n : ℕ) (hs : List Held) (k : ℕ) (h : Held) → slice_get hs k ≡ Some h → ObjectsTagged n hs → CellsTagged n h.cells
tags_of n [] k h e known = absurd (cc)
tags_of n (g ∷ hs) zero h e known = subst (λ (f : Held). CellsTagged n f.cells) (held_is g h e) known.0
tags_of n (g ∷ hs) (suc k) h e known = tags_of n hs k h e known.1

abbrev TaggedIn : ℕ → Option Held → Type 0
TaggedIn n None = Unit {0}
TaggedIn n (Some h) = CellsTagged n h.cells

tagged_split : (n : ℕ) (b : Bool) (h : Held) (o : Option Held) → CellsTagged n h.cells → TaggedIn n o → TaggedIn n (cond b (Some h) o)
tagged_split n true h o here there = here
tagged_split n false h o here there = there

tagged_held : (n : ℕ) (hs : List Held) (y : ObjName) → ObjectsTagged n hs → TaggedIn n (held_of hs y)
tagged_held n [] y known = tt
tagged_held n (h ∷ hs) y known = tagged_split n (same_object h.name y) h (held_of hs y) known.0 (tagged_held n hs y known.1)

pub all_tagged_adds : (a b : Kept) → AddsTypes a b → AreTagged a → AreTagged b
all_tagged_adds a b p known =
    subst (λ (hs : List Held). ObjectsTagged (length b.types) hs) (sym (ap (λ (k : Kept). k.objects) p.1))
    (objects_more (length a.types) (length b.types) a.objects (more_adds a b p) known)

tagged_object_adds : (m : Kept) (extra : List Ty) (o : Option Held) (at : ℕ) → TaggedIn (length m.types) o →
    tagged_in_object m.origins (m.types ++ extra) o at ≡ tagged_in_object m.origins m.types o at
tagged_object_adds m extra None at known = refl
tagged_object_adds m extra (Some h) at known = tagged_stays m.origins m.types extra (cell_at h.cells at) (tag_at (length m.types) h.cells at known)

store_types : (m : Kept) (extra : List Ty) → AreTagged m → (io : Io) → store_of (record m { types = m.types ++ extra }) io ≡ store_of m io
store_types m extra known io = λ i. record {
  life = λ x. life_in (held_of m.objects x);
  exposed = λ x. is_shown (held_of m.objects x);
  bytes = λ x at. tagged_object_adds m extra (held_of m.objects x) at (tagged_held (length m.types) m.objects x known) i;
  kept = λ e. kept_in m.cells e;
  input = io.input;
  position = io.position;
  output = io.output;
  created = m.created;
}

pub store_adds : (a b : Kept) → AddsTypes a b → AreTagged a → (io : Io) → store_of b io ≡ store_of a io
store_adds a b p known io = ap (λ (k : Kept). store_of k io) p.1 ∙ store_types a p.0 known io

-- ---- where a type isn't listed
type_is : (a b : CType) → Some a ≡ Some b → a ≡ b
type_is a b e = cc

not_there : (ty : CType) → None ≡ Some ty → ⊥
not_there ty e = cc

pub other_at : (ts : List Ty) (k : ℕ) (t : Ty) (ty : CType) → Some t ≡ slice_get ts k → (type_of t ≡ ty → ⊥) → slice_get (map type_of ts) k ≡ Some ty → ⊥
other_at ts k t ty here differs e = differs (type_is (type_of t) ty (ap (option_map type_of) here ∙ sym (mapped_at ts k) ∙ e))

pub nothing_at : (ts : List Ty) (k : ℕ) (ty : CType) → None ≡ slice_get ts k → slice_get (map type_of ts) k ≡ Some ty → ⊥
nothing_at ts k ty here e = not_there ty (ap (option_map type_of) here ∙ sym (mapped_at ts k) ∙ e)

-- none of the first types is this one
abbrev pub Unlisted : List Ty → CType → ℕ → Type 0
Unlisted ts ty n = (k : ℕ) → k < n → slice_get (map type_of ts) k ≡ Some ty → ⊥

next_by : (b : Bool) (ts : List Ty) (ty : CType) (n k : ℕ) → nat_lt k n ≡ b → k < n + 1 → Unlisted ts ty n →
    (slice_get (map type_of ts) n ≡ Some ty → ⊥) → slice_get (map type_of ts) k ≡ Some ty → ⊥
next_by true ts ty n k t lt before here e = before k (grind (arith, nat_tests, t)) e
next_by false ts ty n k t lt before here e =
    let same : k ≡ n = grind (arith, nat_tests, t, lt) in
    here (subst (λ (j : ℕ). slice_get (map type_of ts) j ≡ Some ty) same e)

pub unlisted_next : (ts : List Ty) (ty : CType) (n : ℕ) → Unlisted ts ty n → (slice_get (map type_of ts) n ≡ Some ty → ⊥) → Unlisted ts ty (n + 1)
unlisted_next ts ty n before here k lt e = next_by (nat_lt k n) ts ty n k refl lt before here e

past_end : (ts : List Ty) (k : ℕ) (ty : CType) → slice_get (map type_of ts) k ≡ Some ty → k < length ts
past_end [] k ty e = absurd (not_there ty e)
past_end (t ∷ ts) zero ty e = omega arith
past_end (t ∷ ts) (suc k) ty e = omega (arith, past_end ts k ty e)

pub unlisted_all : (ts : List Ty) (ty : CType) (n : ℕ) → length ts ≤ n → Unlisted ts ty n → (k : ℕ) → slice_get (map type_of ts) k ≡ Some ty → ⊥
unlisted_all ts ty n le all k e = all k (omega (arith, le, past_end ts k ty e)) e

-- a type that is read as no integer type has no number but one of a place in the list
same_in : (a b : CType) → Some a ≡ Some b → a ≡ b
same_in a b e = cc

no_kind : (k : IntKind) → kind_of (int k) ≡ None → ⊥
no_kind k e = cc

unnumbered_by : (b : Bool) (o : Option IntKind) (other : Option CType) (ty : CType) → kind_of ty ≡ None → (other ≡ Some ty → ⊥) →
    cond b None (integer_or o other) ≡ Some ty → ⊥
unnumbered_by true o other ty plain missing e = cc
unnumbered_by false (Some k) other ty plain missing e = no_kind k (subst (λ (t : CType). kind_of t ≡ None) (sym (same_in (int k) ty e)) plain)
unnumbered_by false None other ty plain missing e = missing e

pub unnumbered : (ts : List CType) (ty : CType) (n : ℕ) → kind_of ty ≡ None → ((k : ℕ) → slice_get ts k ≡ Some ty → ⊥) → type_numbered ts n ≡ Some ty → ⊥
unnumbered ts ty n plain missing e = unnumbered_by (n == 0) (kind_numbered n) (slice_get ts (n - 13)) ty plain (missing (n - 13)) e

-- ---- what spans a byte
-- so many parts of a list were looked at
abbrev pub SpansSo : List Placed → (at i : ℕ) → Spanned → Type 0
SpansSo ps at i found = (xs : List Tag) × (spanning_parts (forms_of (map put_of ps)) at ≡ xs ++ spanning_parts (forms_of (map put_of (drop i ps))) at) ×
    Spans found xs

drop_step : (ps : List Placed) (i : ℕ) (p : Placed) → i < length ps → p ≡ get_or ps i p → drop i ps ≡ p ∷ drop (i + 1) ps
drop_step [] i p lt e = absurd (omega arith)
drop_step (q ∷ ps) zero p lt e = ap (λ (x : Placed). x ∷ ps) (sym e)
drop_step (q ∷ ps) (suc i) p lt e =
    let next : suc (i + 1) ≡ suc i + 1 = omega arith in
    drop_step ps i p (omega arith) e ∙ ap (λ (k : ℕ). p ∷ drop k (q ∷ ps)) next

drop_end : (ps : List Placed) (i : ℕ) → length ps ≤ i → drop i ps ≡ []
drop_end [] zero le = refl
drop_end [] (suc i) le = refl
drop_end (q ∷ ps) zero le = absurd (omega arith)
drop_end (q ∷ ps) (suc i) le = drop_end ps i (omega arith)

abbrev pub spanning_in : Put → ℕ → List Tag
spanning_in p at = cond (nat_le p.offset at) (spanning p.part (at - p.offset)) []

pub parts_first : (ps : List Placed) (at : ℕ) (found : Spanned) → Spans found [] → SpansSo ps at 0 found
parts_first ps at found s = ([], refl, s)

pub parts_next : (ps : List Placed) (at i : ℕ) (p : Placed) (found one next : Spanned) → i < length ps → p ≡ get_or ps i p → SpansSo ps at i found →
    Spans one (spanning_in (put_of p) at) → ((xs ys : List Tag) → Spans found xs → Spans one ys → Spans next (xs ++ ys)) → SpansSo ps at (i + 1) next
parts_next ps at i p found one next lt e so here both =
    let ys = spanning_in (put_of p) at in (
      so.0 ++ ys,
      so.1 ∙ ap (λ (l : List Placed). so.0 ++ spanning_parts (forms_of (map put_of l)) at) (drop_step ps i p lt e) ∙ sym
          (append_assoc so.0 ys (spanning_parts (forms_of (map put_of (drop (i + 1) ps))) at)),
      both so.0 ys so.2 here,
    )

pub parts_end : (ps : List Placed) (at i : ℕ) (found : Spanned) → length ps ≤ i → SpansSo ps at i found →
    Spans found (spanning_parts (forms_of (map put_of ps)) at)
parts_end ps at i found le so =
    let all : spanning_parts (forms_of (map put_of ps)) at ≡ so.0 = so.1 ∙ ap (λ (l : List Placed). so.0 ++ spanning_parts (forms_of (map put_of l)) at)
    (drop_end ps i le) ∙ no_more so.0 in
    subst (λ (l : List Tag). Spans found l) (sym all) so.2
  where
    no_more : (l : List Tag) → l ++ [] ≡ l
    no_more [] = refl
    no_more (t ∷ l) = ap (λ (k : List Tag). t ∷ k) (no_more l)

-- ---- one byte more
range_more : (f : ℕ → TaggedByte) (from n : ℕ) → range_from f from (suc n) ≡ range_from f from n ++ f (from + n) ∷ []
range_more f from zero =
    let same : from ≡ from + 0 = omega arith in
    ap (λ (k : ℕ). f k ∷ []) same
range_more f from (suc n) =
    let same : suc from + n ≡ from + suc n = omega arith in
    ap (λ (bs : List TaggedByte). f from ∷ bs) (range_more f (suc from) n ∙ ap (λ (k : ℕ). range_from f (suc from) n ++ f k ∷ []) same)

form_more : (form : Form) (f : ℕ → TaggedByte) (from n : ℕ) → retagged (Some form) from (range_from f from (suc n)) ≡ retagged (Some form) from
    (range_from f from n) ++ retagged_byte (Some form) (from + n) (f (from + n)) ∷ []
form_more form f from zero =
    let same : from ≡ from + 0 = omega arith in
    ap (λ (k : ℕ). retagged_byte (Some form) k (f k) ∷ []) same
form_more form f from (suc n) =
    let same : suc from + n ≡ from + suc n = omega arith in
    ap (λ (bs : List TaggedByte). retagged_byte (Some form) from (f from) ∷ bs)
    (form_more form f (suc from) n ∙ ap (λ (k : ℕ). retagged (Some form) (suc from) (range_from f (suc from) n) ++ retagged_byte (Some form) k (f k) ∷ [])
    same)

retagged_more : (o : Option Form) (f : ℕ → TaggedByte) (from n : ℕ) → retagged o from (range_from f from (suc n)) ≡ retagged o from (range_from f from n) ++
    retagged_byte o (from + n) (f (from + n)) ∷ []
retagged_more None f from n = range_more f from n
retagged_more (Some form) f from n = form_more form f from n

all_adds : (a b : Kept) (cs : List Cell) → AddsTypes a b → CellsTagged (length a.types) cs → tagged_all b cs ≡ tagged_all a cs
all_adds a b [] p known = refl
all_adds a b (c ∷ cs) p known = ap₂ (λ (x : TaggedByte) (xs : List TaggedByte). x ∷ xs) (tagged_adds a b c p known.0) (all_adds a b cs p known.1)

tagged_end : (n : ℕ) (cs : List Cell) (c : Cell) → CellsTagged n cs → IsTagged n c → CellsTagged n (cs ++ c ∷ [])
tagged_end n [] c known k = (k, tt)
tagged_end n (d ∷ cs) c known k = (known.0, tagged_end n cs c known.1 k)

pub taken_next : (old now new : Kept) (h : Held) (o : Option Form) (from n at : ℕ) (cs ds : List Cell) (cell c : Cell) → AddsTypes old now →
    AddsTypes now new → AreTagged old → slice_get old.objects at ≡ Some h → IsTaken old now h o from n cs →
    ((g : Held) → slice_get now.objects at ≡ Some g → cell ≡ cell_at g.cells (from + n)) →
    tagged_in new.origins (map type_of new.types) c ≡ retagged_byte o (from + n) (tagged_in now.origins (map type_of now.types) cell) →
    (IsTagged (length now.types) cell → IsTagged (length new.types) c) → ds ≡ cs ++ c ∷ [] → IsTaken old new h o from (n + 1) ds
taken_next old now new h o from n at cs ds cell c p q known there taken is byte keeps e =
    let count : n + 1 ≡ suc n = omega arith in
    let here : cell ≡ cell_at h.cells (from + n) = is h (ap (λ (k : Kept). slice_get k.objects at) p.1 ∙ there) in
    let was : IsTagged (length old.types) cell = subst (λ (d : Cell). IsTagged (length old.types) d) (sym here)
    (tag_at (length old.types) h.cells (from + n) (tags_of (length old.types) old.objects at h there known)) in
    let one : tagged_in new.origins (map type_of new.types) c ≡ retagged_byte o (from + n)
    (tagged_in old.origins (map type_of old.types) (cell_at h.cells (from + n))) =
    byte ∙ ap (retagged_byte o (from + n)) (tagged_adds old now cell p was ∙ ap (tagged_in old.origins (map type_of old.types)) here) in
    record {
      bytes =
          ap (tagged_all new) e
          ∙ map-append (tagged_in new.origins (map type_of new.types)) cs (c ∷ [])
          ∙ ap₂ (λ (xs : List TaggedByte) (x : TaggedByte). xs ++ x ∷ []) (all_adds now new cs q taken.tags ∙ taken.bytes) one
          ∙ sym (retagged_more o (λ k. tagged_in old.origins (map type_of old.types) (cell_at h.cells k)) from n)
          ∙ ap (λ (k : ℕ). retagged o from (bytes_in old h from k)) (sym count);
      tags = subst (λ (l : List Cell). CellsTagged (length new.types) l) (sym e)
          (tagged_end (length new.types) cs c (cells_more (length now.types) (length new.types) cs (more_adds now new q) taken.tags)
          (keeps (tags_more (length old.types) (length now.types) cell (more_adds old now p) was)));
    }

pub taken_all : (old new : Kept) (h : Held) (o : Option Form) (from n k : ℕ) (cs : List Cell) → k ≡ n → IsTaken old new h o from k cs →
    IsTaken old new h o from n cs
taken_all old new h o from n k cs e t = subst (λ (j : ℕ). IsTaken old new h o from j cs) e t

pub taken_as : {V E : Type 0} (r : Result V E) (items : V → List Cell) (old new : Kept) (o : Option Form) (at from len : ℕ) →
    ((h : Held) → slice_get old.objects at ≡ Some h → o ≡ option_map form_of h.declared) →
    IfOk r (λ v. from + len ≤ 2 ^ 47 → AreTagged old → (h : Held) → slice_get old.objects at ≡ Some h → IsTaken old new h o from len (items v)) →
    IfOk r (λ v. from + len ≤ 2 ^ 47 → AreTagged old → (h : Held) → slice_get old.objects at ≡ Some h →
    IsTaken old new h (option_map form_of h.declared) from len (items v))
taken_as (Ok v) items old new o at from len is taken = λ range known h e.
    subst (λ (x : Option Form). IsTaken old new h x from len (items v)) (is h e) (taken range known h e)
taken_as (Err w) items old new o at from len is taken = tt

pub adds_objects : {V E : Type 0} (r : Result V E) (a b : Kept) → AddsTypes a b → OnOk r (b.objects ≡ a.objects)
adds_objects (Ok v) a b p = ap (λ (k : Kept). k.objects) p.1
adds_objects (Err w) a b p = tt
