-- What a new object keeps of a memory.
use Rattle.std.proofs.Common.{◌≡◌, ℕ, zero, suc, ◌+◌, ◌-◌, ◌*◌, ◌/◌, ◌%◌, ◌≤◌, ◌<◌, ◌^◌, Bool, true, false, not, ◌&&◌, ◌||◌, cond, refl, sym, ap, ◌∙◌, subst}
use Rattle.std.proofs.Common.{arith}
use Rattle.std.proofs.Common.{List, [], ◌∷◌, ◌++◌, length, map, Option, Some, None}
use Rattle.std.specs.Prelude.{is_some, option_map, IfSome, IfOk, OnOk, OnErr, Result, Ok, Err, ◌==◌}
use Rattle.std.proofs.Math.Nat.{mod-eq-sub-div-mul, div-mul-le_self, mod-lt}
use Rattle.std.proofs.lemmas.List.{map-append}
use Rattle.ub_base.specs.declared.names.ObjName.{ObjName}
use Rattle.ub_base.specs.Names.{same_object}
use Rattle.ub_base.proofs.NameLemmas.{same_object_is}
use Rattle.addr_map.specs.declared.map.Row.{Row}
use Rattle.addr_map.specs.declared.map.Mode.{Mode}
use Rattle.addr_map.specs.declared.map.Mode.TheVariants.{Spaced, Tight}
use Rattle.addr_map.specs.Rows.{row_of, row_at, free_of, is_power, round_up, base_of, insert_row}
use Rattle.addr_map.specs.Sound.{Above}
use Rattle.addr_map.proofs.RowLists.{above-insert, free_floor}
use Rattle.exposure.specs.declared.prov.Prov.{Prov}
use Rattle.exposure.specs.declared.prov.Prov.TheVariants.{Empty, Whole, Either}
use Rattle.exposure.specs.Cells.{Cells, kept_in, has_cell}
use Rattle.c_types.specs.declared.shape.Shape.{Shape}
use Rattle.c_types.specs.Shapes.{form_of}
use Rattle.mem_spec.specs.declared.kind.ObjKind.{ObjKind}
use Rattle.mem_objects.specs.Cells.{prov_numbered}
use Rattle.mem_objects.specs.Held.{Held, held_of}
use Rattle.mem_objects.specs.Memory.{Kept, IsBorn, newborn, life_in, cannot_create, no_place, has_room, base_by, rows_with}
use Rattle.mem_objects.specs.Made.{AreNamed, IsMade}
use Rattle.mem_objects.specs.Sound.{IsSound}
use Rattle.mem_objects.specs.Tags.{CellsTagged, ObjectsTagged}
use Rattle.mem_objects.specs.Room.{IsClose}
use Rattle.mem_objects.specs.Keeps.{lasting, RowsStay, Keeps, MayHaveRow}
use Rattle.mem_objects.proofs.ProvLemmas.{extends_none}
use Rattle.mem_objects.proofs.StoreLemmas.{inserted_other}
use Rattle.mem_objects.proofs.SoundLemmas.{some_row, created_made, created_sound}
use Rattle.prov_memory.proofs.KeepLemmas.{goes_on_same}
use Rattle.prov_memory.proofs.RoomLemmas.{born_close}

-- ---- rows
not_both : (o : Option Row) (s : Row) → o ≡ None → o ≡ Some s → ⊥
not_both o s e f = cc

other_name : (b : Bool) (rows : List Row) (r s : Row) (x : ObjName) → same_object r.name x ≡ b → row_of rows r.name ≡ None → row_of rows x ≡ Some s → b ≡ false
other_name true rows r s x same none e =
    absurd (not_both (row_of rows x) s (subst (λ (y : ObjName). row_of rows y ≡ None) (same_object_is r.name x same) none) e)
other_name false rows r s x same none e = refl

pub rows_stay : (rows : List Row) (r : Row) → row_of rows r.name ≡ None → RowsStay rows (insert_row r rows)
rows_stay rows r none x s e =
    inserted_other (λ q. same_object q.name x) r rows (other_name (same_object r.name x) rows r s x refl none e) ∙ e

with_stay : (o : Option Row) (r : Row) (rows : List Row) → row_of rows r.name ≡ o → RowsStay rows (rows_with o r rows)
with_stay (Some q) r rows e = λ x s f. f
with_stay None r rows e = rows_stay rows r e

rounded : (a m n q r : ℕ) → 0 < m → n ≡ a + (m - 1) → r ≡ n - q → q ≤ n → r < m → a ≤ q
rounded a m n q r some is rest le lt = omega (arith, some, is, rest, le, lt)

up_to_round : (a m : ℕ) → 0 < m → a ≤ round_up a m
up_to_round a m some =
    let n = a + (m - 1) in
    rounded a m n (n / m * m) (n % m) some refl (mod-eq-sub-div-mul n m) (div-mul-le_self n m) (mod-lt n some)

power_some : (m : ℕ) → is_power m ≡ true → 0 < m
power_some zero e = absurd (cc)
power_some (suc m) e = omega arith

sixteen : 0 < 16
sixteen = omega arith

pub base_high : (mode : Mode) (rows : List Row) (align : ℕ) → is_power align ≡ true → 16777216 ≤ base_of mode rows align
base_high Tight rows align power = omega (arith, free_floor rows, up_to_round (free_of rows) align (power_some align power))
base_high Spaced rows align power = omega (arith, free_floor rows, up_to_round (free_of rows + 16) 16 sixteen)

and_right : (b c : Bool) → (b && c) ≡ true → c ≡ true
and_right true c e = e
and_right false c e = absurd (cc)

and_left : (b c : Bool) → (b && c) ≡ true → b ≡ true
and_left true c e = refl
and_left false c e = absurd (cc)

not_true : (b : Bool) → not b ≡ false → b ≡ true
not_true true e = refl
not_true false e = absurd (cc)

or_right : (b c : Bool) → (b || c) ≡ false → c ≡ false
or_right true c e = absurd (cc)
or_right false c e = e

room_power : (rows : List Row) (size align : ℕ) → not (has_room rows size align) ≡ false → is_power align ≡ true
room_power rows size align e = and_left (is_power align) _ (and_right (not (size == 0)) _ (not_true (has_room rows size align) e))

placed_high : (m : Kept) (o : Option Row) (mode : Option Mode) (size align base : ℕ) → base ≡ base_by o mode m.rows align →
    no_place m o mode size align ≡ false → o ≡ None → 16777216 ≤ base
placed_high m (Some r) mode size align base is able none = absurd (cc)
placed_high m None None size align base is able none = absurd (cc)
placed_high m None (Some mode) size align base is able none = omega (arith, is, base_high mode m.rows align (room_power m.rows size align able))

with_high : (o : Option Row) (r : Row) (rows : List Row) → (o ≡ None → 16777216 ≤ r.base) → Above 16777216 rows → Above 16777216 (rows_with o r rows)
with_high (Some q) r rows high above = above
with_high None r rows high above = above-insert 16777216 r rows (high refl) above

-- ---- a row alone
made_rows : (m : Kept) (rows : List Row) (p : Prov) → IsMade m p → IsMade (record m { rows = rows; created = 2 ^ 62 }) p
made_rows m rows Empty made = tt
made_rows m rows (Whole x) made = made
made_rows m rows (Either id past start) made = made

-- which counts as full
keeps_rows : (m : Kept) (rows : List Row) → RowsStay m.rows rows → (Above 16777216 m.rows → Above 16777216 rows) →
    Keeps m (record m { rows = rows; created = 2 ^ 62 })
keeps_rows m rows stay high = record {
  rows = stay;
  high = high;
  mode = refl;
  objects = goes_on_same (map lasting m.objects) (map lasting m.objects) refl;
  origins = extends_none m.origins;
  types = goes_on_same m.types m.types refl;
  cells = λ e h. h;
  settled = λ e x h. h;
  made = made_rows m rows;
  sound = λ s. record {
    known = s.known;
    named = s.named;
    made = λ n. made_rows m rows (prov_numbered m.origins n) (s.made n);
    rowed = λ x h. some_row (row_of m.rows x) (row_of rows x) (stay x) (s.rowed x h);
  };
  tagged = λ t. t;
  bare = λ b. b;
  close = λ c. record { packed = λ within. absurd (omega (arith, within)); only = λ within. absurd (omega (arith, within)) };
}

pub keeps_full : (m : Kept) → Keeps m (record m { created = 2 ^ 62 })
keeps_full m = keeps_rows m m.rows (λ x r e. e) (λ h. h)

pub keeps_placed : (m : Kept) (r : Row) → row_of m.rows r.name ≡ None → 16777216 ≤ r.base →
    Keeps m (record m { rows = insert_row r m.rows; created = 2 ^ 62 })
keeps_placed m r none high = keeps_rows m (insert_row r m.rows) (rows_stay m.rows r none) (above-insert 16777216 r m.rows high)

-- what is left where the row was placed
pub row_left : (old new : Kept) (x : ObjName) (base size align : ℕ) → record new { rows = [] } ≡ record old { rows = [] } →
    base ≡ base_by (row_of old.rows x) old.mode old.rows align → new.rows ≡ rows_with (row_of old.rows x) (row_at x base size align) old.rows →
    MayHaveRow old (record new { created = 2 ^ 62 }) x size align
row_left old new x base size align rest is rows = (
  true,
  ap (λ (m : Kept). record m { rows = new.rows; created = 2 ^ 62 }) rest
      ∙ ap (λ (rs : List Row). record old { rows = rs; created = 2 ^ 62 })
      (rows ∙ ap (λ (b : ℕ). rows_with (row_of old.rows x) (row_at x b size align) old.rows) is),
)

-- ---- a new object
abbrev Bare : Option Held → Type 0
Bare o = IfSome (life_in o) (λ l. l.kind.heap ≡ true → l.declared ≡ None)

bare_split : (b : Bool) (g : Held) (o p : Option Held) → (Bare o → Bare p) → Bare (cond b (Some g) o) → Bare (cond b (Some g) p)
bare_split true g o p keeps bare = bare
bare_split false g o p keeps bare = keeps bare

bare_first : (b : Bool) (h : Held) → Bare (Some h) → Bare (cond b (Some h) None)
bare_first true h bare = bare
bare_first false h bare = tt

bare_end : (hs : List Held) (h : Held) (x : ObjName) → Bare (Some h) → Bare (held_of hs x) → Bare (held_of (hs ++ h ∷ []) x)
bare_end [] h x new old = bare_first (same_object h.name x) h new
bare_end (g ∷ hs) h x new old = bare_split (same_object g.name x) g (held_of hs x) (held_of (hs ++ h ∷ []) x) (bare_end hs h x new) old

tagged_end : (n : ℕ) (hs : List Held) (h : Held) → CellsTagged n h.cells → ObjectsTagged n hs → ObjectsTagged n (hs ++ h ∷ [])
tagged_end n [] h new t = (new, tt)
tagged_end n (g ∷ hs) h new t = (t.0, tagged_end n hs h new t.1)

form_none : {X : Type 0} (g : X → Shape) (d : Option X) → option_map (λ x. form_of (g x)) d ≡ None → option_map form_of (option_map g d) ≡ None
form_none g None e = refl
form_none g (Some x) e = e

keeps_born : (old new : Kept) (x : ObjName) (base size align : ℕ) (kind : ObjKind) (declared : Option Shape) →
    IsBorn old new x base size align kind declared → (AreNamed old → AreNamed new) →
    new.rows ≡ rows_with (row_of old.rows x) (row_at x base size align) old.rows → (row_of old.rows x ≡ None → 16777216 ≤ base) →
    new.mode ≡ old.mode → (kind.heap ≡ true → option_map form_of declared ≡ None) → (IsClose old → IsClose new) → Keeps old new
keeps_born old new x base size align kind declared b named rows high mode bare close =
    let one = newborn x base size kind declared b.objects.0 in
    let r = row_at x base size align in
    let ok : Result ℕ ℕ = Ok base in
    let stays : RowsStay old.rows new.rows = subst (λ (rs : List Row). RowsStay old.rows rs) (sym rows) (with_stay (row_of old.rows x) r old.rows refl) in
    record {
      rows = stays;
      high = λ above. subst (λ (rs : List Row). Above 16777216 rs) (sym rows) (with_high (row_of old.rows x) r old.rows high above);
      mode = mode;
      objects = (map lasting (one ∷ []), ap (map lasting) b.objects.1 ∙ map-append lasting old.objects (one ∷ []));
      origins = (Whole x ∷ [], b.origins);
      types = goes_on_same old.types new.types b.types;
      cells = λ e h. ap (λ (cs : Cells). has_cell cs e) b.cells ∙ h;
      settled = λ e y h. ap (λ (cs : Cells). kept_in cs e) b.cells ∙ h;
      made = created_made ok old new x size align kind declared b;
      sound = created_sound ok old new x size align kind declared b named stays;
      tagged = λ t. subst (λ (hs : List Held). ObjectsTagged (length new.types) hs) (sym b.objects.1)
          (tagged_end (length new.types) old.objects one tt (subst (λ (n : ℕ). ObjectsTagged n old.objects) (sym (ap length b.types)) t));
      bare = λ u y. subst (λ (hs : List Held). Bare (held_of hs y)) (sym b.objects.1) (bare_end old.objects one y bare (u y));
      close = close;
    }

pub keeps_created : {X E : Type 0} (r : Result ℕ E) (old new : Kept) (x : ObjName) (size align : ℕ) (kind : ObjKind) (g : X → Shape) (declared : Option X) →
    IfOk r (λ base. IsBorn old new x base size align kind (option_map g declared)) → (AreNamed old → OnOk r (AreNamed new)) →
    IfOk r (λ base. base ≡ base_by (row_of old.rows x) old.mode old.rows align) →
    IfOk r (λ base. new.rows ≡ rows_with (row_of old.rows x) (row_at x base size align) old.rows) → OnOk r (cannot_create old x size align ≡ false) →
    new.mode ≡ old.mode → OnErr r (Keeps old new) → (kind.heap ≡ true → option_map (λ s. form_of (g s)) declared ≡ None) → Keeps old new
keeps_created (Ok base) old new x size align kind g declared born named is rows able mode kept bare =
    keeps_born old new x base size align kind (option_map g declared) born named rows
    (placed_high old (row_of old.rows x) old.mode size align base is (or_right (is_some (held_of old.objects x)) _ able)) mode
    (λ heap. form_none g declared (bare heap))
    (born_close old new x base size align kind (option_map g declared) (row_of old.rows x) old.mode born is
    (or_right (is_some (held_of old.objects x)) _ able) rows)
keeps_created (Err e) old new x size align kind g declared born named is rows able mode kept bare = kept

pub rows_kept : {E : Type 0} (r : Result ℕ E) (old new : Kept) (x : ObjName) (size align : ℕ) →
    IfOk r (λ base. new.rows ≡ rows_with (row_of old.rows x) (row_at x base size align) old.rows) → OnOk r (RowsStay old.rows new.rows)
rows_kept (Ok base) old new x size align rows =
    subst (λ (rs : List Row). RowsStay old.rows rs) (sym rows) (with_stay (row_of old.rows x) (row_at x base size align) old.rows refl)
rows_kept (Err e) old new x size align rows = tt

pub made_either : {E : Type 0} (r : Result ℕ E) (old new : Kept) (p : Prov) → (IsMade old p → OnOk r (IsMade new p)) → OnErr r (Keeps old new) →
    IsMade old p → IsMade new p
made_either (Ok base) old new p ok err made = ok made
made_either (Err e) old new p ok err made = err.made p made

pub sound_either : {E : Type 0} (r : Result ℕ E) (old new : Kept) → (IsSound old → OnOk r (IsSound new)) → OnErr r (Keeps old new) → IsSound old → IsSound new
sound_either (Ok base) old new ok err s = ok s
sound_either (Err e) old new ok err s = err.sound s

-- ---- where memory was wanted
pub failed_kept : {V E : Type 0} (r : Result V E) (old placed new : Kept) → new ≡ placed → Keeps old placed → OnErr r (Keeps old new)
failed_kept (Ok v) old placed new e k = tt
failed_kept (Err w) old placed new e k = subst (λ (m : Kept). Keeps old m) (sym e) k

pub failed_row : {V E : Type 0} (r : Result V E) (old placed new : Kept) (x : ObjName) (size align : ℕ) → new ≡ placed →
    MayHaveRow old placed x size align → OnErr r (MayHaveRow old new x size align)
failed_row (Ok v) old placed new x size align e row = tt
failed_row (Err w) old placed new x size align e row = subst (λ (m : Kept). MayHaveRow old m x size align) (sym e) row
