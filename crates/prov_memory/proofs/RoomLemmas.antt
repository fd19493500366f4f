-- How far the rows of a memory reach, by what it created.
use Rattle.std.proofs.Common.{◌≡◌, ℕ, ◌+◌, ◌-◌, ◌*◌, ◌^◌, ◌≤◌, ◌<◌, Bool, true, false, not, ◌&&◌, ◌||◌, refl, sym, ap, ◌∙◌, subst, arith}
use Rattle.std.proofs.Common.{max, List, [], Option, Some, None}
use Rattle.std.specs.Prelude.{◌==◌, nat_le, min, is_some}
use Rattle.std.proofs.Math.Nat.{div-mul-le_self}
use Rattle.ub_base.specs.declared.names.ObjName.{ObjName}
use Rattle.ub_base.specs.Names.{same_object}
use Rattle.ub_base.proofs.NameLemmas.{same_object_is}
use Rattle.addr_map.specs.declared.map.Row.{Row}
use Rattle.addr_map.specs.declared.map.Mode.{Mode}
use Rattle.addr_map.specs.declared.map.Mode.TheVariants.{Spaced, Tight}
use Rattle.addr_map.specs.Rows.{row_of, row_at, free_of, is_power, base_of, insert_row}
use Rattle.addr_map.proofs.RowLists.{free-insert}
use Rattle.addr_map.proofs.Tests.{eq_true, le_true, le_false}
use Rattle.exposure.specs.declared.prov.Prov.TheVariants.{Whole}
use Rattle.c_types.specs.declared.shape.Shape.{Shape}
use Rattle.mem_spec.specs.declared.kind.ObjKind.{ObjKind}
use Rattle.mem_objects.specs.Held.{Held, held_of}
use Rattle.mem_objects.specs.Memory.{Kept, IsBorn, empty, cannot_create, no_place, has_room, base_by, rows_with}
use Rattle.mem_objects.specs.Room.{IsPacked, AreRowsCreated, BeginsPacked, StaysPacked, HasRoomWithin, IsClose, CanPlace}
use Rattle.mem_objects.proofs.StoreLemmas.{inserted_other}
use Rattle.mem_objects.proofs.SoundLemmas.{born_made, born_whole}

or_either : (b c : Bool) (P : Type 0) → (b ≡ true → P) → (c ≡ true → P) → (b || c) ≡ true → P
or_either true c P f g e = f refl
or_either false c P f g e = g e

is_small : (m n : ℕ) → n ≤ 16 → (m == n) ≡ true → m ≤ 16
is_small m n le e = omega (arith, le, eq_true m n e)

power_small : (m : ℕ) → is_power m ≡ true → m ≤ 16
power_small m e =
    or_either (m == 1) _ (m ≤ 16) (is_small m 1 (omega arith)) (or_either (m == 2) _ (m ≤ 16) (is_small m 2 (omega arith))
    (or_either (m == 4) _ (m ≤ 16) (is_small m 4 (omega arith)) (or_either (m == 8) _ (m ≤ 16) (is_small m 8 (omega arith))
    (is_small m 16 (omega arith))))) e

base_near : (mode : Mode) (rows : List Row) (align : ℕ) → is_power align ≡ true → base_of mode rows align ≤ free_of rows + 31
base_near Tight rows align power =
    omega (arith, div-mul-le_self (free_of rows + (align - 1)) align, power_small align power)
base_near Spaced rows align power = omega (arith, div-mul-le_self (free_of rows + 16 + (16 - 1)) 16)

left_one : (b c : Bool) → (b && c) ≡ true → b ≡ true
left_one true c e = refl
left_one false c e = absurd (cc)

right_one : (b c : Bool) → (b && c) ≡ true → c ≡ true
right_one true c e = e
right_one false c e = absurd (cc)

both_are : (b c : Bool) → b ≡ true → c ≡ true → (b && c) ≡ true
both_are true c e f = f
both_are false c e f = absurd (cc)

is_some_size : (b : Bool) (n : ℕ) → (n == 0) ≡ b → 0 < n → not b ≡ true
is_some_size true n e some = absurd (omega (arith, eq_true n 0 e, some))
is_some_size false n e some = refl

is_up_to : (b : Bool) (m n : ℕ) → nat_le m n ≡ b → m ≤ n → b ≡ true
is_up_to true m n e le = refl
is_up_to false m n e le = absurd (omega (arith, le_false m n e, le))

false_true : false ≡ true → ⊥
false_true e = cc

some_none : (h : Held) → Some h ≡ None → ⊥
some_none h e = cc

not_both : (b : Bool) → b ≡ true → not b ≡ true → ⊥
not_both true e f = cc
not_both false e f = cc

not_placed : (h : Option Held) (o : Option Row) (mode : Option Mode) (m : Kept) (size align : ℕ) → h ≡ None → (is_some o ≡ true → is_some h ≡ true) →
    is_some mode ≡ true → has_room m.rows size align ≡ true → (is_some h || no_place m o mode size align) ≡ true → ⊥
not_placed (Some k) o mode m size align absent only has room e = some_none k absent
not_placed None (Some r) mode m size align absent only has room e = false_true (only refl)
not_placed None None None m size align absent only has room e = false_true has
not_placed None None (Some mode) m size align absent only has room e = not_both (has_room m.rows size align) room e

pub begins_packed : BeginsPacked
begins_packed mode = omega arith

packed_by : (free free_after base created created_after size : ℕ) → free ≤ 2 ^ 24 + 3 * created → base ≤ free + 31 → free + size + 32 ≤ 2 ^ 47 →
    free_after ≡ max (base + size) free → created_after ≡ min (created + max size 16) (2 ^ 62) → free_after ≤ 2 ^ 24 + 3 * created_after
packed_by free free_after base created created_after size packed near room is counted = omega (arith, packed, near, room, is, counted)

pub stays_packed : StaysPacked
stays_packed old new x mode size align packed room rows counted =
    let power : is_power align ≡ true = left_one (is_power align) _ (right_one (not (size == 0)) _ room) in
    let within : free_of old.rows + size + 32 ≤ 2 ^ 47 =
    le_true (free_of old.rows + size + 32) (2 ^ 47) (right_one (is_power align) _ (right_one (not (size == 0)) _ room)) in
    packed_by (free_of old.rows) (free_of new.rows) (base_of mode old.rows align) old.created new.created size packed
    (base_near mode old.rows align power) within
    (ap free_of rows ∙ free-insert (row_at x (base_of mode old.rows align) size align) old.rows) counted

pub has_room_within : HasRoomWithin
has_room_within m size align packed within small some power =
    let le : free_of m.rows + size + 32 ≤ 2 ^ 47 = omega (arith, packed, within, small) in
    both_are (not (size == 0)) _ (is_some_size (size == 0) size refl some)
    (both_are (is_power align) _ power (is_up_to (nat_le (free_of m.rows + size + 32) (2 ^ 47)) (free_of m.rows + size + 32) (2 ^ 47) refl le))

-- ---- a memory whose objects stand close
pub empty_close : (mode : Option Mode) → IsClose (empty [] mode)
empty_close mode = record { packed = λ within. begins_packed mode; only = λ within x e. absurd (false_true e) }

pub place_found : (m : Kept) (x : ObjName) (size align : ℕ) → IsClose m → CanPlace m x size align → cannot_create m x size align ≡ true → ⊥
place_found m x size align close can e =
    not_placed (held_of m.objects x) (row_of m.rows x) m.mode m size align can.absent (close.only can.within x) can.mode
    (has_room_within m size align (close.packed can.within) can.within can.small can.some can.power) e

older : (a b n : ℕ) → b ≡ min (a + n) (2 ^ 62) → b ≤ 2 ^ 40 → a ≤ b
older a b n is within = omega (arith, is, within)

packed_same : (free free_after created created_after : ℕ) → free ≤ 2 ^ 24 + 3 * created → free_after ≡ free → created ≤ created_after →
    free_after ≤ 2 ^ 24 + 3 * created_after
packed_same free free_after created created_after packed same le = omega (arith, packed, same, le)

row_split : (t : Bool) (rows : List Row) (r : Row) (y : ObjName) (P : Type 0) → same_object r.name y ≡ t → (t ≡ true → P) →
    (is_some (row_of rows y) ≡ true → P) → is_some (row_of (insert_row r rows) y) ≡ true → P
row_split true rows r y P same here there e = here refl
row_split false rows r y P same here there e = there (sym (ap is_some (inserted_other (λ q. same_object q.name y) r rows same)) ∙ e)

not_true : (b : Bool) → not b ≡ false → b ≡ true
not_true true e = refl
not_true false e = absurd (cc)

born_is_close : (old new : Kept) (x : ObjName) (base size align : ℕ) (kind : ObjKind) (declared : Option Shape) (o : Option Row) (mode : Option Mode) →
    IsBorn old new x base size align kind declared → base ≡ base_by o mode old.rows align → no_place old o mode size align ≡ false →
    new.rows ≡ rows_with o (row_at x base size align) old.rows → IsClose old → new.created ≤ 2 ^ 40 → IsPacked new × AreRowsCreated new
born_is_close old new x base size align kind declared (Some r) mode b is able rows close within =
    let le : old.created ≤ new.created = older old.created new.created (max size 16) b.created within in
    let was : old.created ≤ 2 ^ 40 = omega (arith, le, within) in (
      packed_same (free_of old.rows) (free_of new.rows) old.created new.created (close.packed was) (ap free_of rows) le,
      λ y h. born_made old new x base size align kind declared b (Whole y) (close.only was y (sym (ap (λ (rs : List Row). is_some (row_of rs y)) rows) ∙ h)),
    )
born_is_close old new x base size align kind declared None None b is able rows close within = absurd (cc)
born_is_close old new x base size align kind declared None (Some mode) b is able rows close within =
    let le : old.created ≤ new.created = older old.created new.created (max size 16) b.created within in
    let was : old.created ≤ 2 ^ 40 = omega (arith, le, within) in
    let room : has_room old.rows size align ≡ true = not_true (has_room old.rows size align) able in
    let at : new.rows ≡ insert_row (row_at x (base_of mode old.rows align) size align) old.rows =
    rows ∙ ap (λ (n : ℕ). insert_row (row_at x n size align) old.rows) is in (
      stays_packed old new x mode size align (close.packed was) room at b.created,
      λ y h. row_split (same_object x y) old.rows (row_at x base size align) y (is_some (held_of new.objects y) ≡ true) refl
          (λ e. subst (λ (z : ObjName). is_some (held_of new.objects z) ≡ true) (same_object_is x y e)
          (born_whole old new x base size align kind declared b))
          (λ e. born_made old new x base size align kind declared b (Whole y) (close.only was y e))
          (sym (ap (λ (rs : List Row). is_some (row_of rs y)) rows) ∙ h),
    )

pub born_close : (old new : Kept) (x : ObjName) (base size align : ℕ) (kind : ObjKind) (declared : Option Shape) (o : Option Row) (mode : Option Mode) →
    IsBorn old new x base size align kind declared → base ≡ base_by o mode old.rows align → no_place old o mode size align ≡ false →
    new.rows ≡ rows_with o (row_at x base size align) old.rows → IsClose old → IsClose new
born_close old new x base size align kind declared o mode b is able rows close = record {
  packed = λ within. (born_is_close old new x base size align kind declared o mode b is able rows close within).0;
  only = λ within. (born_is_close old new x base size align kind declared o mode b is able rows close within).1;
}
