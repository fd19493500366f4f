-- Sets of bytes of objects, kept as ranges (own).
use Rattle.std.specs.Prelude.{◌≡◌, ◌<◌, ◌≤◌, ℕ, Bool, true, false, ◌&&◌, ◌||◌, ◌==◌, nat_lt, nat_le, ◌^◌, List, [], ◌∷◌, Option, Some, None, if◌then◌else◌}
use Rattle.std.specs.declared.cmp.Ordering.{Ordering}
use Rattle.std.specs.Ordering.{nat_cmp, ordering_then}
use Rattle.std.specs.BTreeMap.{BTreeMap, get}
use Rattle.ub_base.specs.declared.names.ObjName.{ObjName}
use Rattle.ub_base.specs.Names.{same_object}
use Rattle.ub_base.specs.NameOrders.{object_cmp}

-- a range has the bytes of its object from the first one up to but without its end
abbrev pub range_has : (ObjName × ℕ) × ℕ → ObjName → ℕ → Bool
range_has r x i = same_object r.0.0 x && (nat_le r.0.1 i && nat_lt i r.1)

-- the byte is in one of the ranges
abbrev pub has_byte : List ((ObjName × ℕ) × ℕ) → ObjName → ℕ → Bool
has_byte [] x i = false
has_byte (r ∷ rs) x i = range_has r x i || has_byte rs x i

-- both sets have a byte of one object
abbrev pub Meet : List ((ObjName × ℕ) × ℕ) → List ((ObjName × ℕ) × ℕ) → Type 0
Meet rs ss = (x : ObjName) × (i : ℕ) × (has_byte rs x i ≡ true) × (has_byte ss x i ≡ true)

-- ranges are kept by object and first byte
abbrev pub start_cmp : ObjName × ℕ → ObjName × ℕ → Ordering
start_cmp x y = ordering_then (object_cmp x.0 y.0) (nat_cmp x.1 y.1)

-- the end of the range of that object that begins at that byte
abbrev pub end_at : BTreeMap (ObjName × ℕ) ℕ → ObjName → ℕ → Option ℕ
end_at ends x f = get start_cmp ends (x, f)

-- the object's byte is in one of the ranges
abbrev pub Held : BTreeMap (ObjName × ℕ) ℕ → ObjName → ℕ → Type 0
Held ends x i = (f : ℕ) × (e : ℕ) × (end_at ends x f ≡ Some e) × (f ≤ i) × (i < e)

-- no range is empty, and of one object none overlaps or touches the next
pub record Separate (ends : BTreeMap (ObjName × ℕ) ℕ) : Type 0 where
  pub bound : (x : ObjName) (f e : ℕ) → end_at ends x f ≡ Some e → e < 2 ^ 64
  pub filled : (x : ObjName) (f e : ℕ) → end_at ends x f ≡ Some e → f < e
  pub apart : (x : ObjName) (f e g h : ℕ) → end_at ends x f ≡ Some e → end_at ends x g ≡ Some h → f < g → e < g

-- whether a range begins at that object's byte, within these two
abbrev pub begins_in : ObjName → (from last : ℕ) → ObjName → ℕ → Bool
begins_in x from last y f = same_object x y && (nat_le from f && nat_le f last)

-- the ranges without those of the object that begin there
abbrev pub Without : (old new : BTreeMap (ObjName × ℕ) ℕ) → ObjName → (from last : ℕ) → Type 0
Without old new x from last = (y : ObjName) (f : ℕ) → end_at new y f ≡ (if begins_in x from last y f then None else end_at old y f)

-- the first byte of a range that the set has, if it has one
abbrev pub IsFirstByte : List ((ObjName × ℕ) × ℕ) → ObjName → (from end : ℕ) → Option ℕ → Type 0
IsFirstByte rs x from end None = (i : ℕ) → from ≤ i → i < end → has_byte rs x i ≡ false
IsFirstByte rs x from end (Some at) = (from ≤ at) × (at < end) × (has_byte rs x at ≡ true) × ((i : ℕ) → from ≤ i → i < at → has_byte rs x i ≡ false)

-- the ranges with that one in place of those of its object that begin from its first byte up to its end
abbrev pub Joins : (old new : BTreeMap (ObjName × ℕ) ℕ) → ObjName → (from end : ℕ) → Type 0
Joins old new x from end = (y : ObjName) (f : ℕ) →
    end_at new y f ≡ (if same_object x y && (f == from) then Some end else (if begins_in x from end y f then None else end_at old y f))
