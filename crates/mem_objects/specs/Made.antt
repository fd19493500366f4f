-- Which provenances a memory made, and what settling leaves (own).
use Rattle.std.specs.Prelude.{
  ◌≡◌,
  ℕ,
  ◌≤◌,
  ◌^◌,
  Bool,
  true,
  false,
  List,
  [],
  ◌∷◌,
  ◌++◌,
  ◌==◌,
  Option,
  Some,
  None,
  is_some,
  if◌then◌else◌,
  Result,
  Ok,
  Err,
  ℤ,
  pos,
}
use Rattle.std.specs.BTreeMap.{BTreeMap, get}
use Rattle.std.specs.declared.cmp.Ordering.{Ordering}
use Rattle.ub_base.specs.declared.clause.Clause.{Clause}
use Rattle.ub_base.specs.declared.clause.Clause.TheVariants.{OutOfBounds}
use Rattle.ub_base.specs.declared.names.Event.{Event}
use Rattle.ub_base.specs.declared.names.Item.{Item}
use Rattle.ub_base.specs.declared.names.Item.TheVariants.{Narrow, Lookup}
use Rattle.ub_base.specs.declared.names.ObjName.{ObjName}
use Rattle.addr_map.specs.declared.map.Row.{Row}
use Rattle.addr_map.specs.Rows.{row_of}
use Rattle.exposure.specs.declared.prov.Prov.{Prov}
use Rattle.exposure.specs.declared.prov.Prov.TheVariants.{Empty, Whole, Either}
use Rattle.exposure.specs.contracts.prov.ProvOrd.TheImpl as prov_ord
use Rattle.exposure.specs.Cells.{Cells, kept_in, has_cell, is_other}
use Rattle.mem_spec.specs.Store.{Store, settled}
use Rattle.mem_spec.specs.Acts.{in_bounds}
use Rattle.mem_objects.specs.Cells.{prov_numbered}
use Rattle.mem_objects.specs.Held.{Held, held_of}
use Rattle.mem_objects.specs.Memory.{Kept}

-- the order that the derives give provenances
abbrev pub prov_cmp : Prov → Prov → Ordering
prov_cmp = (prov_ord.ghosts).cmp

abbrev pub is_ambiguous : Prov → Bool
is_ambiguous Empty = false
is_ambiguous (Whole x) = false
is_ambiguous (Either id past start) = true

-- the provenance has a number
abbrev pub HasNumber : List Prov → Prov → Type 0
HasNumber ps p = (n : ℕ) × (prov_numbered ps n ≡ p)

-- each ambiguity among the provenances is found by its number
pub record AreNumbered (numbers : BTreeMap Prov ℕ) (ps : List Prov) : Type 0 where
  pub there : (p : Prov) (n : ℕ) → get prov_cmp numbers p ≡ Some n → prov_numbered ps n ≡ p
  pub only : (p : Prov) (n : ℕ) → get prov_cmp numbers p ≡ Some n → is_ambiguous p ≡ true
  pub found : (p : Prov) → is_ambiguous p ≡ true → HasNumber ps p → is_some (get prov_cmp numbers p) ≡ true

-- the objects of the provenance were created
abbrev pub AreCreated : Kept → Prov → Type 0
AreCreated m Empty = Unit {0}
AreCreated m (Whole x) = is_some (held_of m.objects x) ≡ true
AreCreated m (Either id past start) = (is_some (held_of m.objects past) ≡ true) × (is_some (held_of m.objects start) ≡ true)

-- the provenance was made in this memory: its object was created, or the ambiguity has its cell and its number, and its candidates were created
abbrev pub IsMade : Kept → Prov → Type 0
IsMade m Empty = Unit {0}
IsMade m (Whole x) = is_some (held_of m.objects x) ≡ true
IsMade m (Either id past start) = (has_cell m.cells id ≡ true) × (HasNumber m.origins (Either id past start) × AreCreated m (Either id past start))

abbrev pub EachNamed : List Prov → List Held → Type 0
EachNamed ps [] = Unit {0}
EachNamed ps (h ∷ hs) = (prov_numbered ps h.origin.number ≡ Whole h.name) × EachNamed ps hs

-- each object's number is that of its own provenance
abbrev pub AreNamed : Kept → Type 0
AreNamed m = EachNamed m.origins m.objects

-- what arithmetic or a comparison settles: an ambiguity to an object, or none
abbrev pub Settling : Type 0
Settling = Option (Event × ObjName)

-- it can be settled where it wasn't settled to another
abbrev pub settling_to : Cells → Event → ObjName → Clause → Result Settling Clause
settling_to cells id x c = if is_other (kept_in cells id) x then Err c else Ok (Some (id, x))

abbrev pub settling_by : Bool → Bool → Cells → Event → (past start : ObjName) → Clause → Result Settling Clause
settling_by true true cells id past start c = Ok None
settling_by true false cells id past start c = settling_to cells id past c
settling_by false true cells id past start c = settling_to cells id start c
settling_by false false cells id past start c = Err c

-- what arithmetic that ends at an address settles
abbrev pub shift_settling : List Row → Cells → ℤ → Prov → Result Settling Clause
shift_settling rows cells a Empty = Err OutOfBounds
shift_settling rows cells a (Whole x) = if in_bounds (row_of rows x) a then Ok None else Err OutOfBounds
shift_settling rows cells a (Either id past start) = settling_by (in_bounds (row_of rows past) a) (in_bounds (row_of rows start) a) cells id past start
    OutOfBounds

-- the ambiguity is there and wasn't settled to another object
abbrev pub CanSettle : Cells → Settling → Type 0
CanSettle cells None = Unit {0}
CanSettle cells (Some s) = (has_cell cells s.0 ≡ true) × (is_other (kept_in cells s.0) s.1 ≡ false)

abbrev pub settling_items : Settling → List Item
settling_items None = []
settling_items (Some s) = Narrow s.0 s.1 ∷ []

abbrev pub after_settling : Settling → Store → Store
after_settling None s = s
after_settling (Some p) s = settled s p.0 p.1

-- a result that is an address
abbrev pub address_result : Result ℕ Clause → Result ℤ Clause
address_result (Ok a) = Ok (pos a)
address_result (Err c) = Err c

-- more of a list
abbrev pub Extends : List Prov → List Prov → Type 0
Extends ps qs = (more : List Prov) × (qs ≡ ps ++ more)

-- the memory has more numbers of provenances and more empty cells, and is otherwise the same
pub record HasMore (old new : Kept) : Type 0 where
  pub origins : Extends old.origins new.origins
  pub kept : (e : Event) → kept_in new.cells e ≡ kept_in old.cells e
  pub cells : (e : Event) → has_cell old.cells e ≡ true → has_cell new.cells e ≡ true
  pub rest : record new { cells = []; origins = [] } ≡ record old { cells = []; origins = [] }

abbrev pub look_up_items : ℕ → List Item
look_up_items a = if a == 0 then [] else Lookup a ∷ []

-- an address that an object may have or end at
abbrev pub IsAddress : ℤ → Type 0
IsAddress z = (n : ℕ) × ((z ≡ pos n) × (n ≤ 2 ^ 47))
