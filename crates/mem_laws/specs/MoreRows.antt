-- The rows of a memory, and more rows: an act on what the memory has does the same under both.
use Rattle.std.specs.Prelude.{◌≡◌, ℕ, Bool, true, List, [], ◌∷◌, Some, is_some, ℤ}
use Rattle.ub_base.specs.declared.names.Event.{Event}
use Rattle.ub_base.specs.declared.names.ObjName.{ObjName}
use Rattle.addr_map.specs.declared.map.Row.{Row}
use Rattle.addr_map.specs.Rows.{row_of, covers, past}
use Rattle.addr_map.specs.Sound.{AreApart}
use Rattle.exposure.specs.declared.prov.Prov.{Prov}
use Rattle.exposure.specs.declared.prov.Prov.TheVariants.{Empty, Whole, Either}
use Rattle.c_types.specs.declared.kind.IntKind.{IntKind}
use Rattle.c_types.specs.Types.{CType}
use Rattle.mem_spec.specs.Store.{Store, TaggedByte}
use Rattle.mem_spec.specs.Script.{Script, Bear, Answer, Do, run}
use Rattle.mem_spec.specs.Acts.{Seen, access, load_int, load_func, load_ptr, load_block, store, shift, from_int}

-- each row stays, and an address finds an object of the fewer rows among the more just where it finds it among the fewer
pub record Extends (few more : List Row) : Type 0 where
  pub rows : (x : ObjName) (r : Row) → row_of few x ≡ Some r → row_of more x ≡ Some r
  pub covering : (a : ℕ) (x : ObjName) → covers few a ≡ Some x → covers more a ≡ Some x
  pub covered : (a : ℕ) (x : ObjName) → is_some (row_of few x) ≡ true → covers more a ≡ Some x → covers few a ≡ Some x
  pub passing : (a : ℕ) (x : ObjName) → past few a ≡ Some x → past more a ≡ Some x
  pub passed : (a : ℕ) (x : ObjName) → is_some (row_of few x) ≡ true → past more a ≡ Some x → past few a ≡ Some x

-- such rows are extended by such rows that have each of them
abbrev pub ApartExtend : Type 0
ApartExtend = (few more : List Row) → AreApart few → AreApart more → ((x : ObjName) (r : Row) → row_of few x ≡ Some r → row_of more x ≡ Some r)
    → Extends few more

-- each object that was created has a row
abbrev pub StandIn : List Row → Store → Type 0
StandIn rows s = (x : ObjName) → is_some (s.life x) ≡ true → is_some (row_of rows x) ≡ true

-- each object that a script creates has a row
abbrev pub BearsIn : {V : Type 0} → List Row → Script V → Type 0
BearsIn rows (Do (Bear x size kind declared) k) = (is_some (row_of rows x) ≡ true) × ((r : Unit {0}) → BearsIn rows (k r))
BearsIn rows (Do t k) = (r : Answer t) → BearsIn rows (k r)
BearsIn rows _ = Unit {0}

-- each candidate of a provenance has a row
abbrev pub AreIn : List Row → Prov → Type 0
AreIn rows Empty = Unit {0}
AreIn rows (Whole x) = is_some (row_of rows x) ≡ true
AreIn rows (Either id past start) = (is_some (row_of rows past) ≡ true) × (is_some (row_of rows start) ≡ true)

-- a script that creates only objects with rows does the same under more rows
abbrev pub SameUnderMore : (V : Type 0) → Type 0
SameUnderMore V = (few more : List Row) (act : Script V) (s : Store) → Extends few more → StandIn few s → BearsIn few act → run more act s ≡ run few act s

-- an access through a pointer whose candidates have rows is the same act under more rows
abbrev pub AccessesSame : Type 0
AccessesSame = (few more : List Row) (len align a : ℕ) (prov : Prov) → Extends few more → AreIn few prov
    → access more len align a prov ≡ access few len align a prov

-- the loads, stores and moves of a memory do the same under its rows and under more
pub record ActsSame (few more : List Row) (s : Store) : Type 0 where
  pub load_int : (k : IntKind) (a : ℕ) (prov : Prov) → AreIn few prov → run more (load_int more k a prov) s ≡ run few (load_int few k a prov) s
  pub load_func : (ty : CType) (a : ℕ) (prov : Prov) → AreIn few prov → run more (load_func more ty a prov) s ≡ run few (load_func few ty a prov) s
  pub load_ptr : (ty : CType) (who : Event) (align a : ℕ) (prov : Prov) → AreIn few prov
      → run more (load_ptr more ty who align a prov) s ≡ run few (load_ptr few ty who align a prov) s
  pub load_block : (size align a : ℕ) (prov : Prov) → AreIn few prov
      → run more (load_block more size align a prov) s ≡ run few (load_block few size align a prov) s
  pub store : (first : Bool) (via : Seen) (align a : ℕ) (prov : Prov) (bs : List TaggedByte) → AreIn few prov
      → run more (store more first via align a prov bs) s ≡ run few (store few first via align a prov bs) s
  pub shift : (a : ℕ) (prov : Prov) (by : ℤ) → AreIn few prov → run more (shift more a prov by) s ≡ run few (shift few a prov by) s
  pub from_int : (who : Event) (a : ℕ) → run more (from_int who a) s ≡ run few (from_int who a) s

abbrev pub ActsSameUnderMore : Type 0
ActsSameUnderMore = (few more : List Row) (s : Store) → Extends few more → StandIn few s → ActsSame few more s
