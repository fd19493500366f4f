-- How the parts of an address map go together.
use Rattle.std.specs.Prelude.{◌≡◌, ℕ, ◌+◌, ◌-◌, ◌<◌, ◌≤◌, ◌^◌, ◌==◌, nat_lt, Bool, true, false, List, [], ◌∷◌, Option, Some, None, if◌then◌else◌}
use Rattle.std.specs.BTreeMap.{BTreeMap}
use Rattle.ub_base.specs.declared.names.ObjName.{ObjName}
use Rattle.ub_base.specs.contracts.names.ObjNamePartialEq.TheImpl as object_equality
use Rattle.addr_map.specs.declared.map.Row.{Row}
use Rattle.addr_map.specs.Rows.{free_of, is_lawful, row_of}

-- the rows of these entries
abbrev pub rows_in : List (ℕ × Row) → List Row
rows_in [] = []
rows_in (e ∷ es) = e.1 ∷ rows_in es

-- each row stands at its base
abbrev pub Keyed : List (ℕ × Row) → Type 0
Keyed [] = Unit {0}
Keyed (e ∷ es) = (e.1.base ≡ e.0) × Keyed es

-- no row begins below n
abbrev pub Above : ℕ → List Row → Type 0
Above n [] = Unit {0}
Above n (r ∷ rs) = (n ≤ r.base) × Above n rs

-- each row ends before the next begins
abbrev pub Apart : List Row → Type 0
Apart [] = Unit {0}
Apart (r ∷ rs) = Above (r.base + r.size) rs × Apart rs

-- no row is empty
abbrev pub AllSized : List Row → Type 0
AllSized [] = Unit {0}
AllSized (r ∷ rs) = (0 < r.size) × AllSized rs

abbrev pub or_else : Option Row → Row → Option Row
or_else None r = Some r
or_else (Some s) r = Some s

-- each row is the one of its name
abbrev pub EachFound : List Row → List Row → Type 0
EachFound rows [] = Unit {0}
EachFound rows (r ∷ rs) = (row_of rows r.name ≡ Some r) × EachFound rows rs

-- rows as an address map has them: one ends before the next begins, none is empty, and each has a name of its own
pub record AreApart (rows : List Row) : Type 0 where
  pub apart : Apart rows
  pub sized : AllSized rows
  pub named : EachFound rows rows

-- rows keep the rules of an address map: they stand apart, and each keeps its own rules
pub record IsMap (rows : List Row) : Type 0 where
  pub apart : AreApart rows
  pub lawful : (x : ObjName) (r : Row) → row_of rows x ≡ Some r → is_lawful r ≡ true

-- the last row whose base passes the test
abbrev pub last_row : (ℕ → Bool) → List Row → Option Row
last_row test [] = None
last_row test (r ∷ rs) = if test r.base then or_else (last_row test rs) r else last_row test rs

-- the row where it contains the address
abbrev pub inside_of : ℕ → Option Row → Option Row
inside_of a None = None
inside_of a (Some r) = if nat_lt (a - r.base) r.size then Some r else None

-- the row where it ends at the address
abbrev pub ending_of : ℕ → Option Row → Option Row
ending_of a None = None
ending_of a (Some r) = if (a - r.base) == r.size then Some r else None

-- whether the one row reaches into the other
abbrev pub reaches : Row → Option Row → Bool
reaches x None = false
reaches x (Some s) = nat_lt x.base (s.base + s.size)

-- the equality that the derive gives names
abbrev pub object_eq : ObjName → ObjName → Bool
object_eq = (object_equality.ghosts).eq

-- each row is found by its name and keeps the rules
abbrev pub EachHeld : (ObjName → Option ℕ) → List Row → Type 0
EachHeld bases [] = Unit {0}
EachHeld bases (r ∷ rs) = ((bases r.name ≡ Some r.base) × (is_lawful r ≡ true)) × EachHeld bases rs

pub record IsSound (rows : BTreeMap ℕ Row) (bases : ObjName → Option ℕ) (free : ℕ) : Type 0 where
  pub keyed : Keyed rows.entries
  pub apart : Apart (rows_in rows.entries)
  pub held : EachHeld bases (rows_in rows.entries)
  pub behind : free ≡ free_of (rows_in rows.entries)
  pub bound : free ≤ 2 ^ 47
