-- Rows of an address map, in the order of their bases (own).
use Rattle.std.specs.Prelude.{
  ℕ,
  ◌+◌,
  ◌-◌,
  ◌*◌,
  ◌/◌,
  ◌%◌,
  ◌^◌,
  ◌≤◌,
  max,
  Bool,
  not,
  ◌&&◌,
  ◌||◌,
  ◌==◌,
  nat_lt,
  nat_le,
  List,
  [],
  ◌∷◌,
  Option,
  Some,
  None,
  is_some,
  if◌then◌else◌,
}
use Rattle.ub_base.specs.declared.names.ObjName.{ObjName}
use Rattle.addr_map.specs.declared.map.Row.{Row}
use Rattle.addr_map.specs.declared.map.Mode.{Mode}
use Rattle.addr_map.specs.declared.map.Mode.TheVariants.{Spaced, Tight}
use Rattle.ub_base.specs.Names.{same_object}

-- the first row that passes the test
abbrev pub first_row : (Row → Bool) → List Row → Option Row
first_row test [] = None
first_row test (r ∷ rs) = if test r then Some r else first_row test rs

abbrev pub row_of : List Row → ObjName → Option Row
row_of rows x = first_row (λ r. same_object r.name x) rows

-- the address lies in the object
abbrev pub contains : Row → ℕ → Bool
contains r a = nat_le r.base a && nat_lt a (r.base + r.size)

-- the object ends just before the address
abbrev pub is_past : Row → ℕ → Bool
is_past r a = a == (r.base + r.size)

abbrev pub name_of : Option Row → Option ObjName
name_of None = None
name_of (Some r) = Some r.name

-- the object that contains the address
abbrev pub covers : List Row → ℕ → Option ObjName
covers rows a = name_of (first_row (λ r. contains r a) rows)

-- the object that has the address one past it
abbrev pub past : List Row → ℕ → Option ObjName
past rows a = name_of (first_row (λ r. is_past r a) rows)

-- the first address behind all rows, from 16,777,216 on
abbrev pub free_of : List Row → ℕ
free_of [] = 16777216
free_of (r ∷ rs) = max (r.base + r.size) (free_of rs)

-- an object of that size can be placed in either mode
abbrev pub IsRoomFor : List Row → ℕ → Type 0
IsRoomFor rows size = free_of rows + size + 32 ≤ 2 ^ 47

abbrev pub is_power : ℕ → Bool
is_power a = a == 1 || (a == 2 || (a == 4 || (a == 8 || a == 16)))

-- the least multiple of m that isn't below a
abbrev pub round_up : ℕ → ℕ → ℕ
round_up a m = (a + (m - 1)) / m * m

-- where the next object goes
abbrev pub base_of : Mode → List Row → ℕ → ℕ
base_of Tight rows align = round_up (free_of rows) align
base_of Spaced rows align = round_up (free_of rows + 16) 16

abbrev pub overlaps : Row → Row → Bool
overlaps r s = nat_lt r.base (s.base + s.size) && nat_lt s.base (r.base + r.size)

-- the row alone keeps the rules
abbrev pub is_lawful : Row → Bool
is_lawful r = nat_lt 0 r.size && (is_power r.align && (r.base % r.align == 0 && (nat_le 16777216 r.base && nat_le (r.base + r.size) (2 ^ 47))))

-- the row can't be added
abbrev pub breaks : List Row → Row → Bool
breaks rows r = not (is_lawful r) || (is_some (row_of rows r.name) || is_some (first_row (λ s. overlaps s r) rows))

-- the rows with one more, in the order of bases
abbrev pub insert_row : Row → List Row → List Row
insert_row r [] = r ∷ []
insert_row r (s ∷ rs) = if nat_lt r.base s.base then r ∷ s ∷ rs else s ∷ insert_row r rs

abbrev pub row_at : ObjName → (base size align : ℕ) → Row
row_at name base size align = record { name = name; base = base; size = size; align = align }
