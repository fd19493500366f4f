-- Objects with static storage by their numbers (6.2.4p3), which the definition of typing knows by name.
use Rattle.std.specs.Prelude.{◌≡◌, ℕ, ◌<◌, length, slice_get, is_some, Option, Some, None}
use Rattle.c_types.specs.Types.{qualified_of}
use Rattle.typing_env.specs.Env.{Env, Object}
use Rattle.typing_env.specs.Names.{object_named}
use Rattle.type_scope.specs.declared.rows.ObjectRow.{ObjectRow}
use Rattle.type_scope.specs.declared.state.State.{State}
use Rattle.type_scope.specs.Known.{Naming}

-- no two objects have one name
abbrev pub IsOneToOne : Naming → Type 0
IsOneToOne n = (a b : ℕ) → n a ≡ n b → a ≡ b

-- the row of a number, if there is one
abbrev pub row_in : State → ℕ → Option ObjectRow
row_in s number = slice_get (s.objects).items number

-- a row is that of an object: it has its type, and tells whether it is defined and whether it has its initializer
abbrev pub IsRowOf : Object → Option ObjectRow → Type 0
IsRowOf o None = ⊥
IsRowOf o (Some row) = (qualified_of row.qual ≡ o.qual) × (is_some row.defined ≡ is_some o.defined) × (row.initialized ≡ is_some o.initial)

-- .. where the object is known
abbrev pub IsRow : Option Object → Option ObjectRow → Type 0
IsRow None row = Unit {0}
IsRow (Some o) row = IsRowOf o row

-- each place in the order of first declarations is that of a row
abbrev pub HasPlaces : State → Type 0
HasPlaces s = (k place : ℕ) → slice_get (s.order).items k ≡ Some place → place < length (s.objects).items

-- each object that is known by the name of a number has its row there
abbrev pub HasObjects : Naming → State → Env → Type 0
HasObjects n s env = HasPlaces s × ((number : ℕ) → IsRow (object_named (n number) env.objects) (row_in s number))
